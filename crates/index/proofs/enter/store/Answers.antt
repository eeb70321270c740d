use mathlib.Core.Path.{◌≡◌, ap, ◌∙◌}
use Prim.Native.Nat.{ℕ, ◌+◌, ◌-◌, ◌*◌, ◌/◌}
use lib.ListN.{set, get_or}
use Rattle.index.specs.Index.{heads_of, linked}
use Rattle.index.proofs.enter.store.Goals as goal

pub returns : goal.returns
unfolding linked
returns c = let a = c.args in
    let y = c.note.new.x in
    let e : c.heads.result ≡ heads_of a.x.now = c.heads.ensures ∙ ap (λ (m : ℕ). 4 * ((m - 2) / 21) + 1) c.note.auto.x in
    record { base = y; placed = c.note.ensures; whole = ap (λ (h : ℕ). set (set (set y (1 + h + a.n) (get_or y (1 + a.b) 0)) (1 + a.b) (a.n + 1)) 0 (a.n + 1)) e }
