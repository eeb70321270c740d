-- A ledger that grows: what followed still follows, and what is appended has its number.
use mathlib.Core.Path.{◌≡◌, refl, ap₂}
use mathlib.Core.List.{List, [], ◌∷◌, ◌++◌, map}
use Prim.Native.Nat.{ℕ, ◌≤◌, ◌<◌}
use native.Mathlib.Omega.{arith}
use native.Mathlib.Decide.{dec_lt}
use lib.ListN.{length, length-append, get_or-append}
use lib.Seq.{get_or-append_seam}
use Rattle.calculus.specs.Judgement.{Judgement, Step}
use Rattle.calculus.specs.Rules.{step_at, judgement_at, AllBelow, Follows, Valid}

-- A step keeps its place.
pub step-extend : (L T : List Step) (i : ℕ) → i < length L → step_at (L ++ T) i ≡ step_at L i
step-extend L T i b = get_or-append L T _ i b

pub references-extend : (L T : List Step) (n : ℕ) → n ≤ length L → (is : List ℕ) → AllBelow n is → map (judgement_at (L ++ T)) is ≡ map (judgement_at L) is
references-extend L T n w [] b = refl
references-extend L T n w (i ∷ is) b =
    let h : i < length L = omega arith in
    ap₂ (λ (s : Step) (js : List Judgement). s.judgement ∷ js) (step-extend L T i h) (references-extend L T n w is b.1)

-- What followed still follows.
pub follows-extend : (L T : List Step) {n : ℕ} {s : Step} → n ≤ length L → Follows L n s → Follows (L ++ T) n s
follows-extend L T {n} {s} w f = record { earlier = f.earlier; rule = rw (references-extend L T n w s.references f.earlier) f.rule }

-- A valid ledger with a step appended that follows is valid.
pub valid-append : (L : List Step) (s : Step) → Valid L → Follows L (length L) s → Valid (L ++ s ∷ [])
valid-append L s v f i b = go (dec_lt i (length L))
  where
    go : Dec (i < length L) → Follows (L ++ s ∷ []) i (step_at (L ++ s ∷ []) i)
    go (yes h) = rw (step-extend L (s ∷ []) i h) (follows-extend L (s ∷ []) (omega arith) (v i h))
    go (no h) =
        let e : i ≡ length L = omega (arith, length-append L (s ∷ [])) in
        rw (e, get_or-append_seam L s []) (follows-extend L (s ∷ []) (omega arith) f)

-- The empty ledger is valid.
pub valid-nil : Valid []
valid-nil i b = absurd (omega arith)
