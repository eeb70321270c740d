-- What is asked, once it is known which program it is; and the room of an index.
use mathlib.Core.Path.{◌≡◌, sym, subst}
use mathlib.Core.List.{List}
use Prim.Native.Nat.{ℕ, ◌-◌, ◌*◌, ◌/◌, ◌≤◌}
use native.Mathlib.Omega.{arith}
use lib.ListN.{length, replicate, length-replicate}
use Rattle.index.specs.Index.{Roomy}
use Rattle.steps.specs.declared.producer.Producer.{Producer}
use Rattle.steps.specs.Running.{Ran}
use Rattle.steps.specs.Producing.{RunsFor}
use Rattle.programs.specs.declared.Program.{Program}
use Rattle.programs.specs.Programs.{program_of, Ready}

pub ready : {p q : Program} (a b c e : List ℕ) → p ≡ q → Ready p a b c e → Ready q a b c e
ready a b c e k h = subst (λ (z : Program). Ready z a b c e) k h

pub asked-runs : {q q' : Program} {p p' : Producer} {r : Ran} (a b : List ℕ) → q ≡ q' → RunsFor p (program_of q' a b) r p' → RunsFor p (program_of q a b) r p'
asked-runs {p = p} {p' = p'} {r = r} a b k h = subst (λ (z : Program). RunsFor p (program_of z a b) r p') (sym k) h

-- An index of n numbers has room for a ledger of 128 bytes to a group.
pub roomy : (l : List ℕ) (n : ℕ) → length l ≤ 128 * ((n - 2) / 21) → Roomy l (replicate n 0)
roomy l n k = omega (arith, length-replicate {A = ℕ} n 0)
