-- The numbers of answers, by their cases.
use mathlib.Core.Path.{◌≡◌, refl, ap}
use mathlib.Core.Bool.{not}
use Prim.Native.Nat.{ℕ, zero, suc}
use lib.Dec.{eqb, eqb-suc-zero}
use Rattle.numbers.specs.Answers.{is_one}

pub is_one-from_zero : (n : ℕ) → not (eqb n 0) ≡ is_one n
is_one-from_zero zero = refl
is_one-from_zero (suc n) = ap not (eqb-suc-zero n)
