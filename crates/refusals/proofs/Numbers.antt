-- Document 01's numbers tell the refusals apart.
use Prim.Native.Nat.{ℕ, ◌≤◌}
use native.Mathlib.Omega.{arith}
use mathlib.Core.Path.{◌≡◌, refl, sym, ap, ◌∙◌}
use mathlib.Core.List.{[], ◌∷◌}
use lib.ListN.{get_or}
use Rattle.refusals.specs.declared.Refusal.{Refusal}
use Rattle.refusals.specs.declared.Refusal.TheVariants.{IllFormedLedger, NotAFormula, TooManyNodes, LargeDimension, LargeResult, ShortOutput, FullLedger, NotBelow, NotImplied, DoesNotFollow, NotAccepted, Implied, BeyondProducer}
use Rattle.refusals.specs.Refusals.{number}

-- Back from a number.
numbered : ℕ → Refusal
numbered n = get_or (IllFormedLedger ∷ IllFormedLedger ∷ NotAFormula ∷ TooManyNodes ∷ LargeDimension ∷ LargeResult ∷ ShortOutput ∷ FullLedger ∷ NotBelow ∷ NotImplied ∷ DoesNotFollow ∷ NotAccepted ∷ Implied ∷ []) n BeyondProducer

back : (e : Refusal) → numbered (number e) ≡ e
unfolding numbered
back IllFormedLedger = refl
back NotAFormula = refl
back TooManyNodes = refl
back LargeDimension = refl
back LargeResult = refl
back ShortOutput = refl
back FullLedger = refl
back NotBelow = refl
back NotImplied = refl
back DoesNotFollow = refl
back NotAccepted = refl
back Implied = refl
back BeyondProducer = refl

pub number-one : (e q : Refusal) → number e ≡ number q → e ≡ q
number-one e q h = sym (back e) ∙ ap numbered h ∙ back q

-- A refusal's number is from 1 to 18, the last of document 02.
pub number-range : (e : Refusal) → (1 ≤ number e) × (number e ≤ 18)
number-range IllFormedLedger = (omega arith, omega arith)
number-range NotAFormula = (omega arith, omega arith)
number-range TooManyNodes = (omega arith, omega arith)
number-range LargeDimension = (omega arith, omega arith)
number-range LargeResult = (omega arith, omega arith)
number-range ShortOutput = (omega arith, omega arith)
number-range FullLedger = (omega arith, omega arith)
number-range NotBelow = (omega arith, omega arith)
number-range NotImplied = (omega arith, omega arith)
number-range DoesNotFollow = (omega arith, omega arith)
number-range NotAccepted = (omega arith, omega arith)
number-range Implied = (omega arith, omega arith)
number-range BeyondProducer = (omega arith, omega arith)
