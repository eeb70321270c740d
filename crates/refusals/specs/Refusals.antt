-- Refusals: document 01's numbers, and what is answered where something may be refused.
use Rattle.std.specs.Prelude.{ℕ, true, false, leb, Result, Ok, Err}
use Rattle.refusals.specs.declared.Refusal.{Refusal}
use Rattle.refusals.specs.declared.Refusal.TheVariants.{IllFormedLedger, NotAFormula, TooManyNodes, LargeDimension, LargeResult, ShortOutput, FullLedger, NotBelow, NotImplied, DoesNotFollow, NotAccepted, Implied, BeyondProducer}

-- The number of a refusal (document 01, "Questions at the door"; from 12 on document 02).
abbrev pub number : Refusal → ℕ
number IllFormedLedger = 1
number NotAFormula = 2
number TooManyNodes = 3
number LargeDimension = 4
number LargeResult = 5
number ShortOutput = 6
number FullLedger = 7
number NotBelow = 8
number NotImplied = 9
number DoesNotFollow = 10
number NotAccepted = 11
number Implied = 12
number BeyondProducer = 13

-- The one with the lower number: the first no decides.
abbrev pub earlier : Refusal → Refusal → Refusal
earlier e q = elim (leb (number e) (number q)) [ true ↦ e | false ↦ q ]

-- What is made of an answer to a question that may be refused; and what is made of it where that may be refused too.
abbrev pub map : {A B : Type 0} → (A → B) → Result A Refusal → Result B Refusal
map f (Err e) = Err e
map f (Ok x) = Ok (f x)

abbrev pub of_one : {A B : Type 0} → (A → Result B Refusal) → Result A Refusal → Result B Refusal
of_one f (Err e) = Err e
of_one f (Ok x) = f x

-- The same of two: each question is asked of both before the next.
abbrev pub of_two : {A B C : Type 0} → (A → B → Result C Refusal) → Result A Refusal → Result B Refusal → Result C Refusal
of_two f (Err e) (Err q) = Err (earlier e q)
of_two f (Err e) (Ok b) = Err e
of_two f (Ok a) (Err q) = Err q
of_two f (Ok a) (Ok b) = f a b
