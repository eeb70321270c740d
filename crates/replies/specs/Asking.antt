-- Questions 1 to 4, of which the first no decides.
use Rattle.std.specs.Prelude.{Bool, ◌&&◌, List, leb, Result, Ok, Err, ⊤}
use Rattle.std.proofs.Math.Option.{Option, none, some}
use Rattle.formula.specs.declared.Sort.{Sort}
use Rattle.formula.specs.Bytes.{Tree, nodes, bound, max_nodes, max_bound}
use Rattle.formula.specs.Answers.{pick}
use Rattle.calculus.specs.Judgement.{Step}
use Rattle.refusals.specs.declared.Refusal.{Refusal}
use Rattle.refusals.specs.declared.Refusal.TheVariants.{IllFormedLedger, NotAFormula, TooManyNodes, LargeDimension}

-- May a call go on, or why not?
abbrev pub Gate : Type 0
Gate = Result ⊤ Refusal

-- Questions 3 and 4.
abbrev pub limits_gate : Bool → Bool → Gate
limits_gate few low = pick few (pick low (Ok tt) (Err LargeDimension)) (Err TooManyNodes)

-- Question 1, then the others.
abbrev pub ledger_gate : Option (List Step) → Gate → Gate
ledger_gate none g = Err IllFormedLedger
ledger_gate (some L) g = g

-- Questions 2 to 4 of one formula and a number that is low or not, and of two.
abbrev pub operand_gate : (s : Sort) → Option (Tree s) → Bool → Gate
operand_gate s none low = Err NotAFormula
operand_gate s (some t) low = limits_gate (leb (nodes s t) max_nodes) (low && leb (bound s t) max_bound)

abbrev pub operands_gate : (s : Sort) → Option (Tree s) → (z : Sort) → Option (Tree z) → Bool → Gate
operands_gate s none z o low = Err NotAFormula
operands_gate s (some t) z none low = Err NotAFormula
operands_gate s (some t) z (some u) low =
    limits_gate (leb (nodes s t) max_nodes && leb (nodes z u) max_nodes) (low && (leb (bound s t) max_bound && leb (bound z u) max_bound))
