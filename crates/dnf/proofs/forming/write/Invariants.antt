use lib.ListN.{drop}
use Rattle.forms.specs.Forms.{clause_form}
use Rattle.forms.proofs.FormLaws.{Printing}
use Rattle.dnf.specs.Forming.{form_bytes}
use Rattle.dnf.proofs.forming.write.Given as goal

abbrev pub invariant-loop-c : goal.invariant-loop-c
invariant-loop-c l = Printing (clause_form l.numbers) (form_bytes l.numbers l.form) l.fn.out 0 (drop l.c-index l.form) l.to l.out
