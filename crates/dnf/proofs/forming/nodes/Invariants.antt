use Rattle.forms.specs.Forms.{weight_of}
use Rattle.forms.proofs.FormLaws.{Summing}
use Rattle.dnf.proofs.forming.nodes.Given as goal

abbrev pub invariant-loop-c : goal.invariant-loop-c
invariant-loop-c l = Summing weight_of l.form l.c-index l.total
