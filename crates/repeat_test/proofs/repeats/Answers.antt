use Rattle.std.proofs.Common.{ap, sym, Ok, ◌∙◌}
use Rattle.std.proofs.lemmas.Result.{err_from_is_err_and}
use Rattle.repeat_test.proofs.TestLaws.{both_read, ill-left, ill-right}
use Rattle.repeat_test.proofs.repeats.Goals as goal

pub returns-in_err-n : goal.returns-in_err-n
returns-in_err-n c = let p = err_from_is_err_and c.from_residual.result c.from_residual.ensures.1 in rw (p.1, p.2) (ill-left _ _ (sym c.in_err-n.ensures))

pub returns-in_err-k : goal.returns-in_err-k
returns-in_err-k c = let p = err_from_is_err_and c.from_residual-in_err-k.result c.from_residual-in_err-k.ensures.1 in rw (p.1, p.2) (ill-right _ _ (sym c.in_err-k.ensures))

pub end_alike-requires : goal.end_alike-requires
end_alike-requires c = (sym c.in_ok-n.ensures, sym c.in_ok-k.ensures)

pub returns : goal.returns
returns c = let a = c.args in ap Ok c.end_alike.ensures ∙ sym (both_read a.l.now a.m.now (sym c.in_ok-n.ensures) (sym c.in_ok-k.ensures))
