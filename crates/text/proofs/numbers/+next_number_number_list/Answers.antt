use Rattle.std.proofs.Common.{sym, ◌∙◌}
use Rattle.std.proofs.lemmas.Result.{err_from_is_err_and}
use Rattle.text.proofs.ReadLaws.{number-open, number-zero, number-other, number-not, list-zero, list-succ, list-other, list-not, next-read, next-refused}
use Rattle.text.proofs.numbers.+next_number_number_list.Goals as goal

pub next-returns : goal.next-returns
next-returns t c = next-read c.if-most-eq0.false c.in_ok-m.ensures c.closed.ensures

pub next-returns-in_err-m : goal.next-returns-in_err-m
next-returns-in_err-m t c = let p = err_from_is_err_and c.from_residual.result c.from_residual.ensures.1 in rw (p.1, p.2) (next-refused c.if-most-eq0.false c.in_err-m.ensures)

pub number-returns-then-is_zero : goal.number-returns-then-is_zero
number-returns-then-is_zero t c = number-zero c.in-Word.ensures (sym c.is_zero.ensures ∙ c.if-is_zero.true)

pub number-returns-in-Open : goal.number-returns-in-Open
number-returns-in-Open t c = number-open c.in-Open.ensures c.number_list.ensures

pub number-returns-in_default : goal.number-returns-in_default
number-returns-in_default t c = number-not c.token_at.result c.token_at.ensures c.in_default.not-Open c.in_default.not-Word

pub number-returns-else-is_zero : goal.number-returns-else-is_zero
number-returns-else-is_zero t c = number-other c.in-Word.ensures (sym c.is_zero.ensures ∙ c.if-is_zero.false)

pub number_list-returns-then-is_zero : goal.number_list-returns-then-is_zero
number_list-returns-then-is_zero t c = list-zero c.in-Word.ensures (sym c.is_zero.ensures ∙ c.if-is_zero.true) c.closed.ensures

pub number_list-returns-then-is_succ : goal.number_list-returns-then-is_succ
number_list-returns-then-is_succ t c = list-succ c.in-Word.ensures (sym c.is_zero.ensures ∙ c.if-is_zero.false) (sym c.is_succ.ensures ∙ c.if-is_succ.true) c.next.ensures

pub number_list-returns-in_default : goal.number_list-returns-in_default
number_list-returns-in_default t c = list-not c.token_at.result c.token_at.ensures c.in_default.not-Word

pub number_list-returns : goal.number_list-returns
number_list-returns t c = list-other c.in-Word.ensures (sym c.is_zero.ensures ∙ c.if-is_zero.false) (sym c.is_succ.ensures ∙ c.if-is_succ.false)
