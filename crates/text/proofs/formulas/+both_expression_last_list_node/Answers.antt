use Rattle.std.proofs.lemmas.Result.{err_from_is_err_and}
use Rattle.std.proofs.Common.{arith, sym}
use Rattle.text.proofs.ParseLaws.{word-as, part-open, part-word, part-not, list-word, list-not, last-parses, last-refused, both-parses, both-refused, ready-behind, node-full, node-nullary, node-literal, node-unary, node-binary, node-unknown}
use Rattle.text.proofs.formulas.+both_expression_last_list_node.Goals as goal

pub both-returns : goal.both-returns
both-returns t c = let h = c.in_ok-d.ensures in both-parses h.it c.last.ensures

pub both-returns-in_err-d : goal.both-returns-in_err-d
both-returns-in_err-d t c = let p = err_from_is_err_and c.from_residual.result c.from_residual.ensures.1 in rw (p.1, p.2) (both-refused c.in_err-d.ensures)

pub last-returns : goal.last-returns
last-returns t c = let h = c.in_ok-d.ensures in last-parses h.it c.end_list.ensures

pub last-returns-in_err-d : goal.last-returns-in_err-d
last-returns-in_err-d t c = let p = err_from_is_err_and c.from_residual.result c.from_residual.ensures.1 in rw (p.1, p.2) (last-refused c.in_err-d.ensures)

pub expression-returns-in-Open : goal.expression-returns-in-Open
expression-returns-in-Open t c = part-open c.in-Open.ensures c.list.ensures

pub expression-returns-in-Word : goal.expression-returns-in-Word
expression-returns-in-Word t c = part-word c.in-Word.ensures c.bare.ensures

pub expression-returns-in_default : goal.expression-returns-in_default
expression-returns-in_default t c = part-not c.token_at.result c.token_at.ensures c.in_default.not-Open c.in_default.not-Word

pub list-returns : goal.list-returns
list-returns t c = list-word c.in-Word.ensures c.node.ensures

pub list-returns-in_default : goal.list-returns-in_default
list-returns-in_default t c = list-not c.token_at.result c.token_at.ensures c.in_default.not-Word

pub node-returns-in_err-d : goal.node-returns-in_err-d
node-returns-in_err-d t c = let p = err_from_is_err_and c.from_residual.result c.from_residual.ensures.1 in rw (p.1, p.2) (node-full (word-as c.in-Some.ensures) c.in_err-d.ensures)

pub node-returns-in-Nullary : goal.node-returns-in-Nullary
node-returns-in-Nullary t c = node-nullary (word-as c.in-Some.ensures) c.in_ok-d.ensures (sym c.in-Nullary.ensures) c.end_list.ensures

pub node-returns-in-Literal : goal.node-returns-in-Literal
node-returns-in-Literal t c = node-literal (word-as c.in-Some.ensures) c.in_ok-d.ensures (sym c.in-Literal.ensures) c.literal.ensures

pub node-returns-in-Unary : goal.node-returns-in-Unary
node-returns-in-Unary t c = node-unary (word-as c.in-Some.ensures) c.in_ok-d.ensures (sym c.in-Unary.ensures) c.last.ensures

pub node-returns-in-Binary : goal.node-returns-in-Binary
node-returns-in-Binary t c = node-binary (word-as c.in-Some.ensures) c.in_ok-d.ensures (sym c.in-Binary.ensures) c.both.ensures

pub node-returns-in-Unknown : goal.node-returns-in-Unknown
node-returns-in-Unknown t c = node-unknown (word-as c.in-Some.ensures) (sym c.in-Unknown.ensures)

pub both-last-requires : goal.both-last-requires
both-last-requires t c = let h = c.in_ok-d.ensures in (omega (arith, c.decreases, h.it.ahead), ready-behind c.requires h.it)
