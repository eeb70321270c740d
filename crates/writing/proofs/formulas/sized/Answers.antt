use Rattle.std.proofs.Common.{rules, sym}
use Rattle.writing.proofs.DeliverLaws.{sized-short, sized-wrote}
use Rattle.writing.proofs.formulas.sized.Goals as goal

pub returns-then-short : goal.returns-then-short
returns-then-short c = sized-short c.formula.ensures.prints c.if-short.true

pub returns : goal.returns
returns c = sized-wrote c.formula.ensures.prints c.if-short.false c.formula-2.ensures.prints (let s = c.formula-2.ensures.same in search (rules, s, sym))
