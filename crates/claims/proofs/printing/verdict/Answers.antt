use Rattle.std.proofs.Common.{rules, sym}
use Rattle.claims.proofs.PrintLaws.{wrote-same}
use Rattle.claims.proofs.printing.verdict.Goals as goal

pub returns : goal.returns
returns c = wrote-same (let s = c.last_line.ensures.same in search (rules, s, sym)) c.last_line.ensures.wrote
