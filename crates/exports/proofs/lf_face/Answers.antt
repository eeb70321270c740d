use borrow.Author.Rules.{rules}
use Rattle.exports.proofs.FitLaws.{numbers}
use Rattle.exports.proofs.lf_face.Goals as goal

pub returns : goal.returns
returns c = search (rules, numbers)
