use Rattle.std.proofs.Common.{◌≡◌, sym, ◌∙◌, eqb, rules, tests}
use Rattle.std.specs.Prelude.{position}
use Rattle.std.proofs.lemmas.Iterator.{YieldsList-from_slice}
use Rattle.std.proofs.lemmas.Iterator.Search.{position_from_yields_List}
use Rattle.claims.proofs.AskLaws.{line-found, line-none}
use Rattle.claims.proofs.asking.line_length.Goals.{After-position}
use Rattle.claims.proofs.asking.line_length.Goals as goal

found : (c : After-position) → c.position.result ≡ position (λ b. eqb b 10) c.args.input.now
found c = position_from_yields_List (λ b. eqb b 10) _ _ c.position.result c.position.ensures.ran (YieldsList-from_slice _ c.iter.ensures.rest) (λ x b q k. search (rules, tests))

pub returns-in-Some : goal.returns-in-Some
returns-in-Some c = line-found c.args.input.now (sym (found (goal.at.returns-in-Some c).After-position) ∙ c.in-Some.is)

pub returns-in-None : goal.returns-in-None
returns-in-None c = line-none c.args.input.now (sym (found (goal.at.returns-in-None c).After-position) ∙ c.in-None.is)
