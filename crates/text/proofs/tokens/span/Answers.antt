use Rattle.std.proofs.Common.{◌≡◌, ◌+◌, sym, ap, ◌∙◌, arith, rules, tests, drop, length, length-drop}
use Rattle.std.specs.Prelude.{position}
use Rattle.std.proofs.lemmas.Iterator.{YieldsList-from_slice}
use Rattle.std.proofs.lemmas.Iterator.Search.{position_from_yields_List}
use Rattle.std.proofs.lemmas.Slice.{between_to_end}
use Rattle.text.proofs.ScanLaws.{other, span-found, span-none}
use Rattle.text.proofs.tokens.span.Goals.{After-position}
use Rattle.text.proofs.tokens.span.Goals as goal

found : (c : After-position) → c.position.result ≡ position (λ b. other c.args.class b) (drop c.args.from c.args.text.now)
found c =
    position_from_yields_List (λ b. other c.args.class b) _ _ c.position.result c.position.ensures.ran (YieldsList-from_slice _ c.iter.ensures.rest) (λ x b q k. search (rules, tests))
    ∙ ap (position (λ b. other c.args.class b)) (between_to_end c.args.text.now c.args.from (length c.args.text.now) (omega arith))

pub returns-in-Some : goal.returns-in-Some
returns-in-Some c = ap (λ n. c.args.from + n) (span-found c.args.class (drop c.args.from c.args.text.now) (sym (found (goal.at.returns-in-Some c).After-position) ∙ c.in-Some.is))

pub returns-in-None : goal.returns-in-None
returns-in-None c = let p = span-none c.args.class (drop c.args.from c.args.text.now) (sym (found (goal.at.returns-in-None c).After-position) ∙ c.in-None.is) in omega (arith, p, c.requires, length-drop c.args.from c.args.text.now)
