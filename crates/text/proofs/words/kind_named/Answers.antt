use Rattle.std.proofs.Common.{◌≡◌, ◌+◌, sym, ap, ◌∙◌, rules, tests}
use Rattle.std.specs.Prelude.{Some, position, option_map}
use Rattle.std.proofs.lemmas.Iterator.{YieldsList-from_slice}
use Rattle.std.proofs.lemmas.Iterator.Search.{position_from_yields_List}
use Rattle.formula.specs.Answers.{same_bytes}
use Rattle.formula.proofs.ByteLaws.{same-pointwise}
use Rattle.text.specs.Words.{names, kind_named, first_kind}
use Rattle.text.proofs.WordLaws.{position-map}
use Rattle.text.proofs.words.kind_named.Goals.{After-position}
use Rattle.text.proofs.words.kind_named.Goals as goal

found : (c : After-position) → c.position.result ≡ position (λ x. same_bytes x c.args.w.now) (names c.args.sort)
found c = position_from_yields_List (λ x. same_bytes x.now c.args.w.now) _ _ c.position.result c.position.ensures.ran (YieldsList-from_slice _ c.iter.ensures.rest) (λ x b q k. search (rules, tests, same-pointwise)) ∙ position-map (λ x. same_bytes x c.args.w.now) (λ x. x.now) _ ∙ ap (position (λ x. same_bytes x c.args.w.now)) c.names.ensures

pub returns-in_err-place : goal.returns-in_err-place
unfolding kind_named
returns-in_err-place c = c.from_residual.ensures ∙ ap (option_map (λ k. first_kind c.args.sort + k)) (sym c.in_err-place.was ∙ found (goal.at.returns-in_err-place c).After-position)

pub returns : goal.returns
unfolding kind_named
returns c = ap (λ n. Some (n + c.in_ok-place.place)) c.first_kind.ensures ∙ ap (option_map (λ k. first_kind c.args.sort + k)) (sym c.in_ok-place.was ∙ found (goal.at.returns c).After-position)
