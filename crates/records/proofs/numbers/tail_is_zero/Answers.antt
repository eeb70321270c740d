use Rattle.std.proofs.Common.{rules, arith, length, refl, take, drop, ap, ◌∙◌, ◌-◌, ◌≡◌}
use borrow.Author.Tests.{tests}
use lib.Dec.{eqb}
use lib.ListN.{length-drop}
use lib.Seq.{take_all}
use Rattle.std.proofs.lemmas.Iterator.{YieldsList-from_slice}
use Rattle.std.proofs.lemmas.Iterator.Search.{all_from_yields_List}
use Rattle.calculus.specs.Parse.{all_zero}
use Rattle.records.proofs.NumberLaws.{zeros-all}
use Rattle.records.proofs.numbers.tail_is_zero.Goals as goal

pub returns : goal.returns
returns c =
    let s = c.args.s.now in
    let at = c.args.at in
    let e : c.iter.result.rest.now ≡ take (length s - at) (drop at s) = c.iter.ensures.rest in
    all_from_yields_List (λ b. eqb b 0) _ _ c.all.result c.all.ensures.ran (YieldsList-from_slice c.iter.result.rest.now refl) (λ x b q k. search (rules, tests))
    ∙ zeros-all c.iter.result.rest.now ∙ ap all_zero (e ∙ take_all (length s - at) (drop at s) (omega (arith, length-drop at s)))
