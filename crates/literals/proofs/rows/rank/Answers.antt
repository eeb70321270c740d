use mathlib.Core.Path.{ap, ◌∙◌}
use lib.Dec.{eqb}
use lib.ListN.{length}
use Rattle.std.proofs.Common.{rules, tests}
use Rattle.std.specs.Option.{unwrap_or}
use Rattle.std.proofs.lemmas.Iterator.{YieldsList-from_slice}
use Rattle.std.proofs.lemmas.Iterator.Search.{position_from_yields_List}
use Rattle.literals.proofs.RowLaws.{position-or_len}
use Rattle.literals.proofs.rows.rank.Goals as goal

pub returns : goal.returns
returns c =
    let l = c.args.numbers.now in
    let k = c.args.k in
    let found = position_from_yields_List (λ n. eqb n k) _ _ c.position.result c.position.ensures.ran (YieldsList-from_slice l cc) (λ x b q h. search (rules, tests)) in
    c.unwrap_or.ensures ∙ ap (λ r. unwrap_or r (length l)) found ∙ position-or_len k l
