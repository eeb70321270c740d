use Rattle.std.proofs.Common.{ap, ◌∙◌, eqb}
use Rattle.std.specs.Cmp.Lexicographic.{pointwise}
use Rattle.calculus.specs.Table.{text_bytes}
use Rattle.text.specs.Words.{succ-word}
use Rattle.text.proofs.WordLaws.{same-as}
use Rattle.text.proofs.words.is_succ.Goals as goal

pub returns : goal.returns
unfolding text_bytes
returns c = c.eq.ensures ∙ ap (λ x. pointwise eqb c.args.w.now x) c.as_slice.ensures ∙ same-as succ-word c.args.w.now
