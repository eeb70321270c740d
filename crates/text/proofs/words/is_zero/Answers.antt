use Rattle.std.proofs.Common.{ap, ◌∙◌, eqb}
use Rattle.std.specs.Cmp.Lexicographic.{pointwise}
use Rattle.calculus.specs.Table.{text_bytes}
use Rattle.text.specs.Words.{zero_word}
use Rattle.text.proofs.WordLaws.{same-as}
use Rattle.text.proofs.words.is_zero.Goals as goal

pub returns : goal.returns
unfolding text_bytes
returns c = c.eq.ensures ∙ ap (λ x. pointwise eqb c.args.w.now x) c.as_slice.ensures ∙ same-as zero_word c.args.w.now
