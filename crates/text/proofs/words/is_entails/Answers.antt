use Rattle.std.proofs.Common.{ap, ◌∙◌, eqb}
use Rattle.std.specs.Cmp.Lexicographic.{pointwise}
use Rattle.calculus.specs.Table.{text_bytes}
use Rattle.text.specs.Words.{entails-word}
use Rattle.text.proofs.WordLaws.{same-as}
use Rattle.text.proofs.words.is_entails.Goals as goal

pub returns : goal.returns
unfolding text_bytes
returns c = c.eq.ensures ∙ ap (λ x. pointwise eqb c.args.w.now x) c.as_slice.ensures ∙ same-as entails-word c.args.w.now
