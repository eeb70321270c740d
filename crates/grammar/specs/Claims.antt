-- A claim as a text: the word entails, d and two faces, one space between them.
use Rattle.std.specs.Prelude.{ℕ, List, ◌∷◌, ◌++◌}
use Rattle.formula.specs.Formula.{Face}
use Rattle.text.specs.Words.{entails-word}
use Rattle.writing.specs.Texts.{unary_text, face_text}

-- The text of a claim, as the writer prints its parts.
unfoldable pub claim_text : ℕ → Face → Face → List ℕ
claim_text d a b = entails-word ++ (32 ∷ unary_text d ++ (32 ∷ face_text a ++ (32 ∷ face_text b)))
