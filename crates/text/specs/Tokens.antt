-- The tokens of a text (document 01, "Text and listing"): parentheses and runs of other bytes; bytes 32 and 10 separate.
use Rattle.std.specs.Prelude.{ℕ, Bool, true, false, List, [], ◌∷◌, eqb}
use Rattle.formula.specs.Answers.{pick}
use Rattle.text.specs.declared.Class.{Class}
use Rattle.text.specs.declared.Class.TheVariants.{Opening, Closing, Separator, Spelling}

-- A token: a parenthesis, or a word.
pub data Token : Type 0 where
  opening closing : Token
  word : List ℕ → Token

-- What a byte is: ( opens, ) closes, a space and byte 10 separate, all others spell words.
abbrev pub class_of : ℕ → Class
class_of b = pick (eqb b 40) Opening (pick (eqb b 41) Closing (pick (eqb b 32) Separator (pick (eqb b 10) Separator Spelling)))

-- Is it a part of a word?
abbrev pub is_spelling : Class → Bool
is_spelling Opening = false
is_spelling Closing = false
is_spelling Separator = false
is_spelling Spelling = true

-- Does the list begin inside a word?
abbrev pub begins_word : List ℕ → Bool
begins_word [] = false
begins_word (b ∷ l) = is_spelling (class_of b)

-- A byte in front of the word that the tokens begin with.
abbrev pub longer : ℕ → List Token → List Token
longer b [] = word (b ∷ []) ∷ []
longer b (opening ∷ ts) = word (b ∷ []) ∷ opening ∷ ts
longer b (closing ∷ ts) = word (b ∷ []) ∷ closing ∷ ts
longer b (word w ∷ ts) = word (b ∷ w) ∷ ts

-- A byte in front of tokens; the flag tells whether a word goes on behind it.
abbrev pub before : Class → ℕ → Bool → List Token → List Token
before Opening b goes_on ts = opening ∷ ts
before Closing b goes_on ts = closing ∷ ts
before Separator b goes_on ts = ts
before Spelling b true ts = longer b ts
before Spelling b false ts = word (b ∷ []) ∷ ts

-- The tokens of a text.
unfoldable pub tokens : List ℕ → List Token
tokens [] = []
tokens (b ∷ l) = before (class_of b) b (begins_word l) (tokens l)
