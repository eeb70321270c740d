-- What is met first in a text (document 01, "Left to right, first met decides"), by the beginnings of the text and the grammar alone.
use Rattle.std.specs.Prelude.{ℕ, zero, suc, ◌+◌, ◌<◌, ◌≡◌, List, [], ◌∷◌, ◌++◌}
use Rattle.formula.specs.declared.Sort.{Sort}
use Rattle.formula.specs.declared.Sort.TheVariants.{Faces}
use Rattle.formula.specs.Formula.{Face}
use Rattle.formula.specs.Bytes.{Tree, Node, leaf, lit, one, two, bad, max_nodes, max_bound}
use Rattle.refusals.specs.declared.Refusal.{Refusal}
use Rattle.refusals.specs.declared.Refusal.TheVariants.{TooManyNodes, LargeDimension, NotAccepted}
use Rattle.text.specs.Tokens
use Rattle.text.specs.Tokens.{Token, opening, word}
use Rattle.text.specs.Words.{node_named, succ-word, entails-word}
use Rattle.text.specs.Grammar.{Number, Formula, Claim}
use Rattle.text.specs.Reading.{max_dim}

-- What is met first ------------------------------------------------------------------------------------

-- The tokens begin a text: with some tokens behind them they are one.
pub record Begins (Whole : List Token → Type 0) (P : List Token) : Type 0 where
  pub rest : List Token
  pub whole : Whole (P ++ rest)

-- Nothing is wrong with the tokens: they begin a text, and have neither too many nodes nor too large a number.
pub record Fine (Whole TooMany TooLarge : List Token → Type 0) (P : List Token) : Type 0 where
  pub begins : Begins Whole P
  pub few : TooMany P → ⊥
  pub small : TooLarge P → ⊥

-- What is wrong with the tokens: 11 where they begin no text; 3 and 4 where they begin one, and go beyond a limit.
pub data Wrong (Whole TooMany TooLarge : List Token → Type 0) (P : List Token) : Refusal → Type 0 where
  no_text : (Begins Whole P → ⊥) → Wrong Whole TooMany TooLarge P NotAccepted
  many : Begins Whole P → TooMany P → Wrong Whole TooMany TooLarge P TooManyNodes
  large : Begins Whole P → TooLarge P → Wrong Whole TooMany TooLarge P LargeDimension

-- Nothing is wrong with any beginning of the tokens, from none of them to all.
abbrev pub Kept : (Whole TooMany TooLarge : List Token → Type 0) → List Token → Type 0
Kept Whole TooMany TooLarge P = (Q rest : List Token) → P ≡ Q ++ rest → Fine Whole TooMany TooLarge Q

-- What is met first: something wrong with the tokens up to x, and with no beginning before; or the end of what is no text, though
-- nothing is wrong with any beginning.
pub data Met (Whole TooMany TooLarge : List Token → Type 0) (ts : List Token) : Refusal → Type 0 where
  at-token : {e : Refusal} (P : List Token) (x : Token) (rest : List Token) → ts ≡ P ++ x ∷ rest → Kept Whole TooMany TooLarge P → Wrong Whole TooMany TooLarge (P ++ x ∷ []) e → Met Whole TooMany TooLarge ts e
  at-end : Kept Whole TooMany TooLarge ts → (Whole ts → ⊥) → Met Whole TooMany TooLarge ts NotAccepted

-- The limits of a formula ------------------------------------------------------------------------------

-- One for a word that names a node, none for another.
abbrev pub is_head : {A : Type 0} → Node A → ℕ
is_head (leaf t) = 1
is_head (lit g) = 1
is_head (one g) = 1
is_head (two g) = 1
is_head bad = 0

-- How many words name a node of the sort.
unfoldable pub heads : Sort → List Token → ℕ
heads s [] = 0
heads s (opening ∷ P) = heads s P
heads s (Tokens.closing ∷ P) = heads s P
heads s (word w ∷ P) = is_head (node_named s w) + heads s P

-- k times ( s.
abbrev pub pairs : ℕ → List Token
pairs zero = []
pairs (suc k) = opening ∷ word succ-word ∷ pairs k

-- The tokens end with k times ( s.
pub record EndsIn (k : ℕ) (P : List Token) : Type 0 where
  pub front : List Token
  pub is : P ≡ front ++ pairs k

-- The texts of the formulas of a sort, of whatever size.
abbrev pub FormulaText : Sort → List Token → Type 0
FormulaText s ts = (t : Tree s) × Formula s t ts []

-- The tokens have the head of a 512th node.
abbrev pub ManyNodes : Sort → List Token → Type 0
ManyNodes s P = max_nodes < heads s P

-- The tokens end with the 255th s of a dimension.
abbrev pub ManySuccs : List Token → Type 0
ManySuccs P = EndsIn (suc max_dim) P

-- What is met first in a text of a formula.
abbrev pub FormulaMet : Sort → List Token → Refusal → Type 0
FormulaMet s = Met (FormulaText s) (ManyNodes s) ManySuccs

-- The limits of a claim --------------------------------------------------------------------------------

-- The texts of numbers.
abbrev pub NumberText : List Token → Type 0
NumberText ts = (d : ℕ) × Number d ts []

-- The texts of claims, of whatever size.
abbrev pub ClaimText : List Token → Type 0
ClaimText ts = (d : ℕ) × (a : Face) × (b : Face) × Claim d a b ts []

-- What stands in front of a face of a claim: the word entails and d; for the second face, the first besides.
pub data Front : List Token → Type 0 where
  of-first : {D : List Token} → NumberText D → Front (word entails-word ∷ D)
  of-second : {D F : List Token} → NumberText D → FormulaText Faces F → Front (word entails-word ∷ D ++ F)

-- The tokens end inside a face of a claim, and those of that face are such.
pub record InFace (Such : List Token → Type 0) (P : List Token) : Type 0 where
  pub front : List Token
  pub face : List Token
  pub is : P ≡ front ++ face
  pub before : Front front
  pub begins : Begins (FormulaText Faces) face
  pub such : Such face

-- The tokens end inside d, with its 256th s.
pub record LargeD (P : List Token) : Type 0 where
  pub number : List Token
  pub is : P ≡ word entails-word ∷ number
  pub begins : Begins NumberText number
  pub such : EndsIn (suc max_bound) number

-- The tokens end with the 256th s of d, or with the 255th of a dimension.
pub data LargeNumber (P : List Token) : Type 0 where
  of-d : LargeD P → LargeNumber P
  of-face : InFace ManySuccs P → LargeNumber P

-- What is met first in a text of a claim: the nodes of each face are counted by themselves.
abbrev pub ClaimMet : List Token → Refusal → Type 0
ClaimMet = Met ClaimText (InFace (ManyNodes Faces)) LargeNumber
