-- The accepted texts (document 01, "Text and listing"), as a grammar over tokens. Each relation says that the first list of tokens is
-- a text of the thing followed by the second list. It knows no limits, and not how a reader goes.
use Rattle.std.specs.Prelude.{ℕ, suc, ◌≡◌, List, ◌∷◌}
use Rattle.formula.specs.declared.Sort.{Sort}
use Rattle.formula.specs.declared.Sort.TheVariants.{Faces}
use Rattle.formula.specs.Formula.{Face}
use Rattle.formula.specs.Bytes.{Tree, leaf, lit, one, two}
use Rattle.text.specs.Tokens.{Token, opening, closing, word}
use Rattle.text.specs.Words.{node_named, zero_word, succ-word, entails-word}

-- Numbers are unary: z, (z), or (s n).
pub data Number : ℕ → List Token → List Token → Type 0 where
  bare-zero : {w : List ℕ} {us : List Token} → w ≡ zero_word → Number 0 (word w ∷ us) us
  zero-list : {w : List ℕ} {us : List Token} → w ≡ zero_word → Number 0 (opening ∷ word w ∷ closing ∷ us) us
  succ-list : {w : List ℕ} {n : ℕ} {ts us : List Token} → w ≡ succ-word → Number n ts (closing ∷ us) → Number (suc n) (opening ∷ word w ∷ ts) us

-- Formulas: a constant bare or alone in a list; else a list of the node's name and its parts, a literal's being a number.
pub data Formula (s : Sort) : Tree s → List Token → List Token → Type 0 where
  bare-leaf : {w : List ℕ} {t : Tree s} {us : List Token} → node_named s w ≡ leaf t → Formula s t (word w ∷ us) us
  leaf-list : {w : List ℕ} {t : Tree s} {us : List Token} → node_named s w ≡ leaf t → Formula s t (opening ∷ word w ∷ closing ∷ us) us
  lit-list : {w : List ℕ} {g : ℕ → Tree s} {n : ℕ} {ts us : List Token} → node_named s w ≡ lit g → Number n ts (closing ∷ us) → Formula s (g n) (opening ∷ word w ∷ ts) us
  one_list : {w : List ℕ} {g : Tree s → Tree s} {a : Tree s} {ts us : List Token} → node_named s w ≡ one g → Formula s a ts (closing ∷ us) → Formula s (g a) (opening ∷ word w ∷ ts) us
  two-list : {w : List ℕ} {g : Tree s → Tree s → Tree s} {a b : Tree s} {ts us vs : List Token} → node_named s w ≡ two g → Formula s a ts us → Formula s b us (closing ∷ vs) → Formula s (g a b) (opening ∷ word w ∷ ts) vs

-- A claim: the word entails, d, and two faces.
pub data Claim : ℕ → Face → Face → List Token → List Token → Type 0 where
  entails : {w : List ℕ} {d : ℕ} {a b : Face} {ts us vs ws : List Token} → w ≡ entails-word → Number d ts us → Formula Faces a us vs → Formula Faces b vs ws → Claim d a b (word w ∷ ts) ws
