-- What the reader answers (document 01, "Left to right, first met decides"): it goes over the tokens once, with what it still expects
-- and how many nodes the formula at hand may still have.
use Rattle.std.specs.Prelude.{ℕ, zero, suc, pred, Result, Ok, Err, List, [], ◌∷◌}
use Rattle.formula.specs.declared.Sort.{Sort}
use Rattle.formula.specs.declared.Sort.TheVariants.{Faces}
use Rattle.formula.specs.Formula.{Face}
use Rattle.formula.specs.Bytes.{Tree, Node, leaf, lit, one, two, bad, max_nodes, max_bound}
use Rattle.formula.specs.Answers.{pick, same_bytes}
use Rattle.refusals.specs.declared.Refusal.{Refusal}
use Rattle.refusals.specs.declared.Refusal.TheVariants.{TooManyNodes, LargeDimension, NotAccepted}
use Rattle.refusals.specs.Refusals.{map}
use Rattle.text.specs.Tokens
use Rattle.text.specs.Tokens.{Token, opening, word, tokens}
use Rattle.text.specs.Words.{node_named, zero_word, succ-word, entails-word}

-- What is expected: a formula, a further part of one, or what stands behind its opening parenthesis; a number with at most so many
-- s, or what stands behind its opening parenthesis; a closing parenthesis; the word that a claim starts with.
pub data Item : Type 0 where
  formula part part_list : Sort → Item
  number number_list : ℕ → Item
  close claim : Item

-- What is read for a list of items.
abbrev pub Values : List Item → Type 0
Values [] = Unit {0}
Values (formula s ∷ K) = Tree s × Values K
Values (part s ∷ K) = Tree s × Values K
Values (part_list s ∷ K) = Tree s × Values K
Values (number k ∷ K) = ℕ × Values K
Values (number_list k ∷ K) = ℕ × Values K
Values (close ∷ K) = Values K
Values (claim ∷ K) = Values K

-- The reader of the tokens that follow: nodes left, and what is expected.
abbrev pub Reader : Type 0
Reader = ℕ → (K : List Item) → Result (Values K) Refusal

-- One node more: 3 where none is left.
abbrev pub counted : {A : Type 0} → ℕ → (ℕ → Result A Refusal) → Result A Refusal
counted zero k = Err TooManyNodes
counted (suc n) k = k n

-- A word where a formula may stand: only a constant is bare.
abbrev pub bare_node : {A : Type 0} → Node A → ℕ → (K : List Item) → Reader → Result (A × Values K) Refusal
bare_node (leaf t) n K go = counted n (λ m. map (λ v. (t, v)) (go m K))
bare_node (lit g) n K go = Err NotAccepted
bare_node (one g) n K go = Err NotAccepted
bare_node (two g) n K go = Err NotAccepted
bare_node bad n K go = Err NotAccepted

-- The largest dimension, and so the most s that one may have.
abbrev pub max_dim : ℕ
max_dim = pred max_bound

-- The first word in the list of a formula: its parts are expected, and the end of the list.
abbrev pub list_node : (s : Sort) → Node (Tree s) → ℕ → (K : List Item) → Reader → Result (Tree s × Values K) Refusal
list_node s (leaf t) n K go = counted n (λ m. map (λ v. (t, v)) (go m (close ∷ K)))
list_node s (lit g) n K go = counted n (λ m. map (λ v. (g v.0, v.1)) (go m (number max_dim ∷ close ∷ K)))
list_node s (one g) n K go = counted n (λ m. map (λ v. (g v.0, v.1)) (go m (part s ∷ close ∷ K)))
list_node s (two g) n K go = counted n (λ m. map (λ v. (g v.0 v.1.0, v.1.1)) (go m (part s ∷ part s ∷ close ∷ K)))
list_node s bad n K go = Err NotAccepted

-- One s more of a number: 4 where none is left.
abbrev pub succeeded : ℕ → ℕ → (K : List Item) → Reader → Result (ℕ × Values K) Refusal
succeeded zero n K go = Err LargeDimension
succeeded (suc k) n K go = map (λ v. (suc v.0, v.1)) (go n (number k ∷ close ∷ K))

-- A token where a formula may stand.
abbrev pub formula_token : (s : Sort) → Token → ℕ → (K : List Item) → Reader → Result (Tree s × Values K) Refusal
formula_token s opening n K go = go n (part_list s ∷ K)
formula_token s Tokens.closing n K go = Err NotAccepted
formula_token s (word w) n K go = bare_node (node_named s w) n K go

-- A token where an item is expected, by the reader of what follows.
abbrev pub token : (i : Item) → Token → ℕ → (K : List Item) → Reader → Result (Values (i ∷ K)) Refusal
token (formula s) t n K go = formula_token s t max_nodes K go
token (part s) t n K go = formula_token s t n K go
token (part_list s) opening n K go = Err NotAccepted
token (part_list s) Tokens.closing n K go = Err NotAccepted
token (part_list s) (word w) n K go = list_node s (node_named s w) n K go
token (number k) opening n K go = go n (number_list k ∷ K)
token (number k) Tokens.closing n K go = Err NotAccepted
token (number k) (word w) n K go = pick (same_bytes zero_word w) (map (λ v. (0, v)) (go n K)) (Err NotAccepted)
token (number_list k) opening n K go = Err NotAccepted
token (number_list k) Tokens.closing n K go = Err NotAccepted
token (number_list k) (word w) n K go = pick (same_bytes zero_word w) (map (λ v. (0, v)) (go n (close ∷ K))) (pick (same_bytes succ-word w) (succeeded k n K go) (Err NotAccepted))
token close opening n K go = Err NotAccepted
token close Tokens.closing n K go = go n K
token close (word w) n K go = Err NotAccepted
token claim opening n K go = Err NotAccepted
token claim Tokens.closing n K go = Err NotAccepted
token claim (word w) n K go = pick (same_bytes entails-word w) (go n K) (Err NotAccepted)

-- The tokens are to be what is expected, to their end.
unfoldable pub run : List Token → ℕ → (K : List Item) → Result (Values K) Refusal
run [] n [] = Ok tt
run [] n (i ∷ K) = Err NotAccepted
run (t ∷ ts) n [] = Err NotAccepted
run (t ∷ ts) n (i ∷ K) = token i t n K (run ts)

-- The formula that a text is.
unfoldable pub read_formula : (s : Sort) → List ℕ → Result (Tree s) Refusal
read_formula s l = map (λ v. v.0) (run (tokens l) 0 (formula s ∷ []))

-- A claim: d and two faces.
pub record Claimed : Type 0 where
  pub dimensions : ℕ
  pub left : Face
  pub right : Face

-- The claim that a text is.
unfoldable pub read_claim : List ℕ → Result Claimed Refusal
read_claim l = map (λ v. record { dimensions = v.0; left = v.1.0; right = v.1.1.0 }) (run (tokens l) 0 (claim ∷ number max_bound ∷ formula Faces ∷ formula Faces ∷ []))
