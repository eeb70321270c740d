-- The words of texts.
use Rattle.std.specs.Prelude.{ℕ, ◌+◌, Option, None, Some, option_map, List, [], ◌∷◌, position}
use Rattle.formula.specs.declared.Sort.{Sort}
use Rattle.formula.specs.declared.Sort.TheVariants.{Faces, Intervals}
use Rattle.formula.specs.Bytes.{Tree, Node, bad, node_of}
use Rattle.formula.specs.Answers.{same_bytes}
use Rattle.calculus.specs.Table.{text_bytes}

-- The names of the nodes of a sort, in the order of their kind bytes.
abbrev pub names : Sort → List (List ℕ)
names Faces = text_bytes "ff" ∷ text_bytes "ft" ∷ text_bytes "at0" ∷ text_bytes "at1" ∷ text_bytes "fand" ∷ text_bytes "for" ∷ []
names Intervals = text_bytes "i0" ∷ text_bytes "i1" ∷ text_bytes "dim" ∷ text_bytes "neg" ∷ text_bytes "meet" ∷ text_bytes "join" ∷ []

-- The first kind byte of a sort.
abbrev pub first_kind : Sort → ℕ
first_kind Faces = 0
first_kind Intervals = 16

-- The kind byte that a word names in a sort.
unfoldable pub kind_named : Sort → List ℕ → Option ℕ
kind_named s w = option_map (λ k. first_kind s + k) (position (λ x. same_bytes x w) (names s))

-- The node of a kind byte, where there is one.
abbrev pub node_if : (s : Sort) → Option ℕ → Node (Tree s)
node_if s None = bad
node_if s (Some k) = node_of s k

-- The node that a word names.
abbrev pub node_named : (s : Sort) → List ℕ → Node (Tree s)
node_named s w = node_if s (kind_named s w)

-- The words of unary numbers.
abbrev pub zero_word : List ℕ
zero_word = text_bytes "z"

abbrev pub succ-word : List ℕ
succ-word = text_bytes "s"

-- The word that a claim starts with.
abbrev pub entails-word : List ℕ
entails-word = text_bytes "entails"
