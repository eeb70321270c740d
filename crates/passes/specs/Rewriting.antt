-- Passes over a formula that is known to be one: its nodes as tokens, and what each becomes.
use Prim.Native.Nat.{ℕ, pred, ◌+◌, ◌-◌, ◌≤◌, ◌<◌, max, compare}
use Rattle.std.specs.Prelude.{◌≡◌, List, [], ◌∷◌, ◌++◌, eqb, length, Option, Some, None}
use Rattle.std.proofs.lemmas.List.Edits.{sets}
use Rattle.formula.specs.Formula.{End, lo, hi, other, end_of, Face, ff, ft, at, fand, for, Interval, i0, i1, dim, neg, meet, join, beside, raised}
use Rattle.formula.specs.Bytes.{Tree, dim_width, dim_bytes, encode_face, encode}
use Rattle.formula.specs.Answers.{pick, dim_space, kind_of, tree_of}
use Rattle.formula.specs.declared.Sort.{Sort}
use Rattle.formula.specs.declared.Sort.TheVariants.{Faces, Intervals}
use Rattle.formula.specs.declared.Size.{Size}
use Rattle.formula.specs.declared.Kind.{Kind}
use Rattle.formula.specs.declared.Kind.TheVariants.{Nullary, Literal, Unary, Binary, Unknown}
use Rattle.passes.specs.declared.Rule.{Rule}
use Rattle.passes.specs.declared.Rule.TheVariants.{Up, Down, Ends}

-- a list that is a formula within the limits: its bytes are at most twice its nodes
pub record Whole (s : Sort) (l : List ℕ) : Type 0 where
  pub bytes : encode s (tree_of s l) ≡ l
  pub short : length l ≤ 1022

-- the nodes of a formula in the order of its bytes: a literal with its dimension, or any other, each with its kind byte
pub data Token : Type 0 where
  plain : ℕ → Token
  literal : ℕ → ℕ → Token

unfoldable pub tokens_face : Face → List Token
tokens_face ff = plain 0 ∷ []
tokens_face ft = plain 1 ∷ []
tokens_face (at lo n) = literal 2 n ∷ []
tokens_face (at hi n) = literal 3 n ∷ []
tokens_face (fand a b) = plain 4 ∷ tokens_face a ++ tokens_face b
tokens_face (for a b) = plain 5 ∷ tokens_face a ++ tokens_face b

unfoldable pub tokens_interval : Interval → List Token
tokens_interval i0 = plain 16 ∷ []
tokens_interval i1 = plain 17 ∷ []
tokens_interval (dim n) = literal 18 n ∷ []
tokens_interval (neg r) = plain 19 ∷ tokens_interval r
tokens_interval (meet r s) = plain 20 ∷ tokens_interval r ++ tokens_interval s
tokens_interval (join r s) = plain 21 ∷ tokens_interval r ++ tokens_interval s

abbrev pub tokens : (s : Sort) → Tree s → List Token
tokens Faces f = tokens_face f
tokens Intervals r = tokens_interval r

abbrev pub tokens_of : Sort → List ℕ → List Token
tokens_of s l = tokens s (tree_of s l)

-- where a dimension goes: to another, or it is the one that is replaced
abbrev pub moved_to : Rule → ℕ → Option ℕ
moved_to (Up k) n = Some (raised k n)
moved_to (Down k) n = beside (compare n k) (Some n) None (Some (pred n))
moved_to Ends n = Some n

-- sums of sizes
infixr 60 ◌⊕◌
abbrev pub ◌⊕◌ : Size → Size → Size
◌⊕◌ a b = record { len = a.len + b.len; nodes = a.nodes + b.nodes; bound = max a.bound b.bound }

abbrev pub zero_size : Size
zero_size = record { len = 0; nodes = 0; bound = 0 }

abbrev pub plain_size : Size
plain_size = record { len = 1; nodes = 1; bound = 0 }

unfoldable pub weighs : (Token → Size) → List Token → Size
weighs f [] = zero_size
weighs f (t ∷ ts) = f t ⊕ weighs f ts

-- the size of what a token becomes: the boundary of a negation has no node for it
abbrev pub plain_weight : Rule → Kind → Size
plain_weight (Up k) x = plain_size
plain_weight (Down k) x = plain_size
plain_weight Ends Nullary = plain_size
plain_weight Ends Literal = plain_size
plain_weight Ends Unary = zero_size
plain_weight Ends Binary = plain_size
plain_weight Ends Unknown = plain_size

abbrev pub moved_weight : Option ℕ → Size → Size
moved_weight (Some m) hit = record { len = 1 + dim_width; nodes = 1; bound = m + 1 }
moved_weight None hit = hit

abbrev pub weight_of : Sort → Rule → Size → Token → Size
weight_of s rule hit (plain b) = plain_weight rule (kind_of s b)
weight_of s rule hit (literal b n) = moved_weight (moved_to rule n) hit

-- how much a size may be for sums of them to be in range
pub record Small (z : Size) : Type 0 where
  pub len : z.len ≤ 1022
  pub nodes : z.nodes ≤ 511

-- the bytes that a token becomes
unfoldable pub spell : (Token → List ℕ) → List Token → List ℕ
spell f [] = []
spell f (t ∷ ts) = f t ++ spell f ts

abbrev pub moved_bytes : ℕ → Option ℕ → List ℕ → List ℕ → List ℕ
moved_bytes b (Some m) zero-side one_side = b ∷ dim_bytes m
moved_bytes b None zero-side one_side = pick (eqb b 3) one_side zero-side

abbrev pub image_of : Rule → List ℕ → List ℕ → Token → List ℕ
image_of rule zero-side one_side (plain b) = b ∷ []
image_of rule zero-side one_side (literal b n) = moved_bytes b (moved_to rule n) zero-side one_side

-- every dimension goes to one that its field can hold
abbrev pub Fielded : Option ℕ → Type 0
Fielded (Some m) = m < dim_space
Fielded None = Unit {0}

abbrev pub FieldedAt : Rule → Token → Type 0
FieldedAt rule (plain b) = Unit {0}
FieldedAt rule (literal b n) = Fielded (moved_to rule n)

abbrev pub AllTokens : (Token → Type 0) → List Token → Type 0
AllTokens P [] = Unit {0}
AllTokens P (t ∷ ts) = P t × AllTokens P ts

-- bytes stand in a list from o on, and the place behind them is answered
pub record Wrote (d : List ℕ) (o : ℕ) (bytes : List ℕ) (r : ℕ) (d' : List ℕ) : Type 0 where
  pub next : r ≡ o + length bytes
  pub stored : d' ≡ sets d o bytes

pub record Rewritable (s : Sort) (rule : Rule) (l zero-side one_side : List ℕ) (n : ℕ) : Type 0 where
  pub whole : Whole s l
  pub fields : AllTokens (FieldedAt rule) (tokens_of s l)
  pub room : length (spell (image_of rule zero-side one_side) (tokens_of s l)) ≤ n

-- the two sides of a boundary: a stack of the ends of the expressions that are still to come
abbrev pub bit : End → ℕ
bit lo = 0
bit hi = 1

abbrev pub plain_side : ℕ → Kind → ℕ → List ℕ
plain_side e Nullary b = pick (eqb b (16 + e)) 1 0 ∷ []
plain_side e Literal b = []
plain_side e Unary b = []
plain_side e Binary b = pick (eqb b 20) (5 - e) (4 + e) ∷ []
plain_side e Unknown b = []

abbrev pub side_bytes : ℕ → Token → List ℕ
side_bytes e (plain b) = plain_side e (kind_of Intervals b) b
side_bytes e (literal b n) = encode_face (at (end_of e) n)

-- a stack behind a node of this kind, whose own entry is off it: x for its one part, y for each of its two
abbrev pub stacked : {A : Type 0} → Kind → A → A → List A → List A
stacked Nullary x y l = l
stacked Literal x y l = l
stacked Unary x y l = x ∷ l
stacked Binary x y l = y ∷ y ∷ l
stacked Unknown x y l = l

-- neg turns the end round
abbrev pub push_kind : Kind → End → List End → List End
push_kind k e es = stacked k (other e) e es

abbrev pub pushed : Token → End → List End → List End
pushed (plain b) e es = push_kind (kind_of Intervals b) e es
pushed (literal b n) e es = es

unfoldable pub sides : List Token → List End → List ℕ
sides [] es = []
sides (t ∷ ts) [] = []
sides (t ∷ ts) (e ∷ es) = side_bytes (bit e) t ++ sides ts (pushed t e es)

pub record Sided (l : List ℕ) (e n : ℕ) : Type 0 where
  pub whole : Whole Intervals l
  pub end : e ≤ 1
  pub room : length (sides (tokens_of Intervals l) (end_of e ∷ [])) ≤ n
