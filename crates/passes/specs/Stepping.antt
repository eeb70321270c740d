-- Definitions that only the contracts of private functions cite; no public contract rests on them.
-- Here: the token that a step goes over, and the stack of a boundary in an array.
use Rattle.std.specs.Prelude.{ℕ, zero, suc, ◌+◌, ◌-◌, ◌≤◌, ◌<◌, ◌≡◌, List, [], ◌∷◌, length, get_or}
use Rattle.formula.specs.Formula.{End, end_of}
use Rattle.formula.specs.Answers.{dim_space}
use Rattle.formula.specs.declared.Size.{Size}
use Rattle.formula.specs.declared.Kind.{Kind}
use Rattle.formula.specs.declared.Kind.TheVariants.{Nullary, Literal, Unary, Binary, Unknown}
use Rattle.formula.specs.declared.Place.{Place}
use Rattle.formula.specs.declared.Advance.{Advance}
use Rattle.formula.specs.declared.Advance.TheVariants.{Leaf, Lit, One, Two, Stuck}
use Rattle.passes.specs.Rewriting.{Token, plain, literal, moved_to, plain_weight, moved_weight, push_kind}
use Rattle.passes.specs.declared.Rule.{Rule}

-- the kind of node that a step goes over
abbrev pub kind_over : Advance → Kind
kind_over (Leaf q) = Nullary
kind_over (Lit q n) = Literal
kind_over (One q) = Unary
kind_over (Two q) = Binary
kind_over Stuck = Unknown

-- the token that a step goes over, where b is its kind byte
abbrev pub token_over : ℕ → Advance → Token
token_over b (Leaf q) = plain b
token_over b (Lit q n) = literal b n
token_over b (One q) = plain b
token_over b (Two q) = plain b
token_over b Stuck = plain b

-- a literal's dimension is one that its field can hold
abbrev pub DimOver : Advance → Type 0
DimOver (Leaf q) = Unit {0}
DimOver (Lit q n) = n < dim_space
DimOver (One q) = Unit {0}
DimOver (Two q) = Unit {0}
DimOver Stuck = Unit {0}

-- the place that a step leads to; behind a step that is stuck, nothing is pending
abbrev pub place_by : Advance → Place
place_by (Leaf q) = q
place_by (Lit q n) = q
place_by (One q) = q
place_by (Two q) = q
place_by Stuck = record { at = 0; pending = 0 }

-- the size of what a token becomes, by the step over it
abbrev pub weight_over : Rule → Size → Advance → Size
weight_over rule hit (Leaf q) = plain_weight rule Nullary
weight_over rule hit (Lit q n) = moved_weight (moved_to rule n) hit
weight_over rule hit (One q) = plain_weight rule Unary
weight_over rule hit (Two q) = plain_weight rule Binary
weight_over rule hit Stuck = plain_weight rule Unknown

-- the stack in an array: the ends of its first n bytes, the last on top
unfoldable pub stack_of : List ℕ → ℕ → List End
stack_of l zero = []
stack_of l (suc n) = end_of (get_or l n 0) ∷ stack_of l n

-- every byte is an end's
abbrev pub Bits : List ℕ → Type 0
Bits l = (i : ℕ) → get_or l i 0 ≤ 1

-- how many expressions are to come after a node, of those that were to come before it
abbrev pub pending_by : Kind → ℕ → ℕ
pending_by Nullary p = p - 1
pending_by Literal p = p - 1
pending_by Unary p = p
pending_by Binary p = p + 1
pending_by Unknown p = p - 1

-- the stack in l' behind a node of this kind, where in l the end e stood on top, at place top
pub record Pushed (k : Kind) (e : ℕ) (l : List ℕ) (top : ℕ) (l' : List ℕ) : Type 0 where
  pub stack : stack_of l' (pending_by k (top + 1)) ≡ push_kind k (end_of e) (stack_of l top)
  pub bits : Bits l → Bits l'
  pub size : length l' ≡ length l
