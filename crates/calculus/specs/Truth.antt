-- When a judgement is true (document 01, "Truth").
use Rattle.std.specs.Prelude.{◌≡◌, Bool, true, ◌&&◌, ℕ, ◌≤◌, ◌<◌}
use mathlib.Core.List.{List, [], ◌∷◌, Memᴰ}
use Rattle.formula.specs.Formula.{lo, hi, Face, Interval, vu, is, Assignment, value, holds, Entails, insert}
use Rattle.formula.specs.Operations.{Op, shift, subst, change}
use Rattle.formula.specs.Bytes.{bound_face, bound_interval}
use Rattle.calculus.specs.Judgement.{Judgement, lt, le, interval, face, member, take, cover, entails, boundary, local, fforall, ishift, isubst, fshift, fsubst}

-- The second context is the first with one face f left out.
pub data LeftOut (f : Face) : List Face → List Face → Type 0 where
  here : {G : List Face} → LeftOut f (f ∷ G) G
  there : {g : Face} {G D : List Face} → LeftOut f G D → LeftOut f (g ∷ G) (g ∷ D)

-- Does the assignment satisfy all of a context?
unfoldable pub satisfies : List Face → Assignment → Bool
satisfies [] σ = true
satisfies (f ∷ G) σ = holds f σ && satisfies G σ

-- Assignments satisfying all of G satisfy the goal.
abbrev pub Covers : List Face → Face → Type 0
Covers G g = (σ : Assignment) → satisfies G σ ≡ true → holds g σ ≡ true

-- All dimensions in a and b are below d, and every assignment that satisfies a satisfies b.
pub record EntailsBelow (d : ℕ) (a b : Face) : Type 0 where
  pub left : bound_face a ≤ d
  pub right : bound_face b ≤ d
  pub implied : Entails a b

-- a holds exactly where r is zero, b where r is one.
pub record Bounds (r : Interval) (a b : Face) : Type 0 where
  pub at_zero : (σ : Assignment) → holds a σ ≡ is lo (value r σ)
  pub at_one : (σ : Assignment) → holds b σ ≡ is hi (value r σ)

-- All dimensions of phi, r and e are below d, and r has the value of e wherever phi holds.
pub record Local (d : ℕ) (phi : Face) (r e : Interval) : Type 0 where
  pub on : bound_face phi ≤ d
  pub of : bound_interval r ≤ d
  pub end : bound_interval e ≤ d
  pub equal : (σ : Assignment) → holds phi σ ≡ true → value r σ ≡ value e σ

-- At every assignment s has the value that r has at the changed one.
abbrev pub ValueUnder : Op → Interval → Interval → Type 0
ValueUnder o r s = (σ : Assignment) → value s σ ≡ value r (change o σ)

-- At every assignment g holds exactly when f holds at the changed one.
abbrev pub HoldsUnder : Op → Face → Face → Type 0
HoldsUnder o f g = (σ : Assignment) → holds g σ ≡ holds f (change o σ)

-- The judgement is true.
abbrev pub True : Judgement → Type 0
True (lt m n) = m < n
True (le m n) = m ≤ n
True (interval d r) = bound_interval r ≤ d
True (face d f) = bound_face f ≤ d
True (member f G) = Memᴰ f G
True (take G f D) = LeftOut f G D
True (cover G g) = Covers G g
True (entails d a b) = EntailsBelow d a b
True (boundary r a b) = Bounds r a b
True (local d phi r e) = Local d phi r e
True (fforall f k g) = (σ : Assignment) → holds g σ ≡ holds f (insert k vu σ)
True (ishift r k s) = ValueUnder (shift k) r s
True (isubst r k t s) = ValueUnder (subst k t) r s
True (fshift f k g) = HoldsUnder (shift k) f g
True (fsubst f k t g) = HoldsUnder (subst k t) f g

-- All judgements of the list are true.
abbrev pub AllTrue : List Judgement → Type 0
AllTrue [] = Unit {0}
AllTrue (j ∷ js) = True j × AllTrue js
