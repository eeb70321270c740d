-- The kinds of the code, and its steps, by the nodes of the definitions.
use Prim.Native.Nat.{ℕ, zero, suc, ◌+◌, ◌-◌, ◌≤◌, ◌<◌}
use native.Mathlib.Omega.{arith}
use mathlib.Core.Path.{◌≡◌, refl, sym, ap, ◌∙◌}
use mathlib.Core.Bool.{Bool, true, false}
use mathlib.Core.List.{List, [], ◌∷◌}
use lib.Dec.{ltb}
use lib.ListN.{length, get_or}
use borrow.Author.Tests.{le-ltb, ltb-false, le-leb, lt-leb}
use Rattle.formula.specs.Bytes.{Node, leaf, lit, one, two, bad, from16, interval_node, node_of}
use Rattle.formula.specs.Answers.{pick, step_by, step_of, literal_step, kind_by, kind_of}
use Rattle.formula.specs.declared.Sort.{Sort}
use Rattle.formula.specs.declared.Sort.TheVariants.{Faces, Intervals}
use Rattle.formula.specs.declared.Advance.{Advance}
use Rattle.formula.specs.declared.Advance.TheVariants.{Leaf, One, Two, Stuck}
use Rattle.formula.specs.declared.Kind.{Kind}
use Rattle.formula.specs.declared.Kind.TheVariants.{Nullary, Literal, Unary, Binary, Unknown}

-- the kinds of a run of bytes: up to each limit, one kind
abbrev pub by_limits : List (ℕ × Kind) → ℕ → Kind
by_limits [] b = Unknown
by_limits (l ∷ ls) b = pick (ltb b l.0) l.1 (by_limits ls b)

pub face-limits : (b : ℕ) → kind_of Faces b ≡ by_limits ((2, Nullary) ∷ (4, Literal) ∷ (6, Binary) ∷ []) b
unfolding kind_of node_of
face-limits zero = refl
face-limits (suc zero) = refl
face-limits (suc (suc zero)) = refl
face-limits (suc (suc (suc zero))) = refl
face-limits (suc (suc (suc (suc zero)))) = refl
face-limits (suc (suc (suc (suc (suc zero))))) = refl
face-limits (suc (suc (suc (suc (suc (suc n)))))) =
    let b = suc (suc (suc (suc (suc (suc n))))) in
    simp (le-ltb b 2 (omega arith), le-ltb b 4 (omega arith), le-ltb b 6 (omega arith))

interval-limits-from : (j : ℕ) → kind_by (interval_node j) ≡ by_limits ((18, Nullary) ∷ (19, Literal) ∷ (20, Unary) ∷ (22, Binary) ∷ []) (16 + j)
interval-limits-from zero = refl
interval-limits-from (suc zero) = refl
interval-limits-from (suc (suc zero)) = refl
interval-limits-from (suc (suc (suc zero))) = refl
interval-limits-from (suc (suc (suc (suc zero)))) = refl
interval-limits-from (suc (suc (suc (suc (suc zero))))) = refl
interval-limits-from (suc (suc (suc (suc (suc (suc n)))))) =
    let b = 16 + suc (suc (suc (suc (suc (suc n))))) in
    simp (le-ltb b 18 (omega arith), le-ltb b 19 (omega arith), le-ltb b 20 (omega arith), le-ltb b 22 (omega arith))

pub interval-limits : (b : ℕ) → kind_of Intervals b ≡ by_limits ((16, Unknown) ∷ (18, Nullary) ∷ (19, Literal) ∷ (20, Unary) ∷ (22, Binary) ∷ []) b
unfolding kind_of node_of
interval-limits b = go (ltb b 16) refl
  where
    go : (t : Bool) → ltb b 16 ≡ t → kind_by (from16 t b) ≡ pick t Unknown (by_limits ((18, Nullary) ∷ (19, Literal) ∷ (20, Unary) ∷ (22, Binary) ∷ []) b)
    go true e = refl
    go false e =
        let h = ltb-false b 16 e in
        let p : 16 + (b - 16) ≡ b = omega arith in
        interval-limits-from (b - 16) ∙ ap (by_limits ((18, Nullary) ∷ (19, Literal) ∷ (20, Unary) ∷ (22, Binary) ∷ [])) p

-- a step by the kind alone
abbrev pub step_kind : Kind → List ℕ → ℕ → ℕ → Advance
step_kind Nullary l at p = Leaf (record { at = at + 1; pending = p - 1 })
step_kind Literal l at p = literal_step l (at + 1) (p - 1)
step_kind Unary l at p = One (record { at = at + 1; pending = p })
step_kind Binary l at p = Two (record { at = at + 1; pending = p + 1 })
step_kind Unknown l at p = Stuck

step-kind : {A : Type 0} (k : Node A) (l : List ℕ) (at p : ℕ) → step_by k l at p ≡ step_kind (kind_by k) l at p
step-kind (leaf t) l at p = refl
step-kind (lit g) l at p = refl
step-kind (one u) l at p = refl
step-kind (two v) l at p = refl
step-kind bad l at p = refl

step-as : (s : Sort) (b : ℕ) (k : Kind) → k ≡ kind_of s b → (l : List ℕ) (at p : ℕ) → step_by (node_of s b) l at p ≡ step_kind k l at p
unfolding kind_of
step-as s b k e l at p = step-kind (node_of s b) l at p ∙ ap (λ (z : Kind). step_kind z l at p) (sym e)

module _ (s : Sort) (l : List ℕ) (at p : ℕ) where
  -- a step where there is a byte or more for each pending formula
  pub step_in : 1 ≤ p → p ≤ length l - at → (k : Kind) → k ≡ kind_of s (get_or l at 0) → step_of s l at p ≡ step_kind k l at p
  step_in h g k e = simp (le-leb 1 p h, le-leb p (length l - at) g) (step-as s (get_or l at 0) k e l at p)

  pub step-none : p ≡ 0 → step_of s l at p ≡ Stuck
  step-none e = simp (lt-leb 1 p (omega arith))

  pub step-few : 1 ≤ p → length l - at < p → step_of s l at p ≡ Stuck
  step-few h g = simp (le-leb 1 p h, lt-leb p (length l - at) g)
