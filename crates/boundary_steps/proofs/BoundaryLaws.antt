-- The emitter of boundary.
use Prim.Native.Nat.{ℕ, ◌+◌, ◌-◌}
use native.Mathlib.Omega.{arith}
use mathlib.Core.Path.{◌≡◌, refl, sym, ap, ap₂, ◌∙◌, subst}
use mathlib.Core.List.{List, [], ◌∷◌, ◌++◌}
use lib.ListN.{length, get_or, drop}
use Rattle.formula.specs.declared.Sort.TheVariants.{Faces, Intervals}
use Rattle.formula.specs.declared.Advance.TheVariants.{Lit, One}
use Rattle.formula.specs.declared.Place.{Place}
use Rattle.formula.specs.Formula.{End, lo, hi, other, Face, Interval}
use Rattle.formula.specs.Operations.{boundary}
use Rattle.formula.specs.Bytes.{encode, encode_face, nodes_face, bound_face}
use Rattle.formula.specs.declared.Size.{Size}
use Rattle.formula.specs.Answers.{tree_of}
use Rattle.formula.proofs.Nodes.{EachNode}
use Rattle.formula.proofs.Meaning.{boundary-neg}
use Rattle.operations.proofs.ResultLaws.{boundary-sizes, boundary-smaller}
use Rattle.calculus.specs.Rules
use Rattle.calculus.specs.Record.{operand_bytes}
use Rattle.calculus.specs.Rules.{Rule}
use Rattle.calculus.specs.Emit.{Program, emit}
use Rattle.calculus.specs.Calls.{bounds, emit_boundary}
use Rattle.calculus.proofs.Growing.{Limited}
use Rattle.std.specs.Prelude.{Result}
use Rattle.steps.specs.declared.Stop.{Stop}
use Rattle.steps.specs.declared.Paired.{Paired}
use Rattle.steps.specs.Running.{Ran, Book, Runs, Emits}
use Rattle.steps.specs.Trees.{Is, Known}
use Rattle.steps.specs.Walking.{StandsAt, tree_at, KnownAt, behind_at, span, Spans, inside_of, WalksBoth}
use Rattle.boundary_steps.specs.Programs.{Sides, SidesAt, boundary_kind}
use Rattle.steps.proofs.RunLaws.{emits-by}
use Rattle.steps.proofs.TreeLaws.{View, a-lit, a_one, tree-of}
use Rattle.steps.proofs.NodeLaws.{Law, AtLit, AtOne, AtTwo, at-lit, at_one}
use Rattle.steps.proofs.ResultLaws.{Pairs}
use Rattle.steps.proofs.PlaceLaws.{start, whole-at, whole_part, at-spans, between-part, EndAt, OneAt, TwoAt}
use Rattle.steps.proofs.WalkLaws.{by_part, both-moved-to, image-two, left-image, right-image, image-end, Beside, Ended}

-- The program and the rule at each kind byte.
pub boundary-laws : EachNode Intervals (Law Intervals emit_boundary bounds boundary_kind)
unfolding emit_boundary boundary
boundary-laws =
    record {
      at0 = (refl, Rules.boundary-0);
      at1 = (refl, Rules.boundary-1);
      at2 = tt;
      at3 = λ x. (refl, Rules.boundary-neg);
      at4 = λ x y. (refl, Rules.boundary-meet);
      at5 = λ x y. (refl, Rules.boundary-join);
      none = λ b. tt;
    }

-- A dimension is emitted as a leaf is.
Alone : ℕ → (ℕ → Interval) → Type 0
Alone b g = (n : ℕ) → (emit_boundary (g n) ≡ emit (boundary_kind b) [] (bounds (g n))) × Rule (boundary_kind b) [] (bounds (g n))

alone-laws : EachNode Intervals (AtLit Intervals Alone)
unfolding emit_boundary boundary Alone
alone-laws = record { at0 = tt; at1 = tt; at2 = λ n. (refl, Rules.boundary-dim); at3 = tt; at4 = tt; at5 = tt; none = λ b. tt }

pub lit-runs : {l l' : Book} {f x : List ℕ} {c : Ran} {i k z n : ℕ} {q : Place} (t : Interval) → View Intervals f t (Lit q n) → Limited (bounds t) → operand_bytes (bounds t) ≡ x
    → Emits l (boundary_kind (get_or f 0 0)) (i ∷ k ∷ z ∷ []) x c l' → Runs l (emit_boundary t) c l'
unfolding Alone
lit-runs {l} {l'} {x = x} {c} {i} {k} {z} t (a-lit b n g e j) m o h =
    let p = at-lit Intervals Alone alone-laws b g e n in
    let h' : Emits l (boundary_kind b) (i ∷ k ∷ z ∷ []) x c l' = subst (λ (y : List ℕ). Emits l (boundary_kind (get_or y 0 0)) (i ∷ k ∷ z ∷ []) x c l') j h in
    subst (λ (w : Program). Runs l w c l') (sym p.0) (emits-by h' p.1 [] refl tt m refl o)

-- Both faces keep the limits.
pub side-is : {r l : List ℕ} (e : End) → Known Intervals r → l ≡ encode Faces (boundary e (tree_of Intervals r)) → Is Faces (boundary e (tree_of Intervals r)) l
side-is {r} e h i =
    let z = boundary-smaller e (tree_of Intervals r) in
    record { bytes = i; few = omega (arith, z.nodes, h.few); low = omega (arith, z.bound, h.low) }

-- The faces of the parts: under neg they change places.
Swaps : ℕ → (Interval → Interval) → Type 0
Swaps b u = (e : End) (x : Interval) → boundary e (u x) ≡ boundary (other e) x

swaps : EachNode Intervals (AtOne Intervals Swaps)
unfolding Swaps
swaps = record { at0 = tt; at1 = tt; at2 = tt; at3 = boundary-neg; at4 = tt; at5 = tt; none = λ b. tt }

swap-by : {x : List ℕ} {q : Place} (e : End) (t : Interval) → View Intervals x t (One q) → boundary e t ≡ boundary (other e) (tree_of Intervals (drop 1 x))
unfolding Swaps
swap-by e t (a_one b u x i g h) = at_one Intervals Swaps swaps b u i e x ∙ ap (boundary (other e)) (sym (tree-of h))

side-two : (e : End) → EachNode Intervals (AtTwo Intervals (Pairs Intervals Faces (boundary e)))
unfolding boundary encode_face nodes_face bound_face
side-two lo = record { at0 = tt; at1 = tt; at2 = tt; at3 = tt; at4 = λ x y. record { byte = 5; made = record { bytes = refl; count = refl; top = refl } }; at5 = λ x y. record { byte = 4; made = record { bytes = refl; count = refl; top = refl } }; none = λ b. tt }
side-two hi = record { at0 = tt; at1 = tt; at2 = tt; at3 = tt; at4 = λ x y. record { byte = 4; made = record { bytes = refl; count = refl; top = refl } }; at5 = λ x y. record { byte = 5; made = record { bytes = refl; count = refl; top = refl } }; none = λ b. tt }

-- Both faces end at one place.
pub same_end : {t : Interval} {zero one : List ℕ} {q : Place} → SidesAt t zero one q → behind_at Faces zero q ≡ behind_at Faces one q
same_end {t} {q = q} h =
    ap (λ (n : ℕ). record { at = q.at + n; pending = q.pending - 1 }) (ap length h.zeros.is.bytes ∙ ap (λ (z : Size). z.len) (boundary-sizes lo hi t) ∙ sym (ap length h.ones.is.bytes))

module _ {r zero one : List ℕ} {p q : Place} (k : KnownAt Intervals r p) (h : SidesAt (tree_at Intervals r p) zero one q) where
  -- The expression at p, beside its faces at q.
  pub beside : Beside Intervals emit_boundary bounds boundary_kind (λ x n. x ++ (span q.at n zero ++ span q.at n one)) r p (behind_at Faces zero q)
  beside =
      record {
        laws = boundary-laws;
        known = k;
        limited = ((k.is.few, k.is.low), ((h.zeros.is.few, h.zeros.is.low), ((h.ones.is.few, h.ones.is.low), tt)));
        operands = λ x n e i. sym (ap₂ (λ (y z : List ℕ). y ++ z) (e ∙ k.is.bytes) (ap₂ (λ (y z : List ℕ). y ++ z) (between-part h.zeros refl i ∙ h.zeros.is.bytes) (between-part h.ones refl (i ∙ same_end h) ∙ h.ones.is.bytes)));
      }

  pub ends-span : {n : Place} → n ≡ behind_at Faces zero q → Spans zero q.at n × Spans one q.at n
  ends-span i = (at-spans h.zeros i, at-spans h.ones (i ∙ same_end h))

  -- A dimension is emitted as a leaf is.
  pub lit-both : {l l' : Book} {x : Result Paired Stop} {i j m : ℕ} {e n : Place} → EndAt Intervals (tree_at Intervals r p) r p e (Lit e m) → n ≡ behind_at Faces zero q → Ended beside l i j e n x l'
      → WalksBoth l (emit_boundary (tree_at Intervals r p)) (behind_at Intervals r p) (behind_at Faces zero q) x l'
  lit-both {x = x} {e = e} {n} v g w =
      let y = between-part k refl v.end in
      record { runs = lit-runs (tree_at Intervals r p) v.view beside.limited (beside.operands (span p.at e r) n y g) (by_part boundary_kind y w.0); moved = both-moved-to x v.end g w.1 }

  swapped : {m : Place} (e : End) → OneAt Intervals (tree_at Intervals r p) r p m → boundary e (tree_at Intervals r p) ≡ boundary (other e) (tree_at Intervals r m)
  swapped e v = swap-by e (tree_at Intervals r p) v.view ∙ ap (λ (y : List ℕ). boundary (other e) (tree_of Intervals y)) (sym v.part)

  pub sides-below : {m : Place} → OneAt Intervals (tree_at Intervals r p) r p m → SidesAt (tree_at Intervals r m) one zero q
  sides-below v = record { zeros = subst (λ (f : Face). StandsAt Faces f one q) (swapped hi v) h.ones; ones = subst (λ (f : Face). StandsAt Faces f zero q) (swapped lo v) h.zeros }

  module _ {w m : Place} (v : TwoAt Intervals (tree_at Intervals r p) r p m) (i : w ≡ inside_of q) where
    pub sides-left : SidesAt (tree_at Intervals r m) zero one w
    sides-left = record { zeros = left-image (image-two Intervals Faces (boundary lo) (side-two lo) v refl h.zeros) i; ones = left-image (image-two Intervals Faces (boundary hi) (side-two hi) v refl h.ones) i }

    module _ {o n : Place} (e : o ≡ behind_at Intervals r m) (j : n ≡ behind_at Faces zero w) where
      pub sides-right : SidesAt (tree_at Intervals r o) zero one n
      sides-right = record { zeros = right-image (image-two Intervals Faces (boundary lo) (side-two lo) v e h.zeros) i j; ones = right-image (image-two Intervals Faces (boundary hi) (side-two hi) v e h.ones) i (j ∙ same_end sides-left) }

      pub sides-end : behind_at Faces zero n ≡ behind_at Faces zero q
      sides-end = image-end (image-two Intervals Faces (boundary lo) (side-two lo) v e h.zeros) i j

-- Both faces of a whole expression, from their starts.
pub sides-start : {r zero one : List ℕ} → Known Intervals r → Sides r zero one → SidesAt (tree_at Intervals r start) zero one start
sides-start {r} {zero} {one} k h =
    subst (λ (x : List ℕ). SidesAt (tree_of Intervals x) zero one start) (sym (whole_part k)) (record { zeros = whole-at (side-is lo k h.zeros); ones = whole-at (side-is hi k h.ones) })
