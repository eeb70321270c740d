-- The emitter of forall.
use Prim.Native.Nat.{ℕ, zero, suc, ◌+◌, ◌<◌, compare}
use native.Mathlib.Omega.{arith}
use mathlib.Core.Path.{◌≡◌, refl, sym, ap, ap₂, ◌∙◌, subst}
use mathlib.Core.List.{List, [], ◌∷◌, ◌++◌}
use lib.ListN.{get_or}
use Rattle.formula.specs.declared.Sort.TheVariants.{Faces}
use Rattle.formula.specs.declared.Place.{Place}
use Rattle.formula.specs.Formula.{End, Face, at}
use Rattle.formula.specs.Operations.{forall}
use Rattle.formula.specs.Bytes.{dim_bytes, encode, encode_face, nodes_face, bound_face}
use Rattle.formula.specs.Answers.{part_at, tree_of}
use Rattle.formula.proofs.Compare.{compare-lt, compare-eq, compare-gt}
use Rattle.formula.proofs.Meaning.{forall-hit, forall_below, forall-above}
use Rattle.formula.proofs.Nodes.{EachNode}
use Rattle.calculus.specs.Judgement.{lt}
use Rattle.calculus.specs.Rules
use Rattle.calculus.specs.Rules.{Rule}
use Rattle.calculus.specs.Record.{operand_bytes}
use Rattle.calculus.specs.Emit.{Program, emit, ◌>>=◌}
use Rattle.calculus.specs.Calls.{side, less, emit_comparison, foralls, emit_forall_at, emit_forall}
use Rattle.calculus.proofs.Ends.{fforall-hit, fforall-lt, fforall-gt}
use Rattle.calculus.proofs.Growing.{Limited}
use Rattle.calculus.proofs.Calling.{forall-size}
use Rattle.std.specs.Prelude.{Ok, Err}
use Rattle.steps.specs.declared.Stop.{Stop}
use Rattle.steps.specs.Running.{Ran, Book, Runs, Emits}
use Rattle.steps.specs.Trees.{Is, Known}
use Rattle.forall_steps.specs.Programs.{forall_kind}
use Rattle.steps.proofs.RunLaws.{emits-by, emits-kind, runs-emit, runs-stop}
use Rattle.steps.proofs.NodeLaws.{Law, AtTwo, AtEnd, at-end, end-kind}
use Rattle.steps.specs.Walking.{StandsAt, tree_at, KnownAt, behind_at, span}
use Rattle.steps.proofs.ResultLaws.{Pairs}
use Rattle.steps.proofs.PlaceLaws.{between-part}
use Rattle.steps.proofs.WalkLaws.{Beside}

-- The program and the rule at each kind byte.
pub forall-laws : (k : ℕ) → EachNode Faces (Law Faces (emit_forall k) (foralls k) forall_kind)
unfolding emit_forall forall
forall-laws k =
    record {
      at0 = (refl, Rules.fforall-ff);
      at1 = (refl, Rules.fforall-ft);
      at2 = tt;
      at3 = tt;
      at4 = λ x y. (refl, Rules.fforall-and);
      at5 = λ x y. (refl, Rules.fforall-or);
      none = λ b. tt;
    }

-- The result keeps the limits, and the operands are the face, k and the result.
module _ {f out : List ℕ} (k : ℕ) (h : Known Faces f) (e : out ≡ encode Faces (forall k (tree_of Faces f))) where
  pub forall-is : Is Faces (forall k (tree_of Faces f)) out
  forall-is = let z = forall-size k (tree_of Faces f) in record { bytes = e; few = omega (arith, z.0, h.few); low = omega (arith, z.1, h.low) }

  pub foralls-limited : k < 255 → Limited (foralls k (tree_of Faces f))
  foralls-limited b = ((h.few, h.low), (b, ((forall-is.few, forall-is.low), tt)))

  pub foralls-bytes : operand_bytes (foralls k (tree_of Faces f)) ≡ f ++ (dim_bytes k ++ out)
  foralls-bytes = sym (ap₂ (λ (x y : List ℕ). x ++ (dim_bytes k ++ y)) h.bytes e)

-- The results of the parts.
pub forall-two : (k : ℕ) → EachNode Faces (AtTwo Faces (Pairs Faces Faces (forall k)))
unfolding forall encode_face nodes_face bound_face
forall-two k = record { at0 = tt; at1 = tt; at2 = tt; at3 = tt; at4 = λ x y. record { byte = 4; made = record { bytes = refl; count = refl; top = refl } }; at5 = λ x y. record { byte = 5; made = record { bytes = refl; count = refl; top = refl } }; none = λ b. tt }

-- The face at p, beside its result at q.
module _ {f out : List ℕ} {p q : Place} (k : ℕ) (h : KnownAt Faces f p) (g : StandsAt Faces (forall k (tree_at Faces f p)) out q) where
  pub beside : k < 255 → Beside Faces (emit_forall k) (foralls k) forall_kind (λ x n. x ++ (dim_bytes k ++ span q.at n out)) f p (behind_at Faces out q)
  beside b =
      record {
        laws = forall-laws k;
        known = h;
        limited = ((h.is.few, h.is.low), (b, ((g.is.few, g.is.low), tt)));
        operands = λ x n e i. sym (ap₂ (λ (y z : List ℕ). y ++ (dim_bytes k ++ z)) (e ∙ h.is.bytes) (between-part g refl i ∙ g.is.bytes));
      }

  pub literal-image : {x y : List ℕ} {n : Place} → x ≡ part_at Faces f p.at → y ≡ span q.at n out → n ≡ behind_at Faces out q → y ≡ encode Faces (forall k (tree_of Faces x))
  literal-image e i j = between-part g i j ∙ g.is.bytes ∙ ap (λ (z : List ℕ). encode Faces (forall k (tree_of Faces z))) (sym e)

-- A literal by its dimension beside k: the program and the rule.
below-program : (k n : ℕ) (e : End) → n < k → emit_forall k (at e n) ≡ (emit_comparison less n k >>= λ i. emit (side e 42 45) (i ∷ []) (foralls k (at e n)))
unfolding emit_forall
below-program k n e h = ap (emit_forall_at k e n) (compare-lt n k h)

above-program : (k n : ℕ) (e : End) → k < n → emit_forall k (at e n) ≡ (emit_comparison less k n >>= λ i. emit (side e 43 46) (i ∷ []) (foralls k (at e n)))
unfolding emit_forall
above-program k n e h = ap (emit_forall_at k e n) (compare-gt n k h)

hit-program : (k n : ℕ) (e : End) → n ≡ k → emit_forall k (at e n) ≡ emit (side e 41 44) [] (foralls k (at e n))
unfolding emit_forall
hit-program k n e h = ap (emit_forall_at k e n) (ap (λ (m : ℕ). compare m k) h ∙ compare-eq k)

hit-rule : (k n : ℕ) (e : End) → n ≡ k → Rule (side e 41 44) [] (foralls k (at e n))
hit-rule k n e h = rw (h, forall-hit) (fforall-hit e)

above-rule : (k n : ℕ) (e : End) → k < n → Rule (side e 43 46) (lt k n ∷ []) (foralls k (at e n))
above-rule k zero e h = absurd (omega arith)
above-rule k (suc n) e h = rw (forall-above e (suc n) k h) (fforall-gt e)

pub literal-hit : {l l₁ : Book} {x f : List ℕ} {c : Ran} {i j z n : ℕ} (k : ℕ) (t : Face) → AtEnd f n t → n ≡ k → Limited (foralls k t) → operand_bytes (foralls k t) ≡ x
    → Emits l (forall_kind (get_or f 0 0) + 0) (i ∷ j ∷ z ∷ []) x c l₁ → Runs l (emit_forall k t) c l₁
literal-hit {l} {l₁} {f = f} {c} {n = n} k t (at-end e p) h m o w =
    subst (λ (y : Program). Runs l y c l₁) (sym (hit-program k n e h)) (emits-by (emits-kind (end-kind (λ (m : ℕ). forall_kind m + 0) e (get_or f 0 0) 41 44 p refl refl) w) (hit-rule k n e h) [] refl tt m refl o)

pub literal-below-stop : {l l₁ : Book} {f : List ℕ} {x : Stop} {n : ℕ} (k : ℕ) (t : Face) → AtEnd f n t → n < k → Runs l (emit_comparison less n k) (Err x) l₁ → Runs l (emit_forall k t) (Err x) l₁
literal-below-stop {l} {l₁} {x = x} {n} k t (at-end e p) h w =
    subst (λ (y : Program). Runs l y (Err x) l₁) (sym (below-program k n e h)) (runs-stop (λ i. emit (side e 42 45) (i ∷ []) (foralls k (at e n))) w refl)

pub literal-above-stop : {l l₁ : Book} {f : List ℕ} {x : Stop} {n : ℕ} (k : ℕ) (t : Face) → AtEnd f n t → k < n → Runs l (emit_comparison less k n) (Err x) l₁ → Runs l (emit_forall k t) (Err x) l₁
literal-above-stop {l} {l₁} {x = x} {n} k t (at-end e p) h w =
    subst (λ (y : Program). Runs l y (Err x) l₁) (sym (above-program k n e h)) (runs-stop (λ i. emit (side e 43 46) (i ∷ []) (foralls k (at e n))) w refl)

pub literal-below : {l l₁ l₂ : Book} {x f : List ℕ} {s : Ran} {i j z n : ℕ} (k : ℕ) (t : Face) → AtEnd f n t → n < k → Limited (foralls k t) → operand_bytes (foralls k t) ≡ x
    → Runs l (emit_comparison less n k) (Ok i) l₁ → Emits l₁ (forall_kind (get_or f 0 0) + 1) (i ∷ j ∷ z ∷ []) x s l₂ → Runs l (emit_forall k t) s l₂
literal-below {l} {l₂ = l₂} {f = f} {s = s} {n = n} k t (at-end e p) h m o w y =
    subst (λ (y : Program). Runs l y s l₂) (sym (below-program k n e h)) (runs-emit w refl refl (emits-kind (end-kind (λ (m : ℕ). forall_kind m + 1) e (get_or f 0 0) 42 45 p refl refl) y) {q = lt n k} (rw (forall_below e n k h) (fforall-lt e)) m o)

pub literal-above : {l l₁ l₂ : Book} {x f : List ℕ} {s : Ran} {i j z n : ℕ} (k : ℕ) (t : Face) → AtEnd f n t → k < n → Limited (foralls k t) → operand_bytes (foralls k t) ≡ x
    → Runs l (emit_comparison less k n) (Ok i) l₁ → Emits l₁ (forall_kind (get_or f 0 0) + 2) (i ∷ j ∷ z ∷ []) x s l₂ → Runs l (emit_forall k t) s l₂
literal-above {l} {l₂ = l₂} {f = f} {s = s} {n = n} k t (at-end e p) h m o w y =
    subst (λ (y : Program). Runs l y s l₂) (sym (above-program k n e h)) (runs-emit w refl refl (emits-kind (end-kind (λ (m : ℕ). forall_kind m + 2) e (get_or f 0 0) 43 46 p refl refl) y) (above-rule k n e h) m o)
