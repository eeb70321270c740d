-- The emitter of face and interval.
use Prim.Native.Nat.{ℕ, ◌+◌, ◌≤◌, ◌<◌}
use native.Mathlib.Omega.{arith}
use mathlib.Core.Path.{◌≡◌, refl, sym, ap, ◌∙◌, subst}
use mathlib.Core.List.{List, [], ◌∷◌, ◌++◌}
use lib.ListN.{get_or}
use Rattle.formula.specs.declared.Sort.{Sort}
use Rattle.formula.specs.declared.Sort.TheVariants.{Faces, Intervals}
use Rattle.formula.specs.declared.Advance.TheVariants.{Leaf, Lit}
use Rattle.formula.specs.declared.Place.{Place}
use Rattle.formula.specs.Formula.{Face, Interval, dim}
use Rattle.formula.specs.Bytes.{Tree, dim_bytes, encode_interval, nodes_interval, bound_interval, lit, node_of}
use Rattle.formula.proofs.Nodes.{EachNode}
use Rattle.calculus.specs.Judgement.{face, interval}
use Rattle.calculus.specs.Rules
use Rattle.calculus.specs.Rules.{Rule}
use Rattle.calculus.specs.Record.{operand_bytes}
use Rattle.calculus.specs.Emit.{Program, emit, ◌>>=◌}
use Rattle.calculus.specs.Calls.{less, emit_comparison, emit_interval, emit_face}
use Rattle.calculus.proofs.Growing.{Limited}
use Rattle.std.specs.Prelude.{Result, Ok, Err, IfOk}
use Rattle.steps.specs.declared.Stop.{Stop}
use Rattle.steps.specs.declared.Walked.{Walked}
use Rattle.steps.specs.Walking.{tree_at, KnownAt, behind_at, span, walk_ran, Walks}
use Rattle.steps.proofs.PlaceLaws.{between-part, EndAt, OneAt, TwoAt}
use Rattle.steps.proofs.WalkLaws.{moved-to, leaf-at, one-at-stop, one-at-runs, two-at-stop, two-at-stop-right, two-at-runs, two-end}
use Rattle.steps.specs.Running.{Ran, Book, Runs, Emits}
use Rattle.steps.specs.Trees.{Is, Known, Literal}
use Rattle.formula.specs.Answers.{part_at, tree_of}
use Rattle.bounded_steps.specs.Programs.{bounded, emit_bounded, bounded_kind}
use Rattle.steps.proofs.RunLaws.{runs-next, runs-stop, runs-below, emits-by}
use Rattle.steps.proofs.TreeLaws.{View, a-lit}
use Rattle.steps.proofs.NodeLaws.{Law, AtLit, at-lit, literal-view, part-runs}

-- The program and the rule at each kind byte.
face-laws : (d : ℕ) → EachNode Faces (Law Faces (emit_face d) (face d) (bounded_kind Faces))
unfolding emit_face
face-laws d =
    record {
      at0 = (refl, Rules.face-ff);
      at1 = (refl, Rules.face-ft);
      at2 = tt;
      at3 = tt;
      at4 = λ x y. (refl, Rules.face-and);
      at5 = λ x y. (refl, Rules.face-or);
      none = λ b. tt;
    }

interval-laws : (d : ℕ) → EachNode Intervals (Law Intervals (emit_interval d) (interval d) (bounded_kind Intervals))
unfolding emit_interval
interval-laws d =
    record {
      at0 = (refl, Rules.interval-0);
      at1 = (refl, Rules.interval-1);
      at2 = tt;
      at3 = λ x. (refl, Rules.interval-neg);
      at4 = λ x y. (refl, Rules.interval-meet);
      at5 = λ x y. (refl, Rules.interval-join);
      none = λ b. tt;
    }

pub bounded-laws : (s : Sort) (d : ℕ) → EachNode s (Law s (emit_bounded s d) (bounded s d) (bounded_kind s))
bounded-laws Faces d = face-laws d
bounded-laws Intervals d = interval-laws d

-- Its judgement keeps the limits, and its bytes are d and the formula's.
pub bounded-limited : (s : Sort) (d : ℕ) (t : Tree s) (l : List ℕ) → Is s t l → d ≤ 255 → Limited (bounded s d t)
bounded-limited Faces d t l h b = (b, ((h.few, h.low), tt))
bounded-limited Intervals d t l h b = (b, ((h.few, h.low), tt))

pub bounded-bytes : (s : Sort) (d : ℕ) (t : Tree s) (l : List ℕ) → Is s t l → operand_bytes (bounded s d t) ≡ dim_bytes d ++ l
bounded-bytes Faces d t l h = ap (λ (x : List ℕ). dim_bytes d ++ x) (sym h.bytes)
bounded-bytes Intervals d t l h = ap (λ (x : List ℕ). dim_bytes d ++ x) (sym h.bytes)

-- A dimension: the comparison, then its step.
pub dimension-stop : {l l₁ : Book} {e : Stop} (d n : ℕ) → Runs l (emit_comparison less n d) (Err e) l₁ → Runs l (emit_interval d (dim n)) (Err e) l₁
unfolding emit_interval
dimension-stop d n h = runs-stop (λ i. emit 7 (i ∷ []) (interval d (dim n))) h refl

pub dimension-runs : {l l₁ l₂ : Book} {c : Ran} {i : ℕ} (d n : ℕ) → d ≤ 255 → n < 255 → Runs l (emit_comparison less n d) (Ok i) l₁
    → Emits l₁ 7 (i ∷ 0 ∷ 0 ∷ []) (dim_bytes d ++ (18 ∷ dim_bytes n)) c l₂ → Runs l (emit_interval d (dim n)) c l₂
unfolding emit_interval encode_interval nodes_interval bound_interval
dimension-runs {i = i} d n a b h g =
    runs-next (λ i. emit 7 (i ∷ []) (interval d (dim n))) h refl (emits-by g Rules.interval-dim (i ∷ []) refl (runs-below h refl, tt) (a, ((omega arith, omega arith), tt)) refl refl)

-- A literal of a face stands on its dimension.
LitLaw : ℕ → ℕ → (ℕ → Face) → Type 0
LitLaw d b g = (n : ℕ) → (emit_face d (g n) ≡ (emit_interval d (dim n) >>= λ i. emit (b + 11) (i ∷ []) (face d (g n)))) × Rule (b + 11) (interval d (dim n) ∷ []) (face d (g n))

lit-laws : (d : ℕ) → EachNode Faces (AtLit Faces (LitLaw d))
unfolding emit_face LitLaw
lit-laws d = record { at0 = tt; at1 = tt; at2 = λ n. (refl, Rules.face-0); at3 = λ n. (refl, Rules.face-1); at4 = tt; at5 = tt; none = λ b. tt }

lit-at : (d b : ℕ) (g : ℕ → Face) → node_of Faces b ≡ lit g → (n : ℕ) → (emit_face d (g n) ≡ (emit_interval d (dim n) >>= λ i. emit (b + 11) (i ∷ []) (face d (g n)))) × Rule (b + 11) (interval d (dim n) ∷ []) (face d (g n))
unfolding LitLaw
lit-at d b g e = at-lit Faces (LitLaw d) (lit-laws d) b g e

pub dim-at : (b : ℕ) (g : ℕ → Interval) → node_of Intervals b ≡ lit g → (n : ℕ) → g n ≡ dim n
dim-at b g e = at-lit Intervals (λ b g. (n : ℕ) → g n ≡ dim n) (record { at0 = tt; at1 = tt; at2 = λ n. refl; at3 = tt; at4 = tt; at5 = tt; none = λ b. tt }) b g e

-- The program of a literal, by the sort.
pub literal-interval : {l l₁ : Book} {f : List ℕ} {r : Ran} {q : Place} {n : ℕ} (d : ℕ) (t : Interval) → View Intervals f t (Lit q n) → Runs l (emit_interval d (dim n)) r l₁ → Runs l (emit_interval d t) r l₁
literal-interval {l} {l₁} {r = r} d t (a-lit b n g e i) h = subst (λ (x : Interval). Runs l (emit_interval d x) r l₁) (sym (dim-at b g e n)) h

pub literal-stop : {l l₁ : Book} {f : List ℕ} {x : Stop} {q : Place} {n : ℕ} (s : Sort) (d : ℕ) (t : Tree s) → View s f t (Lit q n) → Runs l (emit_interval d (dim n)) (Err x) l₁ → Runs l (emit_bounded s d t) (Err x) l₁
literal-stop {l} {l₁} {x = x} Faces d t (a-lit b n g e i) h = subst (λ (p : Program). Runs l p (Err x) l₁) (sym (lit-at d b g e n).0) (runs-stop (λ i. emit (b + 11) (i ∷ []) (face d (g n))) h refl)
literal-stop Intervals d t v h = literal-interval d t v h

pub literal-face : {l l₁ l₂ : Book} {f : List ℕ} {c : Ran} {q : Place} {n i k z : ℕ} (d : ℕ) (t : Face) → View Faces f t (Lit q n) → Is Faces t f → d ≤ 255 → Runs l (emit_interval d (dim n)) (Ok i) l₁
    → Emits l₁ (bounded_kind Faces (get_or f 0 0)) (i ∷ k ∷ z ∷ []) (dim_bytes d ++ f) c l₂ → Runs l (emit_face d t) c l₂
literal-face {l} {l₁} {l₂} {f} {c} {i = i} {k} {z} d t (a-lit b n g e j) is a h w =
    let w' : Emits l₁ (b + 11) (i ∷ k ∷ z ∷ []) (dim_bytes d ++ f) c l₂ = subst (λ (m : ℕ). Emits l₁ (m + 11) (i ∷ k ∷ z ∷ []) (dim_bytes d ++ f) c l₂) (ap (λ (x : List ℕ). get_or x 0 0) j) w in
    subst (λ (m : Program). Runs l m c l₂) (sym (lit-at d b g e n).0)
    (runs-next (λ i. emit (b + 11) (i ∷ []) (face d (g n))) h refl (emits-by w' (lit-at d b g e n).1 (i ∷ []) refl (runs-below h refl, tt) (bounded-limited Faces d (g n) f is a) refl (bounded-bytes Faces d (g n) f is)))

-- The same where the sort is told.
pub literal-of-face : {l l₁ l₂ : Book} {f : List ℕ} {c : Ran} {n i k z : ℕ} (s : Sort) (d : ℕ) → s ≡ Faces → Known s f → Literal s n f → d ≤ 255 → Runs l (emit_interval d (dim n)) (Ok i) l₁
    → Emits l₁ (bounded_kind Faces (get_or f 0 0)) (i ∷ k ∷ z ∷ []) (dim_bytes d ++ f) c l₂ → Runs l (emit_bounded s d (tree_of s f)) c l₂
literal-of-face {f = f} Faces d e h x a k w = literal-face d (tree_of Faces f) (literal-view h x) h a k w
literal-of-face Intervals d e h x a k w = absurd (let z : ◌≡◌ {A = ℕ} 0 1 = cc in omega arith)

pub literal-of-interval : {l l₁ : Book} {f : List ℕ} {r : Ran} {n : ℕ} (s : Sort) (d : ℕ) → s ≡ Intervals → Known s f → Literal s n f → Runs l (emit_interval d (dim n)) r l₁ → Runs l (emit_bounded s d (tree_of s f)) r l₁
literal-of-interval Faces d e h x k = absurd (let z : ◌≡◌ {A = ℕ} 0 1 = cc in omega arith)
literal-of-interval {f = f} Intervals d e h x k = literal-interval d (tree_of Intervals f) (literal-view h x) k

-- The step of the formula from `at` on, which ends at m.
abbrev pub Whole : Sort → ℕ → List ℕ → ℕ → Book → ℕ → ℕ → Place → Result Walked Stop → Book → Type 0
Whole s d f at l i k m r l' = Emits l (bounded_kind s (get_or (span at m f) 0 0)) (i ∷ k ∷ 0 ∷ []) (dim_bytes d ++ span at m f) (walk_ran r) l' × IfOk r (λ w. w.place ≡ m)

-- The formula at a place, and the place behind it.
module _ (s : Sort) (d : ℕ) {f : List ℕ} {p : Place} (b : d ≤ 255) (h : KnownAt s f p) where
  here-limited : Limited (bounded s d (tree_at s f p))
  here-limited = bounded-limited s d (tree_at s f p) (part_at s f p.at) h.is b

  here-bytes : {w : List ℕ} → w ≡ part_at s f p.at → operand_bytes (bounded s d (tree_at s f p)) ≡ dim_bytes d ++ w
  here-bytes {w} e = bounded-bytes s d (tree_at s f p) w (subst (Is s (tree_at s f p)) (sym e) h.is)

  module _ {q : Place} where
    pub leaf-walks : {l l' : Book} {r : Result Walked Stop} {i k : ℕ} → EndAt s (tree_at s f p) f p q (Leaf q) → Whole s d f p.at l i k q r l' → Walks l (emit_bounded s d (tree_at s f p)) (behind_at s f p) r l'
    leaf-walks {r = r} v w =
        let e = between-part h refl v.end in
        record { runs = leaf-at s (emit_bounded s d) (bounded s d) (bounded_kind s) (bounded-laws s d) v e here-limited (here-bytes e) w.0; moved = moved-to r v.end w.1 }

    pub literal-stops : {l l' : Book} {x : Stop} {n : ℕ} {w : List ℕ} → EndAt s (tree_at s f p) f p q (Lit q n) → w ≡ span p.at q f → Runs l (emit_bounded s d (tree_of s w)) (Err x) l'
        → Walks l (emit_bounded s d (tree_at s f p)) (behind_at s f p) (Err x) l'
    literal-stops v e k = record { runs = part-runs s (emit_bounded s d) (between-part h e v.end) k; moved = tt }

    pub literal-walks : {l l' : Book} {i n : ℕ} {w : List ℕ} → EndAt s (tree_at s f p) f p q (Lit q n) → w ≡ span p.at q f → Runs l (emit_bounded s d (tree_of s w)) (Ok i) l'
        → Walks l (emit_bounded s d (tree_at s f p)) (behind_at s f p) (Ok (record { step = i; place = q })) l'
    literal-walks v e k = record { runs = part-runs s (emit_bounded s d) (between-part h e v.end) k; moved = v.end }

    module _ {l l₁ : Book} (v : OneAt s (tree_at s f p) f p q) where
      pub one-walks-stop : {x : Stop} → Walks l (emit_bounded s d (tree_at s f q)) (behind_at s f q) (Err x) l₁ → Walks l (emit_bounded s d (tree_at s f p)) (behind_at s f p) (Err x) l₁
      one-walks-stop k = record { runs = one-at-stop s (emit_bounded s d) (bounded s d) (bounded_kind s) (bounded-laws s d) v k.runs; moved = tt }

      pub one-walks : {l₂ : Book} {a : Walked} {r : Result Walked Stop} {j : ℕ} → Walks l (emit_bounded s d (tree_at s f q)) (behind_at s f q) (Ok a) l₁ → Whole s d f p.at l₁ a.step j a.place r l₂
          → Walks l (emit_bounded s d (tree_at s f p)) (behind_at s f p) r l₂
      one-walks {r = r} k w =
          let n = k.moved ∙ v.end in
          let e = between-part h refl n in
          record { runs = one-at-runs s (emit_bounded s d) (bounded s d) (bounded_kind s) (bounded-laws s d) v k.runs e here-limited (here-bytes e) w.0; moved = moved-to r n w.1 }

    module _ {l l₁ : Book} (v : TwoAt s (tree_at s f p) f p q) where
      pub two-walks-stop : {x : Stop} → Walks l (emit_bounded s d (tree_at s f q)) (behind_at s f q) (Err x) l₁ → Walks l (emit_bounded s d (tree_at s f p)) (behind_at s f p) (Err x) l₁
      two-walks-stop k = record { runs = two-at-stop s (emit_bounded s d) (bounded s d) (bounded_kind s) (bounded-laws s d) v k.runs; moved = tt }

      module _ {l₂ : Book} {a : Walked} (k : Walks l (emit_bounded s d (tree_at s f q)) (behind_at s f q) (Ok a) l₁) where
        pub two-walks-stop-right : {x : Stop} → Walks l₁ (emit_bounded s d (tree_at s f a.place)) (behind_at s f a.place) (Err x) l₂ → Walks l (emit_bounded s d (tree_at s f p)) (behind_at s f p) (Err x) l₂
        two-walks-stop-right m = record { runs = two-at-stop-right s (emit_bounded s d) (bounded s d) (bounded_kind s) (bounded-laws s d) v k.runs k.moved m.runs; moved = tt }

        pub two-walks : {l₃ : Book} {c : Walked} {r : Result Walked Stop} → Walks l₁ (emit_bounded s d (tree_at s f a.place)) (behind_at s f a.place) (Ok c) l₂ → Whole s d f p.at l₂ a.step c.step c.place r l₃
            → Walks l (emit_bounded s d (tree_at s f p)) (behind_at s f p) r l₃
        two-walks {r = r} m w =
            let n = two-end v k.moved m.moved in
            let e = between-part h refl n in
            record { runs = two-at-runs s (emit_bounded s d) (bounded s d) (bounded_kind s) (bounded-laws s d) v k.runs k.moved m.runs e here-limited (here-bytes e) w.0; moved = moved-to r n w.1 }
