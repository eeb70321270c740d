-- Emitters that go over a formula from a place on: the laws of its nodes, with the parts at their places.
use Prim.Native.Nat.{ℕ, ◌+◌, ◌-◌, ◌<◌}
use native.Mathlib.Omega.{arith}
use mathlib.Core.Path.{◌≡◌, refl, sym, ap, ◌∙◌, subst}
use mathlib.Core.List.{List, [], ◌∷◌}
use lib.ListN.{length, get_or, drop}
use Rattle.formula.specs.declared.Sort.{Sort}
use Rattle.formula.specs.declared.Advance.TheVariants.{Leaf, One, Two}
use Rattle.formula.specs.declared.Place.{Place}
use Rattle.formula.specs.Bytes.{Tree}
use Rattle.formula.specs.Answers.{part_at, tree_of}
use Rattle.formula.proofs.Nodes.{EachNode}
use Rattle.calculus.specs.Judgement.{Judgement}
use Rattle.calculus.specs.Record.{operand_bytes}
use Rattle.calculus.specs.Emit.{Program}
use Rattle.calculus.proofs.Growing.{Limited}
use Rattle.std.specs.Prelude.{Result, Ok, Err, IfOk}
use Rattle.std.proofs.lemmas.Result.{IfOk-weaker}
use Rattle.steps.specs.declared.Stop.{Stop}
use Rattle.steps.specs.declared.Walked.{Walked}
use Rattle.steps.specs.declared.Paired.{Paired}
use Rattle.steps.specs.Running.{Book, Ran, Runs, Emits}
use Rattle.steps.specs.Walking.{StandsAt, tree_at, KnownAt, behind_at, span, inside_of, below_of, pair_ran, WalksBoth}
use Rattle.steps.proofs.NodeLaws.{Law, AtOne, at_one, AtTwo, at-two, part-runs, leaf-runs, one-stop, one-runs, two-stop, two-stop-right, two_runs}
use Rattle.steps.proofs.PlaceLaws.{at-inside, between-part, PairAt, pair-at, BelowAt, below_at, EndAt, OneAt, TwoAt}
use Rattle.steps.proofs.ResultLaws.{Pairs, Singles}
use Rattle.steps.proofs.TreeLaws.{View, a_one, a-two, tree-of}

-- The same run at an equal place, and an emission by the bytes of a part.
along-place : (s : Sort) (W : Tree s → Program) (f : List ℕ) {l l₁ : Book} {p q : Place} {r : Ran} → p ≡ q → Runs l (W (tree_at s f p)) r l₁ → Runs l (W (tree_at s f q)) r l₁
along-place s W f {l} {l₁} {r = r} e h = subst (λ (z : Place). Runs l (W (tree_at s f z)) r l₁) e h

pub by_part : (K : ℕ → ℕ) {l l₁ : Book} {w x y n : List ℕ} {r : Ran} → w ≡ x → Emits l (K (get_or w 0 0)) n y r l₁ → Emits l (K (get_or x 0 0)) n y r l₁
by_part K {l} {l₁} {y = y} {n} {r} e h = subst (λ (u : List ℕ). Emits l (K (get_or u 0 0)) n y r l₁) e h

module _ (s : Sort) (W : Tree s → Program) (J : Tree s → Judgement) (K : ℕ → ℕ) (laws : EachNode s (Law s W J K)) {f : List ℕ} {p q : Place} where
  pub leaf-at : {l l' : Book} {w y : List ℕ} {r : Ran} {i k z : ℕ} → EndAt s (tree_at s f p) f p q (Leaf q) → w ≡ part_at s f p.at → Limited (J (tree_at s f p)) → operand_bytes (J (tree_at s f p)) ≡ y
      → Emits l (K (get_or w 0 0)) (i ∷ k ∷ z ∷ []) y r l' → Runs l (W (tree_at s f p)) r l'
  leaf-at v e m o h = leaf-runs s W J K laws (tree_at s f p) v.view m o (by_part K e h)

  module _ {l l₁ : Book} (v : OneAt s (tree_at s f p) f p q) where
    pub one-at-stop : {e : Stop} → Runs l (W (tree_at s f q)) (Err e) l₁ → Runs l (W (tree_at s f p)) (Err e) l₁
    one-at-stop h = one-stop s W J K laws (tree_at s f p) v.view (part-runs s W v.part h)

    pub one-at-runs : {l₂ : Book} {w y : List ℕ} {c : Ran} {i j z : ℕ} → Runs l (W (tree_at s f q)) (Ok i) l₁ → w ≡ part_at s f p.at → Limited (J (tree_at s f p)) → operand_bytes (J (tree_at s f p)) ≡ y
        → Emits l₁ (K (get_or w 0 0)) (i ∷ j ∷ z ∷ []) y c l₂ → Runs l (W (tree_at s f p)) c l₂
    one-at-runs h e m o k = one-runs s W J K laws (tree_at s f p) v.view m o (part-runs s W v.part h) (by_part K e k)

  module _ {l l₁ : Book} (v : TwoAt s (tree_at s f p) f p q) where
    pub two-at-stop : {e : Stop} → Runs l (W (tree_at s f q)) (Err e) l₁ → Runs l (W (tree_at s f p)) (Err e) l₁
    two-at-stop h = two-stop s W J K laws (tree_at s f p) v.view (part-runs s W v.left-part h)

    module _ {l₂ : Book} {i : ℕ} {m : Place} (h : Runs l (W (tree_at s f q)) (Ok i) l₁) (e : m ≡ behind_at s f q) where
      pub two-at-stop-right : {b : Stop} → Runs l₁ (W (tree_at s f m)) (Err b) l₂ → Runs l (W (tree_at s f p)) (Err b) l₂
      two-at-stop-right k = two-stop-right s W J K laws (tree_at s f p) v.view (part-runs s W v.left-part h) (part-runs s W v.right-part (along-place s W f e k))

      pub two-at-runs : {l₃ : Book} {w y : List ℕ} {c : Ran} {j z : ℕ} → Runs l₁ (W (tree_at s f m)) (Ok j) l₂ → w ≡ part_at s f p.at → Limited (J (tree_at s f p)) → operand_bytes (J (tree_at s f p)) ≡ y
          → Emits l₂ (K (get_or w 0 0)) (i ∷ j ∷ z ∷ []) y c l₃ → Runs l (W (tree_at s f p)) c l₃
      two-at-runs k u x o n = two_runs s W J K laws (tree_at s f p) v.view x o (part-runs s W v.left-part h) (part-runs s W v.right-part (along-place s W f e k)) (by_part K u n)

-- The place of a run that is done, by an equal one.
pub moved-to : (r : Result Walked Stop) {m q : Place} → m ≡ q → IfOk r (λ w. w.place ≡ m) → IfOk r (λ w. w.place ≡ q)
moved-to r e h = IfOk-weaker r _ _ (λ w d. d ∙ e) h

pub both-moved-to : (r : Result Paired Stop) {m q n i : Place} → m ≡ q → n ≡ i → IfOk r (λ w. (w.place ≡ m) × (w.image ≡ n)) → IfOk r (λ w. (w.place ≡ q) × (w.image ≡ i))
both-moved-to r e f h = IfOk-weaker r _ _ (λ w d. (d.0 ∙ e, d.1 ∙ f)) h

-- The right part stands where the run over the left one has come, and the place behind it is the one behind the whole.
module _ {s : Sort} {f : List ℕ} {p q m : Place} (v : TwoAt s (tree_at s f p) f p q) (e : m ≡ behind_at s f q) where
  pub right-at : KnownAt s f m
  right-at = subst (KnownAt s f) (sym e) v.right

  pub two-end : {n : Place} → n ≡ behind_at s f m → n ≡ behind_at s f p
  two-end i = i ∙ ap (behind_at s f) e ∙ v.end

-- What is left to go over becomes less.
pub less_one : {s : Sort} {f : List ℕ} {p q : Place} {n : ℕ} → KnownAt s f p → OneAt s (tree_at s f p) f p q → length f - p.at ≡ n → length f - q.at < n
less_one h v e = omega (arith, e, at-inside h, ap (λ (z : Place). z.at) v.place)

pub less-left : {s : Sort} {f : List ℕ} {p q : Place} {n : ℕ} → KnownAt s f p → TwoAt s (tree_at s f p) f p q → length f - p.at ≡ n → length f - q.at < n
less-left h v e = omega (arith, e, at-inside h, ap (λ (z : Place). z.at) v.place)

pub less-right : {s : Sort} {f : List ℕ} {p q m : Place} {n : ℕ} → KnownAt s f p → TwoAt s (tree_at s f p) f p q → m ≡ behind_at s f q → length f - p.at ≡ n → length f - m.at < n
less-right h v i e = omega (arith, e, at-inside h, ap (λ (z : Place). z.at) v.place, ap (λ (z : Place). z.at) i)

-- The image of a formula beside it: the images of its parts stand at their places.
module _ (s z : Sort) (T : Tree s → Tree z) {out : List ℕ} {q u : Place} where
  pair-by : EachNode s (AtTwo s (Pairs s z T)) → {x : List ℕ} (t : Tree s) → View s x t (Two q) → StandsAt z (T t) out u
      → PairAt z (T (tree_of s (part_at s x 1))) (T (tree_of s (drop (1 + length (part_at s x 1)) x))) out u
  pair-by laws {x} t (a-two b v a c e g hx hy j) h =
      let k : PairAt z (T a) (T c) out u = pair-at (at-two s (Pairs s z T) laws b v e a c) h in
      let k₁ : PairAt z (T (tree_of s (part_at s x 1))) (T c) out u = subst (λ y. PairAt z (T y) (T c) out u) (sym (tree-of hx)) k in
      subst (λ y. PairAt z (T (tree_of s (part_at s x 1))) (T y) out u) (sym (tree-of hy)) k₁

  below_by : EachNode s (AtOne s (Singles s z T)) → {x : List ℕ} (t : Tree s) → View s x t (One q) → StandsAt z (T t) out u → BelowAt z (T (tree_of s (drop 1 x))) out u
  below_by laws {x} t (a_one b v a e g hx) h = subst (λ y. BelowAt z (T y) out u) (sym (tree-of hx)) (below_at (at_one s (Singles s z T) laws b v e a) h)

  module _ {f : List ℕ} {p : Place} where
    pub image-two : EachNode s (AtTwo s (Pairs s z T)) → TwoAt s (tree_at s f p) f p q → {m : Place} → m ≡ behind_at s f q → StandsAt z (T (tree_at s f p)) out u → PairAt z (T (tree_at s f q)) (T (tree_at s f m)) out u
    image-two laws v {m} e h =
        let rest = drop (1 + length (part_at s (part_at s f p.at) 1)) (part_at s f p.at) in
        let k : PairAt z (T (tree_at s f q)) (T (tree_of s rest)) out u = subst (λ (y : List ℕ). PairAt z (T (tree_of s y)) (T (tree_of s rest)) out u) (sym v.left-part) (pair-by laws (tree_at s f p) v.view h) in
        subst (λ (y : List ℕ). PairAt z (T (tree_at s f q)) (T (tree_of s y)) out u) (sym (ap (λ (w : Place). part_at s f w.at) e ∙ v.right-part)) k

    pub image-one : EachNode s (AtOne s (Singles s z T)) → OneAt s (tree_at s f p) f p q → StandsAt z (T (tree_at s f p)) out u → BelowAt z (T (tree_at s f q)) out u
    image-one laws v h = subst (λ (y : List ℕ). BelowAt z (T (tree_of s y)) out u) (sym v.part) (below_by laws (tree_at s f p) v.view h)

-- The images of both parts, at the places from which the runs over them go.
module _ {z : Sort} {x y : Tree z} {out : List ℕ} {u w : Place} (k : PairAt z x y out u) (i : w ≡ inside_of u) where
  pub left-image : StandsAt z x out w
  left-image = subst (StandsAt z x out) (sym i) k.left

  module _ {m : Place} (j : m ≡ behind_at z out w) where
    pub right-image : StandsAt z y out m
    right-image = subst (StandsAt z y out) (sym (j ∙ ap (behind_at z out) i)) k.right

    pub image-end : behind_at z out m ≡ behind_at z out u
    image-end = ap (behind_at z out) (j ∙ ap (behind_at z out) i) ∙ k.end

-- The same of the image of the only part.
module _ {z : Sort} {x : Tree z} {out : List ℕ} {u w : Place} (k : BelowAt z x out u) (i : w ≡ below_of u) where
  pub below-image : StandsAt z x out w
  below-image = subst (StandsAt z x out) (sym i) k.below

  pub below_end : behind_at z out w ≡ behind_at z out u
  below_end = ap (behind_at z out) i ∙ k.end

-- A formula at p whose image ends at u: the operands of its own step are told by its bytes and by the place where the image ends.
pub record Beside (s : Sort) (W : Tree s → Program) (J : Tree s → Judgement) (K : ℕ → ℕ) (O : List ℕ → Place → List ℕ) (f : List ℕ) (p u : Place) : Type 0 where
  pub laws : EachNode s (Law s W J K)
  pub known : KnownAt s f p
  pub limited : Limited (J (tree_at s f p))
  pub operands : (x : List ℕ) (n : Place) → x ≡ part_at s f p.at → n ≡ u → operand_bytes (J (tree_at s f p)) ≡ O x n

module _ {s : Sort} {W : Tree s → Program} {J : Tree s → Judgement} {K : ℕ → ℕ} {O : List ℕ → Place → List ℕ} {f : List ℕ} {p u : Place} (b : Beside s W J K O f p u) where
  -- The step of the whole formula, which ends at m, and its image at n.
  abbrev pub Ended : Book → ℕ → ℕ → Place → Place → Result Paired Stop → Book → Type 0
  Ended l i j m n r l' = Emits l (K (get_or (span p.at m f) 0 0)) (i ∷ j ∷ 0 ∷ []) (O (span p.at m f) n) (pair_ran r) l' × IfOk r (λ x. (x.place ≡ m) × (x.image ≡ n))

  module _ {q : Place} where
    pub leaf-both : {l l' : Book} {r : Result Paired Stop} {i j : ℕ} {n : Place} → EndAt s (tree_at s f p) f p q (Leaf q) → n ≡ u → Ended l i j q n r l' → WalksBoth l (W (tree_at s f p)) (behind_at s f p) u r l'
    leaf-both {r = r} {n = n} v k w =
        let e = between-part b.known refl v.end in
        record { runs = leaf-at s W J K b.laws v e b.limited (b.operands (span p.at q f) n e k) w.0; moved = both-moved-to r v.end k w.1 }

    module _ {l l₁ : Book} {u₁ : Place} (v : OneAt s (tree_at s f p) f p q) where
      pub one-both-stop : {e : Stop} → WalksBoth l (W (tree_at s f q)) (behind_at s f q) u₁ (Err e) l₁ → WalksBoth l (W (tree_at s f p)) (behind_at s f p) u (Err e) l₁
      one-both-stop g = record { runs = one-at-stop s W J K b.laws v g.runs; moved = tt }

      pub one-both : {l₂ : Book} {a : Paired} {r : Result Paired Stop} {j : ℕ} → WalksBoth l (W (tree_at s f q)) (behind_at s f q) u₁ (Ok a) l₁ → u₁ ≡ u → Ended l₁ a.step j a.place a.image r l₂
          → WalksBoth l (W (tree_at s f p)) (behind_at s f p) u r l₂
      one-both {a = a} {r} g k w =
          let m = g.moved.0 ∙ v.end in
          let n = g.moved.1 ∙ k in
          let e = between-part b.known refl m in
          record { runs = one-at-runs s W J K b.laws v g.runs e b.limited (b.operands (span p.at a.place f) a.image e n) w.0; moved = both-moved-to r m n w.1 }

    module _ {l l₁ : Book} {u₁ : Place} (v : TwoAt s (tree_at s f p) f p q) where
      pub two-both-stop : {e : Stop} → WalksBoth l (W (tree_at s f q)) (behind_at s f q) u₁ (Err e) l₁ → WalksBoth l (W (tree_at s f p)) (behind_at s f p) u (Err e) l₁
      two-both-stop g = record { runs = two-at-stop s W J K b.laws v g.runs; moved = tt }

      module _ {l₂ : Book} {a : Paired} {u₂ : Place} (g : WalksBoth l (W (tree_at s f q)) (behind_at s f q) u₁ (Ok a) l₁) where
        pub two-both-stop-right : {e : Stop} → WalksBoth l₁ (W (tree_at s f a.place)) (behind_at s f a.place) u₂ (Err e) l₂ → WalksBoth l (W (tree_at s f p)) (behind_at s f p) u (Err e) l₂
        two-both-stop-right h = record { runs = two-at-stop-right s W J K b.laws v g.runs g.moved.0 h.runs; moved = tt }

        pub two-both : {l₃ : Book} {c : Paired} {r : Result Paired Stop} → WalksBoth l₁ (W (tree_at s f a.place)) (behind_at s f a.place) u₂ (Ok c) l₂ → u₂ ≡ u → Ended l₂ a.step c.step c.place c.image r l₃
            → WalksBoth l (W (tree_at s f p)) (behind_at s f p) u r l₃
        two-both {c = c} {r} h k w =
            let m = two-end v g.moved.0 h.moved.0 in
            let n = h.moved.1 ∙ k in
            let e = between-part b.known refl m in
            record { runs = two-at-runs s W J K b.laws v g.runs g.moved.0 h.runs e b.limited (b.operands (span p.at c.place f) c.image e n) w.0; moved = both-moved-to r m n w.1 }
