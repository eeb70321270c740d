-- Emitters that go by the nodes of a formula: the steps of the parts, left first, then the step of the whole.
use Prim.Native.Nat.{ℕ, ◌+◌, ◌<◌}
use native.Mathlib.Omega.{arith}
use mathlib.Core.Path.{◌≡◌, refl, sym, ap, ◌∙◌, subst}
use mathlib.Core.List.{List, [], ◌∷◌}
use lib.ListN.{length, get_or, drop}
use Rattle.formula.specs.declared.Sort.{Sort}
use Rattle.formula.specs.declared.Advance.TheVariants.{Leaf, Lit, One, Two}
use Rattle.formula.specs.declared.Place.{Place}
use Rattle.formula.specs.declared.Sort.TheVariants.{Faces}
use Rattle.formula.specs.Formula.{End, lo, hi, Face, at}
use Rattle.formula.specs.Bytes.{Tree, dim_bytes, Node, leaf, lit, one, two, bad, node_of}
use Rattle.formula.specs.Answers.{part_at, tree_of}
use Rattle.formula.proofs.Nodes.{EachNode, each-node, made_as}
use Rattle.calculus.specs.Judgement.{Judgement}
use Rattle.calculus.specs.Rules.{Rule}
use Rattle.calculus.specs.Record.{operand_bytes}
use Rattle.calculus.specs.Emit.{Program, emit, ◌>>=◌}
use Rattle.calculus.specs.Calls.{side}
use Rattle.calculus.proofs.Growing.{Limited}
use Rattle.ledger.specs.Ledger.{steps_of}
use Rattle.std.specs.Prelude.{Ok, Err}
use Rattle.steps.specs.declared.Stop.{Stop}
use Rattle.steps.specs.Running.{Book, Ran, Runs, Emits}
use Rattle.steps.specs.Trees.{Is, Known, Literal}
use Rattle.steps.proofs.RunLaws.{runs-next, runs-stop, runs-below, runs-more, emits-by}
use Rattle.steps.proofs.TreeLaws.{View, a-leaf, a-lit, a_one, a-two, view, tree-of, first_step}

-- What holds at the literals of a sort, at its nodes over one formula, and at those over two.
module _ (s : Sort) where
  abbrev pub AtLit : (ℕ → (ℕ → Tree s) → Type 0) → ℕ → Node (Tree s) → Type 0
  AtLit P b (leaf t) = Unit {0}
  AtLit P b (lit g) = P b g
  AtLit P b (one u) = Unit {0}
  AtLit P b (two v) = Unit {0}
  AtLit P b bad = Unit {0}

  abbrev pub AtOne : (ℕ → (Tree s → Tree s) → Type 0) → ℕ → Node (Tree s) → Type 0
  AtOne P b (leaf t) = Unit {0}
  AtOne P b (lit g) = Unit {0}
  AtOne P b (one u) = P b u
  AtOne P b (two v) = Unit {0}
  AtOne P b bad = Unit {0}

  abbrev pub AtTwo : (ℕ → (Tree s → Tree s → Tree s) → Type 0) → ℕ → Node (Tree s) → Type 0
  AtTwo P b (leaf t) = Unit {0}
  AtTwo P b (lit g) = Unit {0}
  AtTwo P b (one u) = Unit {0}
  AtTwo P b (two v) = P b v
  AtTwo P b bad = Unit {0}

  pub at-lit : (P : ℕ → (ℕ → Tree s) → Type 0) → EachNode s (AtLit P) → (b : ℕ) (g : ℕ → Tree s) → node_of s b ≡ lit g → P b g
  at-lit P h b g e = subst (AtLit P b) e (each-node s (AtLit P) h b)

  pub at_one : (P : ℕ → (Tree s → Tree s) → Type 0) → EachNode s (AtOne P) → (b : ℕ) (u : Tree s → Tree s) → node_of s b ≡ one u → P b u
  at_one P h b u e = subst (AtOne P b) e (each-node s (AtOne P) h b)

  pub at-two : (P : ℕ → (Tree s → Tree s → Tree s) → Type 0) → EachNode s (AtTwo P) → (b : ℕ) (v : Tree s → Tree s → Tree s) → node_of s b ≡ two v → P b v
  at-two P h b v e = subst (AtTwo P b) e (each-node s (AtTwo P) h b)

-- A face that is a literal on n, whose first byte tells its end.
pub data AtEnd (f : List ℕ) (n : ℕ) : Face → Type 0 where
  at-end : (e : End) → get_or f 0 0 ≡ side e 2 3 → AtEnd f n (at e n)

record HasEnd (b : ℕ) (g : ℕ → Face) : Type 0 where
  end : End
  byte : b ≡ side end 2 3
  face : (n : ℕ) → g n ≡ at end n

has_end : EachNode Faces (AtLit Faces HasEnd)
has_end = record { at0 = tt; at1 = tt; at2 = record { end = lo; byte = refl; face = λ n. refl }; at3 = record { end = hi; byte = refl; face = λ n. refl }; at4 = tt; at5 = tt; none = λ b. tt }

pub literal-end : {f : List ℕ} {q : Place} {n : ℕ} (t : Face) → View Faces f t (Lit q n) → AtEnd f n t
literal-end {f} t (a-lit b n g e j) =
    let k = at-lit Faces HasEnd has_end b g e in
    subst (AtEnd f n) (sym (k.face n)) (at-end k.end (ap (λ (x : List ℕ). get_or x 0 0) j ∙ k.byte))

-- The kind of a literal's rule by its end.
pub end-kind : (K : ℕ → ℕ) (e : End) (b x y : ℕ) → b ≡ side e 2 3 → K 2 ≡ x → K 3 ≡ y → K b ≡ side e x y
end-kind K lo b x y p g h = ap K p ∙ g
end-kind K hi b x y p g h = ap K p ∙ h

-- No face is a node over one face.
pub no_one : {A : Type 0} {f : List ℕ} {q : Place} (t : Face) → View Faces f t (One q) → A
no_one t (a_one b u x e g h) = absurd (at_one Faces (λ b u. ⊥) (record { at0 = tt; at1 = tt; at2 = tt; at3 = tt; at4 = tt; at5 = tt; none = λ b. tt }) b u e)

module _ (s : Sort) (W : Tree s → Program) (J : Tree s → Judgement) (K : ℕ → ℕ) where
  -- The program and the rule at each kind byte; literals are the emitter's own matter.
  abbrev pub Law : ℕ → Node (Tree s) → Type 0
  Law b (leaf t) = (W t ≡ emit (K b) [] (J t)) × Rule (K b) [] (J t)
  Law b (lit g) = Unit {0}
  Law b (one u) = (x : Tree s) → (W (u x) ≡ (W x >>= λ i. emit (K b) (i ∷ []) (J (u x)))) × Rule (K b) (J x ∷ []) (J (u x))
  Law b (two v) = (x y : Tree s) → (W (v x y) ≡ (W x >>= λ i. (W y >>= λ k. emit (K b) (i ∷ k ∷ []) (J (v x y))))) × Rule (K b) (J x ∷ J y ∷ []) (J (v x y))
  Law b bad = Unit {0}

  module _ (laws : EachNode s Law) where
    law-at : (b : ℕ) (k : Node (Tree s)) → node_of s b ≡ k → Law b k
    law-at b k e = subst (Law b) e (each-node s Law laws b)

    pub leaf-runs : {l l' : Book} {f x : List ℕ} {r : Ran} {i k z : ℕ} {q : Place} (t : Tree s) → View s f t (Leaf q) → Limited (J t) → operand_bytes (J t) ≡ x → Emits l (K (get_or f 0 0)) (i ∷ k ∷ z ∷ []) x r l' → Runs l (W t) r l'
    leaf-runs {l} {l'} {x = x} {r} {i} {k} {z} t (a-leaf b t₁ e g) m o h =
        let p = law-at b (leaf t₁) e in
        let h' : Emits l (K b) (i ∷ k ∷ z ∷ []) x r l' = subst (λ (n : List ℕ). Emits l (K (get_or n 0 0)) (i ∷ k ∷ z ∷ []) x r l') g h in
        subst (λ (w : Program). Runs l w r l') (sym p.0) (emits-by h' p.1 [] refl tt m refl o)

    -- The part below a node over one formula, then the step of the whole.
    pub one-stop : {l l₁ : Book} {f : List ℕ} {e : Stop} {q : Place} (t : Tree s) → View s f t (One q) → Runs l (W (tree_of s (drop 1 f))) (Err e) l₁ → Runs l (W t) (Err e) l₁
    one-stop {l} {l₁} {e = e} t (a_one b u x n g h) k =
        let k' : Runs l (W x) (Err e) l₁ = subst (λ y. Runs l (W y) (Err e) l₁) (tree-of h) k in
        subst (λ (w : Program). Runs l w (Err e) l₁) (sym (law-at b (one u) n x).0) (runs-stop (λ i. emit (K b) (i ∷ []) (J (u x))) k' refl)

    pub one-runs : {l l₁ l₂ : Book} {f y : List ℕ} {c : Ran} {i j z : ℕ} {q : Place} (t : Tree s) → View s f t (One q) → Limited (J t) → operand_bytes (J t) ≡ y
        → Runs l (W (tree_of s (drop 1 f))) (Ok i) l₁ → Emits l₁ (K (get_or f 0 0)) (i ∷ j ∷ z ∷ []) y c l₂ → Runs l (W t) c l₂
    one-runs {l} {l₁} {l₂} {y = y} {c} {i} {j} {z} t (a_one b u x e g h) m o k w =
        let k' : Runs l (W x) (Ok i) l₁ = subst (λ y. Runs l (W y) (Ok i) l₁) (tree-of h) k in
        let w' : Emits l₁ (K b) (i ∷ j ∷ z ∷ []) y c l₂ = subst (λ (a : ℕ). Emits l₁ (K a) (i ∷ j ∷ z ∷ []) y c l₂) g w in
        let p = law-at b (one u) e x in
        subst (λ (v : Program). Runs l v c l₂) (sym p.0)
        (runs-next (λ i. emit (K b) (i ∷ []) (J (u x))) k' refl (emits-by w' p.1 (i ∷ []) refl (runs-below k' refl, tt) m refl o))

    -- Both parts below a node over two formulas, left first, then the step of the whole.
    pub two-stop : {l l₁ : Book} {f : List ℕ} {e : Stop} {q : Place} (t : Tree s) → View s f t (Two q) → Runs l (W (tree_of s (part_at s f 1))) (Err e) l₁ → Runs l (W t) (Err e) l₁
    two-stop {l} {l₁} {e = e} t (a-two b v x y n g hx hy j) k =
        let k' : Runs l (W x) (Err e) l₁ = subst (λ z. Runs l (W z) (Err e) l₁) (tree-of hx) k in
        subst (λ (w : Program). Runs l w (Err e) l₁) (sym (law-at b (two v) n x y).0) (runs-stop (λ i. (W y >>= λ k. emit (K b) (i ∷ k ∷ []) (J (v x y)))) k' refl)

    pub two-stop-right : {l l₁ l₂ : Book} {f : List ℕ} {i : ℕ} {e : Stop} {q : Place} (t : Tree s) → View s f t (Two q) → Runs l (W (tree_of s (part_at s f 1))) (Ok i) l₁
        → Runs l₁ (W (tree_of s (drop (1 + length (part_at s f 1)) f))) (Err e) l₂ → Runs l (W t) (Err e) l₂
    two-stop-right {l} {l₁} {l₂} {i = i} {e} t (a-two b v x y n g hx hy j) k m =
        let k' : Runs l (W x) (Ok i) l₁ = subst (λ z. Runs l (W z) (Ok i) l₁) (tree-of hx) k in
        let m' : Runs l₁ (W y) (Err e) l₂ = subst (λ z. Runs l₁ (W z) (Err e) l₂) (tree-of hy) m in
        subst (λ (w : Program). Runs l w (Err e) l₂) (sym (law-at b (two v) n x y).0)
        (runs-next (λ i. (W y >>= λ k. emit (K b) (i ∷ k ∷ []) (J (v x y)))) k' refl (runs-stop (λ m. emit (K b) (i ∷ m ∷ []) (J (v x y))) m' refl))

    pub two_runs : {l l₁ l₂ l₃ : Book} {f z : List ℕ} {a : Ran} {i m o : ℕ} {q : Place} (t : Tree s) → View s f t (Two q) → Limited (J t) → operand_bytes (J t) ≡ z
        → Runs l (W (tree_of s (part_at s f 1))) (Ok i) l₁ → Runs l₁ (W (tree_of s (drop (1 + length (part_at s f 1)) f))) (Ok m) l₂
        → Emits l₂ (K (get_or f 0 0)) (i ∷ m ∷ o ∷ []) z a l₃ → Runs l (W t) a l₃
    two_runs {l} {l₁} {l₂} {l₃} {z = z} {a} {i} {m} {o} t (a-two b v x y e g hx hy j) lim ops k n w =
        let k' : Runs l (W x) (Ok i) l₁ = subst (λ z. Runs l (W z) (Ok i) l₁) (tree-of hx) k in
        let n' : Runs l₁ (W y) (Ok m) l₂ = subst (λ z. Runs l₁ (W z) (Ok m) l₂) (tree-of hy) n in
        let w' : Emits l₂ (K b) (i ∷ m ∷ o ∷ []) z a l₃ = subst (λ (u : ℕ). Emits l₂ (K u) (i ∷ m ∷ o ∷ []) z a l₃) g w in
        let q = law-at b (two v) e x y in
        let below : i < length (steps_of l₂.bytes) = omega (arith, runs-below k' refl, runs-more n') in
        subst (λ (w : Program). Runs l w a l₃) (sym q.0)
        (runs-next (λ i. (W y >>= λ k. emit (K b) (i ∷ k ∷ []) (J (v x y)))) k' refl
        (runs-next (λ m. emit (K b) (i ∷ m ∷ []) (J (v x y))) n' refl
        (emits-by w' q.1 (i ∷ m ∷ []) refl (below, (runs-below n' refl, tt)) lim refl ops)))

-- A run on a part of the bytes.
pub part-runs : (s : Sort) {l l₁ : Book} {x y : List ℕ} {r : Ran} (W : Tree s → Program) → x ≡ y → Runs l (W (tree_of s x)) r l₁ → Runs l (W (tree_of s y)) r l₁
part-runs s {l} {l₁} {r = r} W e h = subst (λ (z : List ℕ). Runs l (W (tree_of s z)) r l₁) e h

-- A literal, as it is told of the bytes.
pub literal-view : {s : Sort} {f : List ℕ} {n : ℕ} → Known s f → (h : Literal s n f) → View s f (tree_of s f) (Lit h.place n)
literal-view {s} {f} {n} k h = subst (View s f (tree_of s f)) h.steps (view s (tree_of s f) f k)

pub literal-of : {s : Sort} {f : List ℕ} {t : Tree s} {q : Place} {n : ℕ} → View s f t (Lit q n) → Literal s n f
literal-of {s} (a-lit b n g e i) = subst (Literal s n) (sym i) (record { place = _; steps = first_step s b (dim_bytes n) (lit g) e })

-- The dimension of a literal keeps the limits.
pub literal-low : {s : Sort} {f : List ℕ} {q : Place} {n : ℕ} (t : Tree s) → View s f t (Lit q n) → Is s t f → n < 255
literal-low {s} t (a-lit b n g e j) h = omega (arith, (made_as s b (lit g) e n).top, h.low)
