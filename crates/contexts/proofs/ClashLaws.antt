-- A table of the literals that were met: where no opposite was met, no two faces clash.
use Prim.Native.Nat.{ℕ, suc, ◌+◌, ◌-◌, ◌*◌, ◌≤◌, ◌<◌}
use native.Mathlib.Omega.{arith}
use native.Mathlib.Decide.{ℕ_discrete}
use mathlib.Core.Path.{◌≡◌, refl, sym, ap, ap₂, ◌∙◌, subst}
use mathlib.Core.Bool.{Bool, true, false, ◌||◌, decide, false≢true}
use mathlib.Core.List.{List, [], ◌∷◌, ◌++◌, append_assoc, append-nil}
use lib.ListN.{length, get_or, set, replicate, length-set, length-replicate}
use lib.Seq.{get_or-set_same, get_or-set_other}
use Rattle.formula.specs.declared.Sort.TheVariants.{Faces}
use Rattle.formula.specs.Formula.{End, lo, hi, Face, ff, ft, at, fand, for}
use Rattle.formula.specs.Bytes.{encode_face, bound_face}
use Rattle.calculus.specs.Judgement.{same_face}
use Rattle.calculus.specs.Record.{bound_context}
use Rattle.calculus.specs.Search.{Move, by-clash, stuck, ◌else◌, provided, has, clash_of, try_clash}
use Rattle.steps.specs.Trees.{Is}
use Rattle.contexts.specs.declared.context.Context.{Context}
use Rattle.contexts.specs.Faces.{faces_of, First}
use Rattle.contexts.specs.Moves.{Meets}
use Rattle.contexts.proofs.MoveLaws.{has_same, has_other}

-- The number of a literal in the table, and that of its opposite.
abbrev slot_of : End → ℕ → ℕ
slot_of lo k = 2 * k
slot_of hi k = 2 * k + 1

abbrev beside_of : End → ℕ → ℕ
beside_of lo k = 2 * k + 1
beside_of hi k = 2 * k

-- A face of a context with one face more behind it.
data Among (f : Face) (L : List Face) (x : Face) : Type 0 where
  before : has f L ≡ true → Among f L x
  last : f ≡ x → Among f L x

among : (f : Face) (L : List Face) (x : Face) → has f (L ++ x ∷ []) ≡ true → Among f L x
unfolding has decide
among f [] x e = go (same_face f x) e
  where
    go : (d : Dec (f ≡ x)) → (decide d || false) ≡ true → Among f [] x
    go (yes p) h = last p
    go (no p) h = absurd (false≢true h)
among f (y ∷ L) x e = go (λ h. among f L x h) (same_face f y) e
  where
    lift : Among f L x → (has f L ≡ true → has f (y ∷ L) ≡ true) → Among f (y ∷ L) x
    lift (before h) k = before (k h)
    lift (last p) k = last p

    go : (has f (L ++ x ∷ []) ≡ true → Among f L x) → (d : Dec (f ≡ y)) → (decide d || has f (L ++ x ∷ [])) ≡ true → Among f (y ∷ L) x
    go r (yes p) h = before (sym (has_same f y L p))
    go r (no p) h = lift (r h) (λ k. sym (has_other f y L p) ∙ k)

-- What the table says of the faces L that were met, in front of the others R.
pub record Met (G : List Face) (s : List ℕ) (L R : List Face) : Type 0 where
  pub whole : G ≡ L ++ R
  pub long : length s ≡ 512
  pub kept : (e : End) (k : ℕ) → k < 255 → has (at e k) L ≡ true → get_or s (slot_of e k) 0 ≡ 1
  pub apart : (k : ℕ) → k < 255 → has (at lo k) L ≡ true → has (at hi k) L ≡ true → ⊥

pub met_start : (G : List Face) (s : List ℕ) → s ≡ replicate 512 0 → Met G s [] G
unfolding has
met_start G s e = record { whole = refl; long = ap length e ∙ length-replicate {A = ℕ} 512 0; kept = λ f k b h. absurd (false≢true h); apart = λ k b h i. false≢true h }

-- The bytes of a literal, and of another face.
data View (x : Face) (l : List ℕ) : Type 0 where
  literal : (e : End) (k : ℕ) → x ≡ at e k → k < 255 → 2 ≤ get_or l 0 0 → get_or l 0 0 ≤ 3 → 2 * get_or l 1 0 + (get_or l 0 0 - 2) ≡ slot_of e k → 2 * get_or l 1 0 + (3 - get_or l 0 0) ≡ beside_of e k → View x l
  small : ((e : End) (k : ℕ) → at e k ≡ x → ⊥) → get_or l 0 0 < 2 → View x l
  large : ((e : End) (k : ℕ) → at e k ≡ x → ⊥) → 3 < get_or l 0 0 → View x l

view : (x : Face) (l : List ℕ) → Is Faces x l → View x l
unfolding encode_face bound_face
view ff l w = small (λ e k h. let z : ◌≡◌ {A = ℕ} 0 1 = cc in omega arith) (omega (arith, ap (λ (m : List ℕ). get_or m 0 0) w.bytes))
view ft l w = small (λ e k h. let z : ◌≡◌ {A = ℕ} 0 1 = cc in omega arith) (omega (arith, ap (λ (m : List ℕ). get_or m 0 0) w.bytes))
view (at lo n) l w =
    let a : get_or l 0 0 ≡ 2 = ap (λ (m : List ℕ). get_or m 0 0) w.bytes in
    let b : get_or l 1 0 ≡ n = ap (λ (m : List ℕ). get_or m 1 0) w.bytes in
    literal lo n refl (omega (arith, w.low)) (omega arith) (omega arith) (omega arith) (omega arith)
view (at hi n) l w =
    let a : get_or l 0 0 ≡ 3 = ap (λ (m : List ℕ). get_or m 0 0) w.bytes in
    let b : get_or l 1 0 ≡ n = ap (λ (m : List ℕ). get_or m 1 0) w.bytes in
    literal hi n refl (omega (arith, w.low)) (omega arith) (omega arith) (omega arith) (omega arith)
view (fand y z) l w = large (λ e k h. let z : ◌≡◌ {A = ℕ} 0 1 = cc in omega arith) (omega (arith, ap (λ (m : List ℕ). get_or m 0 0) w.bytes))
view (for y z) l w = large (λ e k h. let z : ◌≡◌ {A = ℕ} 0 1 = cc in omega arith) (omega (arith, ap (λ (m : List ℕ). get_or m 0 0) w.bytes))

module _ {G L R : List Face} {x : Face} {s h s' : List ℕ} (p : Met G s L (x ∷ R)) (out : Is Faces x h) {r : Bool} (m : Meets h s r s') (t : r ≡ true) where
  split : (f : Face) → has f (L ++ x ∷ []) ≡ true → Among f L x
  split f e = among f L x e

  whole : G ≡ (L ++ x ∷ []) ++ R
  whole = p.whole ∙ sym (append_assoc L (x ∷ []) R)

  -- A face that is no literal changes nothing.
  module _ (other : (e : End) (k : ℕ) → at e k ≡ x → ⊥) (same : s' ≡ s) where
    old : (e : End) (k : ℕ) → has (at e k) (L ++ x ∷ []) ≡ true → has (at e k) L ≡ true
    old e k u = go (split (at e k) u)
      where
        go : Among (at e k) L x → has (at e k) L ≡ true
        go (before h) = h
        go (last h) = absurd (other e k h)

    plain : Met G s' (L ++ x ∷ []) R
    plain = record { whole = whole; long = ap length same ∙ p.long; kept = λ e k c u. ap (λ (y : List ℕ). get_or y (slot_of e k) 0) same ∙ p.kept e k c (old e k u); apart = λ k c u v. p.apart k c (old lo k u) (old hi k v) }

  -- A literal is kept, and its opposite was not met.
  module _ (e₀ : End) (k₀ : ℕ) (is : x ≡ at e₀ k₀) (low : k₀ < 255) (new : s' ≡ set s (slot_of e₀ k₀) 1) (free : get_or s (beside_of e₀ k₀) 0 ≡ 0) where
    inside : (e : End) → slot_of e k₀ < length s
    inside lo = omega (arith, p.long)
    inside hi = omega (arith, p.long)

    stays : (e : End) (k : ℕ) → get_or s (slot_of e k) 0 ≡ 1 → get_or s' (slot_of e k) 0 ≡ 1
    stays e k u = ap (λ (y : List ℕ). get_or y (slot_of e k) 0) new ∙ go (ℕ_discrete (slot_of e k) (slot_of e₀ k₀))
      where
        go : Dec (slot_of e k ≡ slot_of e₀ k₀) → get_or (set s (slot_of e₀ k₀) 1) (slot_of e k) 0 ≡ 1
        go (yes z) = ap (λ (j : ℕ). get_or (set s (slot_of e₀ k₀) 1) j 0) z ∙ get_or-set_same s (slot_of e₀ k₀) 1 0 (inside e₀)
        go (no z) = get_or-set_other s (slot_of e₀ k₀) (slot_of e k) 1 0 z ∙ u

    here : get_or s' (slot_of e₀ k₀) 0 ≡ 1
    here = ap (λ (y : List ℕ). get_or y (slot_of e₀ k₀) 0) new ∙ get_or-set_same s (slot_of e₀ k₀) 1 0 (inside e₀)

    kept_more : (e : End) (k : ℕ) → k < 255 → has (at e k) (L ++ x ∷ []) ≡ true → get_or s' (slot_of e k) 0 ≡ 1
    kept_more e k c u = go (split (at e k) u)
      where
        go : Among (at e k) L x → get_or s' (slot_of e k) 0 ≡ 1
        go (before h) = stays e k (p.kept e k c h)
        go (last h) =
            let y : at e k ≡ at e₀ k₀ = h ∙ is in
            let z₁ : e ≡ e₀ = cc in
            let z₂ : k ≡ k₀ = cc in
            rw (z₁, z₂) here

    apart_more : (k : ℕ) → k < 255 → has (at lo k) (L ++ x ∷ []) ≡ true → has (at hi k) (L ++ x ∷ []) ≡ true → ⊥
    apart_more k c u v = go (split (at lo k) u) (split (at hi k) v)
      where
        go : Among (at lo k) L x → Among (at hi k) L x → ⊥
        go (before f) (before g) = p.apart k c f g
        go (before f) (last g) =
            let y : at hi k ≡ at e₀ k₀ = g ∙ is in
            let z₁ : e₀ ≡ hi = cc in
            let z₂ : k₀ ≡ k = cc in
            let a : get_or s (2 * k) 0 ≡ 0 = rw (z₁, z₂) at free in
            omega (arith, p.kept lo k c f, a)
        go (last f) (before g) =
            let y : at lo k ≡ at e₀ k₀ = f ∙ is in
            let z₁ : e₀ ≡ lo = cc in
            let z₂ : k₀ ≡ k = cc in
            let a : get_or s (2 * k + 1) 0 ≡ 0 = rw (z₁, z₂) at free in
            omega (arith, p.kept hi k c g, a)
        go (last f) (last g) = let y : at lo k ≡ at hi k = f ∙ sym g in let z : ◌≡◌ {A = ℕ} 0 1 = cc in omega arith

    noted : Met G s' (L ++ x ∷ []) R
    noted = record { whole = whole; long = ap length new ∙ length-set s (slot_of e₀ k₀) 1 ∙ p.long; kept = kept_more; apart = apart_more }

  pub met-turn : Met G s' (L ++ x ∷ []) R
  met-turn = go (view x h out)
    where
      go : View x h → Met G s' (L ++ x ∷ []) R
      go (literal e k is low c₁ c₂ y₁ y₂) = noted e k is low (m.keeps c₁ c₂ ∙ ap (λ (j : ℕ). set s j 1) y₁) (ap (λ (j : ℕ). get_or s j 0) (sym y₂) ∙ m.free c₁ c₂ t)
      go (small o c) = plain o (m.other c)
      go (large o c) = plain o (m.compounds c)

-- Where no two opposites are in the context, nothing clashes.
free_of : (G : List Face) → ((k : ℕ) → has (at lo k) G ≡ true → has (at hi k) G ≡ true → ⊥) → (f : Face) → has f G ≡ true → clash_of G f ≡ stuck
free_of G h ff e = refl
free_of G h ft e = refl
free_of G h (at lo n) e = go (has (at hi n) G) refl
  where
    go : (t : Bool) → has (at hi n) G ≡ t → provided t (by-clash n) ≡ stuck
    go true i = absurd (h n e i)
    go false i = refl
free_of G h (at hi n) e = go (has (at lo n) G) refl
  where
    go : (t : Bool) → has (at lo n) G ≡ t → provided t (by-clash n) ≡ stuck
    go true i = absurd (h n i e)
    go false i = refl
free_of G h (fand y z) e = refl
free_of G h (for y z) e = refl

none-clash : (G : List Face) → ((k : ℕ) → has (at lo k) G ≡ true → has (at hi k) G ≡ true → ⊥) → (H : List Face) → ((f : Face) → has f H ≡ true → has f G ≡ true) → try_clash G H ≡ stuck
unfolding try_clash has decide
none-clash G h [] i = refl
none-clash G h (x ∷ H) i = ap (λ (m : Move). m else try_clash G H) (free_of G h x (i x (sym (has_same x x H refl)))) ∙ none-clash G h H (λ f e. i f (go f (same_face f x) e))
  where
    go : (f : Face) (d : Dec (f ≡ x)) → has f H ≡ true → (decide d || has f H) ≡ true
    go f (yes p) e = refl
    go f (no p) e = e

-- A literal of the context is below its bound.
literal-low : (G : List Face) (e : End) (k : ℕ) → has (at e k) G ≡ true → k < bound_context G
unfolding has decide bound_context bound_face
literal-low [] e k h = absurd (false≢true h)
literal-low (x ∷ G) e k h = go (literal-low G e k) (same_face (at e k) x) h
  where
    go : (has (at e k) G ≡ true → k < bound_context G) → (d : Dec (at e k ≡ x)) → (decide d || has (at e k) G) ≡ true → k < bound_context (x ∷ G)
    go r (yes p) i = let z : bound_face x ≡ suc k = ap bound_face (sym p) in omega arith
    go r (no p) i = omega (arith, r i)

-- The loop over the faces.
abbrev pub MetAll : Context → List ℕ → Context → Type 0
MetAll g s d = (L : List Face) × Met (faces_of g) s L (faces_of d)

pub met-next : (g : Context) {d d' : Context} {s s' h : List ℕ} {r : Bool} → MetAll g s d → First d h d' → Meets h s r s' → r ≡ true → MetAll g s' d'
met-next g {s = s} v f m t = (v.0 ++ f.first ∷ [], met-turn (subst (λ (R : List Face). Met (faces_of g) s v.0 R) f.whole v.1) f.face m t)

pub met-end : (g d : Context) {s : List ℕ} → MetAll g s d → faces_of d ≡ [] → try_clash (faces_of g) (faces_of g) ≡ stuck
met-end g d v e =
    let G = faces_of g in
    let z : v.0 ≡ G = sym (append-nil v.0) ∙ ap (λ (R : List Face). v.0 ++ R) (sym e) ∙ sym v.1.whole in
    none-clash G (λ k u w. v.1.apart k (omega (arith, literal-low G lo k u, g.sound.low)) (ap (has (at lo k)) z ∙ u) (ap (has (at hi k)) z ∙ w)) G (λ f e. e)

-- What is met, by its first byte.
module _ {l s : List ℕ} {b : ℕ} (e : b ≡ get_or l 0 0) where
  pub met-small : b < 2 → Meets l s true s
  met-small h = record { other = λ i. refl; compounds = λ i. refl; keeps = λ i j. absurd (omega arith); free = λ i j k. absurd (omega arith) }

  pub met-large : 3 < b → Meets l s true s
  met-large h = record { other = λ i. refl; compounds = λ i. refl; keeps = λ i j. absurd (omega arith); free = λ i j k. absurd (omega arith) }

  pub met-literal : {k : ℕ} {r : Bool} → 2 ≤ b → b ≤ 3 → k ≡ get_or l 1 0 → (r ≡ true → get_or s (2 * k + (3 - b)) 0 ≡ 0) → Meets l s r (set s (2 * k + (b - 2)) 1)
  met-literal {k} h i j f = record {
    other = λ c. absurd (omega arith);
    compounds = λ c. absurd (omega arith);
    keeps = λ c d. ap₂ (λ (x y : ℕ). set s (2 * x + (y - 2)) 1) j e;
    free = λ c d u. ap₂ (λ (x y : ℕ). get_or s (2 * x + (3 - y)) 0) (sym j) (sym e) ∙ f u;
  }
