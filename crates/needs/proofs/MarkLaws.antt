-- Laws of marking the fands whose parts share no literal.
use Prim.Native.Nat.{ℕ, ◌+◌, ◌-◌, ◌≤◌, ◌<◌}
use native.Mathlib.Omega.{arith}
use native.Mathlib.Decide.{ℕ_discrete}
use mathlib.Core.Path.{◌≡◌, refl, sym, ap, ◌∙◌, subst}
use mathlib.Core.Logic.{◌⊎◌, inl, inr, ⊎_elim}
use mathlib.Core.Bool.{Bool, true, false, false≢true, ◌&&◌, ◌||◌, and-eq-true_iff}
use mathlib.Core.List.{List, ◌++◌}
use lib.Dec.{eqb}
use lib.ListN.{get_or, set, drop, length-set}
use lib.Seq.{get_or-set_other}
use borrow.Author.Tests.{eqb-true, eq-eqb}
use Rattle.formula.specs.Formula.{End, lo, hi, Face, at, fand}
use Rattle.formula.specs.Bytes.{dim_width, dim_at, encode_face}
use Rattle.calculus.proofs.Sound.{or-iff}
use Rattle.literals.proofs.FaceLaws.{PartsAt, leaf-at, parts_at, leaf-same, parts_same}
use Rattle.needs.specs.States.{occurs, Apart}
use Rattle.needs.specs.Places.{Ends}
use Rattle.needs.specs.Marking.{Marks, Finds, Shares, Marked}
use Rattle.needs.proofs.PlaceLaws.{leaf-ends, literal-ends, parts-end, second, side_of, literal-is}

-- ---- literals

occurs-literal : (e : End) (m n v : ℕ) → occurs (at e m) n v ≡ (eqb m n && eqb v (side_of e))
unfolding occurs
occurs-literal lo m n v = refl
occurs-literal hi m n v = refl

module _ (P : ℕ → ℕ → Bool → Type 0) (f : List ℕ) (i : ℕ) where
  -- A constant has no literal.
  pub leaf-finds : get_or f i 0 < 2 → Finds P f i (i + 1) false
  unfolding occurs
  leaf-finds h = record {
    ends = leaf-ends f i h;
    some = λ t rest e r. absurd (false≢true r);
    none = λ t rest e r n v o. absurd (false≢true (sym (leaf-same (λ t. occurs t n v) (leaf-at f i t rest e h) refl refl) ∙ o));
  }

  -- A literal is tested itself.
  pub literal-finds : {r : Bool} → 2 ≤ get_or f i 0 → get_or f i 0 < 4 → P (dim_at f (i + 1)) (get_or f i 0 - 2) r → Finds P f i (i + 1 + dim_width) r
  literal-finds {r} h k p = record { ends = literal-ends f i h k; some = passed; none = failed }
    where
      passed : (t : Face) (rest : List ℕ) → drop i f ≡ encode_face t ++ rest → r ≡ true → (n : ℕ) × (v : ℕ) × (occurs t n v ≡ true) × P n v true
      passed t rest e y =
          let s = literal-is f i h k t rest e in
          let o = ap (λ u. occurs u (dim_at f (i + 1)) (side_of s.0)) s.1 ∙ occurs-literal s.0 (dim_at f (i + 1)) (dim_at f (i + 1)) (side_of s.0) in
          (dim_at f (i + 1), get_or f i 0 - 2, o' s.0 (ap (λ v. occurs t (dim_at f (i + 1)) v) (sym s.2) ∙ o), subst (P (dim_at f (i + 1)) (get_or f i 0 - 2)) y p)
        where
          o' : (x : End) {b : Bool} → b ≡ (eqb (dim_at f (i + 1)) (dim_at f (i + 1)) && eqb (side_of x) (side_of x)) → b ≡ true
          o' x q = q ∙ rw (eq-eqb (dim_at f (i + 1)) (dim_at f (i + 1)) refl, eq-eqb (side_of x) (side_of x) refl)

      failed : (t : Face) (rest : List ℕ) → drop i f ≡ encode_face t ++ rest → r ≡ false → (n v : ℕ) → occurs t n v ≡ true → P n v false
      failed t rest e y n v o =
          let s = literal-is f i h k t rest e in
          let q = (and-eq-true_iff (eqb (dim_at f (i + 1)) n) (eqb v (side_of s.0))).0 (sym (occurs-literal s.0 (dim_at f (i + 1)) n v) ∙ ap (λ u. occurs u n v) (sym s.1) ∙ o) in
          subst (λ m. P m v false) (eqb-true (dim_at f (i + 1)) n q.0)
          (subst (λ w. P (dim_at f (i + 1)) w false) (sym s.2 ∙ sym (eqb-true v (side_of s.0) q.1)) (subst (P (dim_at f (i + 1)) (get_or f i 0 - 2)) y p))

or-false : (a b : Bool) → (a || b) ≡ false → (a ≡ false) × (b ≡ false)
or-false true b h = absurd (false≢true (sym h))
or-false false b h = (refl, h)

occurs-parts : {f : List ℕ} {i : ℕ} {t : Face} {rest : List ℕ} (p : PartsAt f i t rest) (n v : ℕ) → occurs t n v ≡ (occurs p.left n v || occurs p.right n v)
unfolding occurs
occurs-parts p n v = parts_same (λ t. occurs t n v) p refl refl

-- Two parts that were gone through.
pub parts-find : (P : ℕ → ℕ → Bool → Type 0) (f : List ℕ) (i : ℕ) {j k : ℕ} {r s : Bool} → 4 ≤ get_or f i 0 → Finds P f (i + 1) j r → Finds P f j k s → Finds P f i k (r || s)
parts-find P f i {j} {k} {r} {s} h A B = record {
  ends = parts-end f i h A.ends B.ends;
  some = passed;
  none = λ t rest e z n v o.
      let p = parts_at f i t rest e h in
      let w = or-false r s z in
      ⊎_elim (A.none p.left (encode_face p.right ++ rest) p.first w.0 n v) (B.none p.right rest (second f i h A.ends t rest e) w.1 n v)
      ((or-iff (occurs p.left n v) (occurs p.right n v)).0 (sym (occurs-parts p n v) ∙ o));
}
  where
    passed : (t : Face) (rest : List ℕ) → drop i f ≡ encode_face t ++ rest → (r || s) ≡ true → (n : ℕ) × (v : ℕ) × (occurs t n v ≡ true) × P n v true
    passed t rest e z = go ((or-iff r s).0 z)
      where
        p : PartsAt f i t rest
        p = parts_at f i t rest e h

        go : (r ≡ true) ⊎ (s ≡ true) → (n : ℕ) × (v : ℕ) × (occurs t n v ≡ true) × P n v true
        go (inl y) = let x = A.some p.left (encode_face p.right ++ rest) p.first y in (x.0, x.1, occurs-parts p x.0 x.1 ∙ (or-iff (occurs p.left x.0 x.1) (occurs p.right x.0 x.1)).1 (inl x.2), x.3)
        go (inr y) = let x = B.some p.right rest (second f i h A.ends t rest e) y in (x.0, x.1, occurs-parts p x.0 x.1 ∙ (or-iff (occurs p.left x.0 x.1) (occurs p.right x.0 x.1)).1 (inr x.2), x.3)

-- ---- marks

-- A mark where the two parts share no literal.
module _ (f : List ℕ) (i : ℕ) {j : ℕ} (h : 4 ≤ get_or f i 0) (A : Ends f (i + 1) j) (s : Shares f (i + 1) j false) where
  parts-apart : (a b : Face) (rest : List ℕ) → drop i f ≡ encode_face (fand a b) ++ rest → Apart a b
  parts-apart a b rest e = go (ℕ_discrete (get_or f i 0) 4)
    where
      p : PartsAt f i (fand a b) rest
      p = parts_at f i (fand a b) rest e h

      found : Apart p.left p.right
      found = s p.left (encode_face p.right ++ rest) p.first p.right rest (ap (λ n. drop n f) (A p.left (encode_face p.right ++ rest) p.first) ∙ p.second) refl

      go : Dec (get_or f i 0 ≡ 4) → Apart a b
      go (yes y) =
          let c = p.conjoined y in
          let l : p.left ≡ a = cc in
          let r : p.right ≡ b = cc in
          subst (λ x. Apart x b) l (subst (Apart p.left) r found)
      go (no n) = absurd (let c = p.disjoined n in let q : ◌≡◌ {A = ℕ} 0 1 = cc in omega arith)

  pub set-marks : (marks : List ℕ) → Marks f marks → Marks f (set marks i 1)
  set-marks marks m = record { apart = λ n a b rest e p. go n a b rest e p (ℕ_discrete n i) }
    where
      go : (n : ℕ) (a b : Face) (rest : List ℕ) → get_or (set marks i 1) n 0 ≡ 1 → drop n f ≡ encode_face (fand a b) ++ rest → Dec (n ≡ i) → Apart a b
      go n a b rest e p (yes q) = parts-apart a b rest (ap (λ n. drop n f) (sym q) ∙ p)
      go n a b rest e p (no q) = m.apart n a b rest (sym (get_or-set_other marks i n 1 0 q) ∙ e) p

-- Both parts were marked, and then the node itself.
module _ (f : List ℕ) (i : ℕ) {j k : ℕ} {m m₁ m₂ : List ℕ} (h : 4 ≤ get_or f i 0) (A : Marked f (i + 1) m j m₁) (B : Marked f j m₁ k m₂) where
  pub parts-marked : Marked f i m k m₂
  parts-marked = record { ends = parts-end f i h A.ends B.ends; right = B.right; long = B.long ∙ A.long }

  pub node-marked : {r : Bool} → Shares f (i + 1) j r → r ≡ false → Marked f i m k (set m₂ i 1)
  node-marked s e = record {
    ends = parts-end f i h A.ends B.ends;
    right = set-marks f i h A.ends (subst (Shares f (i + 1) j) e s) m₂ B.right;
    long = length-set m₂ i 1 ∙ B.long ∙ A.long;
  }
