-- How far a search raises the counter: each depth opens at most one obligation more after the limit of work is reached.
use mathlib.Core.Path.{◌≡◌, refl}
use mathlib.Core.Bool.{Bool, true, false}
use mathlib.Core.Option.{Option, none, some}
use mathlib.Core.List.{List, [], ◌∷◌, ◌++◌}
use Prim.Native.Nat.{ℕ, zero, suc, ◌+◌, ◌≤◌, max}
use native.Mathlib.Omega.{arith}
use borrow.Author.Tests.{leb-false}
use lib.Dec.{leb}
use Rattle.formula.specs.Formula.{Face, fand, for}
use Rattle.calculus.specs.Judgement.{Step, cover}
use Rattle.calculus.specs.Search.{Move, by-top, by-hit, by-absurd, by-clash, by-and-left, by-or-left, by-and-right, by-or-right, stuck}
use Rattle.calculus.specs.Emit.{find}
use Rattle.calculus.specs.Calls.{emit_face, emit_take}
use Rattle.obligations.specs.Limited.{Ending, reached, failed, crowded, limited}
use Rattle.obligations.specs.Obligations.{Opened, nothing, one, count, ◌before◌, Search, Part, behind, continued, retried, guarded_move, moved, max_depth, max_work, unless_known, unless_over, obliged, guarded_cover, guarded_entails}

pub count-before : (o p : Opened) → count (o before p) ≡ count o + count p
unfolding count ◌before◌
count-before nothing p = omega arith
count-before (one i o) p = omega (arith, count-before o p)

-- A search that went from counter w on leaves it at most at B.
record Counted (B w : ℕ) (s : Search) : Type 0 where
  bounded : w + count s.opened ≤ B

-- One search, and behind it another, which begins where the first left the counter.
behind-counted : {A B w : ℕ} {s : Search} (f : ℕ → Search) → Counted A w s → ((v : ℕ) → v ≤ A → Counted B v (f v)) → Counted B w (behind s.opened (f (w + count s.opened)))
behind-counted {w} {s} f h r =
    let v = w + count s.opened in
    record { bounded = omega (arith, (r v h.bounded).bounded, count-before s.opened (f v).opened) }

module _ {A B w : ℕ} {s : Search} {k : ℕ → Part} (b : A ≤ B) (h : Counted A w s) (r : (n v : ℕ) (M : List Step) → v ≤ A → Counted B v (k n v M)) where
  continued-counted : Counted B w (continued w s.ending s.opened k)
  continued-counted = go s.ending
    where
      go : (e : Ending) → Counted B w (continued w e s.opened k)
      go (reached n M) = behind-counted (λ v. k n v M) h (λ v. r n v M)
      go (failed e M) = record { bounded = omega arith }
      go crowded = record { bounded = omega arith }

  retried-counted : {q : Part} → ((v : ℕ) (M : List Step) → v ≤ A → Counted B v (q v M)) → Counted B w (retried w s.ending s.opened k q)
  retried-counted {q} t = go s.ending
    where
      go : (e : Ending) → Counted B w (retried w e s.opened k q)
      go (reached n M) = behind-counted (λ v. k n v M) h (λ v. r n v M)
      go (failed e M) = behind-counted (λ v. q v M) h (λ v. t v M)
      go crowded = record { bounded = omega arith }

-- A program leaves the counter.
ran : {B w : ℕ} {e : Ending} → w ≤ B → Counted B w (record { ending = e; opened = nothing })
unfolding count
ran h = record { bounded = omega arith }

module _ (room : List Step → Bool) where
  module _ (n : ℕ) (c : List Face → Face → Part) (h : (G : List Face) (g : Face) (w : ℕ) (L : List Step) → Counted (max (suc w) (max_work + suc n)) w (c G g w L)) where
    -- An obligation below the limit, and one that is opened after it.
    once : (G : List Face) (g : Face) (v : ℕ) (L : List Step) → v ≤ max_work → Counted (max_work + suc n) v (c G g v L)
    once G g v L b = record { bounded = omega (arith, (h G g v L).bounded) }

    again : (G : List Face) (g : Face) (v : ℕ) (L : List Step) → v ≤ max_work + suc n → Counted (max_work + suc (suc n)) v (c G g v L)
    again G g v L b = record { bounded = omega (arith, (h G g v L).bounded) }

    moved-counted : (G : List Face) (g : Face) (m : Move) (w : ℕ) (L : List Step) → w ≤ max_work → Counted (max_work + suc (suc n)) w (moved room c G g m w L)
    moved-counted G g by-top w L b = ran (omega arith)
    moved-counted G g by-hit w L b = ran (omega arith)
    moved-counted G g by-absurd w L b = ran (omega arith)
    moved-counted G g (by-clash i) w L b = ran (omega arith)
    moved-counted G g (by-and-left b x y a) w L p =
        continued-counted (omega arith) (ran {e = limited room (emit_take b (fand x y) a) L} p) (λ t v M p.
        continued-counted (omega arith) (once (x ∷ y ∷ (b ++ a)) g v M p) (λ i u N p. ran (omega arith)))
    moved-counted G g (by-or-left b x y a) w L p =
        continued-counted (omega arith) (ran {e = limited room (emit_take b (for x y) a) L} p) (λ t v M p.
        continued-counted (omega arith) (once (x ∷ (b ++ a)) g v M p) (λ i u N p.
        continued-counted (omega arith) (again (y ∷ (b ++ a)) g u N p) (λ k u N p. ran (omega arith))))
    moved-counted G g (by-and-right x y) w L p =
        continued-counted (omega arith) (once G x w L p) (λ i v M p.
        continued-counted (omega arith) (again G y v M p) (λ k u N p. ran (omega arith)))
    moved-counted G g (by-or-right x y) w L p =
        retried-counted (omega arith) (once G x w L p) (λ i v M p. ran (omega arith)) (λ v M p.
        continued-counted (omega arith) (again G y v M p) (λ k u N p. ran (omega arith)))
    moved-counted G g stuck w L b = ran (omega arith)

  obliged-counted : (n : ℕ) (G : List Face) (g : Face) (w : ℕ) (L : List Step) → Counted (max (suc w) (max_work + suc n)) w (obliged room n G g w L)
  unfolding count obliged
  obliged-counted zero G g w L = record { bounded = omega arith }
  obliged-counted (suc n) G g w L = over (leb max_work w) refl (moved-counted n (obliged room n) (obliged-counted n) G g (guarded_move G g) (suc w) L)
    where
      s : Search
      s = moved room (obliged room n) G g (guarded_move G g) (suc w) L

      known : (o : Option ℕ) → Counted (max_work + suc (suc n)) (suc w) s → Counted (max (suc w) (max_work + suc (suc n))) w (unless_known o L s)
      known (some i) h = record { bounded = omega arith }
      known none h = record { bounded = omega (arith, h.bounded) }

      over : (b : Bool) → leb max_work w ≡ b → (suc w ≤ max_work → Counted (max_work + suc (suc n)) (suc w) s)
          → Counted (max (suc w) (max_work + suc (suc n))) w (unless_over b L (unless_known (find (cover G g) L) L s))
      over true e h = record { bounded = omega arith }
      over false e h = known (find (cover G g) L) (h (leb-false max_work w e))

  -- The counter is left at most at the limit and one for each depth, the one beyond the last among them; one that was there already is raised by one.
  pub obliged-bounded : (n : ℕ) (G : List Face) (g : Face) (w : ℕ) (L : List Step) → w + count (obliged room n G g w L).opened ≤ max (suc w) (max_work + suc n)
  obliged-bounded n G g w L = (obliged-counted n G g w L).bounded

  pub cover-bounded : (G : List Face) (g : Face) (w : ℕ) (L : List Step) → w + count (guarded_cover room G g w L).opened ≤ max (suc w) (max_work + 130)
  unfolding guarded_cover
  cover-bounded G g w L = obliged-bounded 129 G g w L

  pub entails-bounded : (d : ℕ) (a b : Face) (w : ℕ) (L : List Step) → w + count (guarded_entails room d a b w L).opened ≤ max (suc w) (max_work + 130)
  unfolding guarded_entails
  entails-bounded d a b w L = go.bounded
    where
      covered : (v : ℕ) (M : List Step) → v ≤ w → Counted (max (suc w) (max_work + 130)) v (guarded_cover room (a ∷ []) b v M)
      covered v M p = record { bounded = omega (arith, cover-bounded (a ∷ []) b v M) }

      go : Counted (max (suc w) (max_work + 130)) w (guarded_entails room d a b w L)
      go =
          continued-counted (omega arith) (ran {B = w} {e = limited room (emit_face d a) L} (omega arith)) (λ i v M p.
          continued-counted (omega arith) (ran {e = limited room (emit_face d b) M} p) (λ k v N p.
          continued-counted (omega arith) (covered v N p) (λ c u O p. ran p)))

  -- An obligation is opened before anything else.
  pub cover-opens : (G : List Face) (g : Face) (w : ℕ) (L : List Step) → 1 ≤ count (guarded_cover room G g w L).opened
  unfolding guarded_cover obliged count
  cover-opens G g w L = over (leb max_work w) (find (cover G g) L) (moved room (obliged room max_depth) G g (guarded_move G g) (suc w) L)
    where
      over : (b : Bool) (o : Option ℕ) (s : Search) → 1 ≤ count (unless_over b L (unless_known o L s)).opened
      over true o s = omega arith
      over false (some i) s = omega arith
      over false none s = omega arith
