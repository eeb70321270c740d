-- What a run leaves in the ledger when it ends, out of room too: the steps before it in front, and nothing that the run without bounds would not leave.
use mathlib.Core.Path.{◌≡◌, refl, sym, subst}
use mathlib.Core.Bool.{Bool, true, false}
use mathlib.Core.Option.{Option, none, some}
use mathlib.Core.List.{List, [], ◌∷◌, ◌++◌}
use Prim.Native.Nat.{ℕ}
use Rattle.calculus.specs.Judgement.{Step}
use Rattle.calculus.specs.Emit.{find, Outcome, done, stopped, full, unbounded, append, emitted, Program, stop, emit, ◌>>=◌, attempt, next, instead, run, leaving, left}
use Rattle.calculus.proofs.Growing.{Extends, extends-refl, extends-trans}
use Rattle.calculus.proofs.Repeating.{Longer, done-longer, stopped-longer, is-full, run-longer}

-- The steps of an outcome, and what was left out of room.
abbrev pub steps_after : Outcome → List Step → List Step
steps_after (done n M) Z = M
steps_after (stopped e M) Z = M
steps_after full Z = Z

-- What is left is what the outcome has, where it has steps.
leaving-after : (o : Outcome) (k : ℕ → List Step → Outcome) (f : ℕ → List Step → List Step) (j : List Step → Outcome) (g : List Step → List Step) (Z : List Step)
    → ((n : ℕ) (M : List Step) → f n M ≡ steps_after (k n M) (f n M)) → ((M : List Step) → g M ≡ steps_after (j M) (g M))
    → leaving o f g Z ≡ steps_after (instead o k j) (leaving o f g Z)
leaving-after (done n M) k f j g Z p q = p n M
leaving-after (stopped e M) k f j g Z p q = q M
leaving-after full k f j g Z p q = refl

next-instead : (o : Outcome) (k : ℕ → List Step → Outcome) (Z : List Step) (f : ℕ → List Step → List Step) → ((n : ℕ) (M : List Step) → f n M ≡ steps_after (k n M) (f n M))
    → leaving o f (λ M. M) Z ≡ steps_after (next o k) (leaving o f (λ M. M) Z)
next-instead (done n M) k Z f p = p n M
next-instead (stopped e M) k Z f p = refl
next-instead full k Z f p = refl

pub left_after : (room : List Step → Bool) (p : Program) (L : List Step) → left room p L ≡ steps_after (run room p L) (left room p L)
unfolding run left
left_after room (stop e) L = refl
left_after room (emit k is j) L = go (run room (emit k is j) L)
  where
    go : (o : Outcome) → leaving o (λ n M. M) (λ M. M) L ≡ steps_after o (leaving o (λ n M. M) (λ M. M) L)
    go (done n M) = refl
    go (stopped e M) = refl
    go full = refl
left_after room (p >>= q) L = next-instead (run room p L) (λ n. run room (q n)) (left room p L) (λ n. left room (q n)) (λ n M. left_after room (q n) M)
left_after room (attempt p q r) L = leaving-after (run room p L) (λ n. run room (q n)) (λ n. left room (q n)) (run room r) (left room r) (left room p L) (λ n M. left_after room (q n) M) (left_after room r)

-- The steps before are in front ------------------------------------------------------------------

leaving-extends : {L Z : List Step} {o : Outcome} (f : ℕ → List Step → List Step) (g : List Step → List Step) → Longer L o → Extends L Z
    → ((n : ℕ) (M : List Step) → Extends M (f n M)) → ((M : List Step) → Extends M (g M)) → Extends L (leaving o f g Z)
leaving-extends f g (done-longer {n} {M} x) z p q = extends-trans x (p n M)
leaving-extends f g (stopped-longer {M} x) z p q = extends-trans x (q M)
leaving-extends f g is-full z p q = z

pub left-extends : (room : List Step → Bool) (p : Program) (L : List Step) → Extends L (left room p L)
unfolding left
left-extends room (stop e) L = extends-refl L
left-extends room (emit k is j) L = leaving-extends (λ n M. M) (λ M. M) (run-longer room (emit k is j) L) (extends-refl L) (λ n M. extends-refl M) extends-refl
left-extends room (p >>= q) L = leaving-extends (λ n. left room (q n)) (λ M. M) (run-longer room p L) (left-extends room p L) (λ n M. left-extends room (q n) M) extends-refl
left-extends room (attempt p q r) L = leaving-extends (λ n. left room (q n)) (left room r) (run-longer room p L) (left-extends room p L) (λ n M. left-extends room (q n) M) (left-extends room r)

-- Nothing is left that the run without bounds would not leave ------------------------------------------

-- The run comes to what the run without bounds comes to, or it is out of room, and left what is in front there.
pub data Short (free bound : Outcome) (F Z : List Step) : Type 0 where
  alike : bound ≡ free → Extends Z F → Short free bound F Z
  ended : bound ≡ full → Extends Z F → Short free bound F Z

short-extends : {o u : Outcome} {F Z : List Step} → Short o u F Z → Extends Z F
short-extends (alike e x) = x
short-extends (ended e x) = x

-- What follows leaves what was there in front.
onward : (o : Outcome) (f : ℕ → List Step → List Step) (g : List Step → List Step) {F Z : List Step} → F ≡ steps_after o F → Extends Z F
    → ((n : ℕ) (M : List Step) → Extends M (f n M)) → ((M : List Step) → Extends M (g M)) → Extends Z (leaving o f g F)
onward (done n M) f g {Z = Z} e x p q = extends-trans (subst (Extends Z) e x) (p n M)
onward (stopped y M) f g {Z = Z} e x p q = extends-trans (subst (Extends Z) e x) (q M)
onward full f g e x p q = x

module _ (room : List Step → Bool) where
  next-short : (o u : Outcome) (k l : ℕ → List Step → Outcome) (f h : ℕ → List Step → List Step) (F Z : List Step) → Short o u F Z → F ≡ steps_after o F
      → ((n : ℕ) (M : List Step) → Short (k n M) (l n M) (f n M) (h n M)) → ((n : ℕ) (M : List Step) → Extends M (f n M))
      → Short (next o k) (next u l) (leaving o f (λ M. M) F) (leaving u h (λ M. M) Z)
  next-short (done n M) u k l f h F Z (alike e x) a s y = subst (λ (v : Outcome). Short (k n M) (next v l) (f n M) (leaving v h (λ M. M) Z)) (sym e) (s n M)
  next-short (stopped z M) u k l f h F Z (alike e x) a s y =
      subst (λ (v : Outcome). Short (stopped z M) (next v l) M (leaving v h (λ M. M) Z)) (sym e) (alike refl (extends-refl M))
  next-short full u k l f h F Z (alike e x) a s y = subst (λ (v : Outcome). Short full (next v l) F (leaving v h (λ M. M) Z)) (sym e) (alike refl x)
  next-short o u k l f h F Z (ended e x) a s y =
      subst (λ (v : Outcome). Short (next o k) (next v l) (leaving o f (λ M. M) F) (leaving v h (λ M. M) Z)) (sym e) (ended refl (onward o f (λ M. M) a x y extends-refl))

  instead-short : (o u : Outcome) (k l : ℕ → List Step → Outcome) (f h : ℕ → List Step → List Step) (i j : List Step → Outcome) (g m : List Step → List Step) (F Z : List Step) → Short o u F Z → F ≡ steps_after o F
      → ((n : ℕ) (M : List Step) → Short (k n M) (l n M) (f n M) (h n M)) → ((n : ℕ) (M : List Step) → Extends M (f n M))
      → ((M : List Step) → Short (i M) (j M) (g M) (m M)) → ((M : List Step) → Extends M (g M))
      → Short (instead o k i) (instead u l j) (leaving o f g F) (leaving u h m Z)
  instead-short (done n M) u k l f h i j g m F Z (alike e x) a s y t z = subst (λ (v : Outcome). Short (k n M) (instead v l j) (f n M) (leaving v h m Z)) (sym e) (s n M)
  instead-short (stopped b M) u k l f h i j g m F Z (alike e x) a s y t z = subst (λ (v : Outcome). Short (i M) (instead v l j) (g M) (leaving v h m Z)) (sym e) (t M)
  instead-short full u k l f h i j g m F Z (alike e x) a s y t z = subst (λ (v : Outcome). Short full (instead v l j) F (leaving v h m Z)) (sym e) (alike refl x)
  instead-short o u k l f h i j g m F Z (ended e x) a s y t z =
      subst (λ (v : Outcome). Short (instead o k i) (instead v l j) (leaving o f g F) (leaving v h m Z)) (sym e) (ended refl (onward o f g a x y z))

  run_short : (p : Program) (L : List Step) → Short (run unbounded p L) (run room p L) (left unbounded p L) (left room p L)
  unfolding run left
  run_short (stop e) L = alike refl (extends-refl L)
  run_short (emit k is j) L = go (find j L)
    where
      s : Step
      s = record { kind = k; references = is; judgement = j }

      appends : (b : Bool) → Short (append true L s) (append b L s) (L ++ s ∷ []) (leaving (append b L s) (λ n M. M) (λ M. M) L)
      appends true = alike refl (extends-refl (L ++ s ∷ []))
      appends false = ended refl (record { more = s ∷ []; whole = refl })

      go : (o : Option ℕ) → Short (emitted unbounded L s o) (emitted room L s o) (leaving (emitted unbounded L s o) (λ n M. M) (λ M. M) L) (leaving (emitted room L s o) (λ n M. M) (λ M. M) L)
      go (some n) = alike refl (extends-refl L)
      go none = appends (room (L ++ s ∷ []))
  run_short (p >>= q) L =
      next-short (run unbounded p L) (run room p L) (λ n. run unbounded (q n)) (λ n. run room (q n)) (λ n. left unbounded (q n)) (λ n. left room (q n)) (left unbounded p L) (left room p L) (run_short p L) (left_after unbounded p L)
      (λ n M. run_short (q n) M) (λ n M. left-extends unbounded (q n) M)
  run_short (attempt p q r) L =
      instead-short (run unbounded p L) (run room p L) (λ n. run unbounded (q n)) (λ n. run room (q n)) (λ n. left unbounded (q n)) (λ n. left room (q n)) (run unbounded r) (run room r) (left unbounded r) (left room r) (left unbounded p L) (left room p L) (run_short p L) (left_after unbounded p L)
      (λ n M. run_short (q n) M) (λ n M. left-extends unbounded (q n) M) (λ M. run_short r M) (left-extends unbounded r)

  -- What a run leaves is in front of what it would leave without bounds.
  pub left-free : (p : Program) (L : List Step) → Extends (left room p L) (left unbounded p L)
  left-free p L = short-extends (run_short p L)
