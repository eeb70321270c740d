-- The search says yes exactly when every assignment that satisfies the context satisfies the goal.
use mathlib.Core.Path.{◌≡◌, refl, sym, ◌∙◌, ap}
use mathlib.Core.Logic.{◌↔◌, inl, inr, ⊎_elim}
use mathlib.Core.Bool.{Bool, true, false, false≢true, true≢false, and-eq-true_iff, decide, decide_iff}
use mathlib.Mathlib.Data.Bool.Basic.{eq-false_of_not-eq-true}
use mathlib.Core.List.{List, [], ◌∷◌, ◌++◌, Memᴰ}
use Prim.Native.Nat.{ℕ, zero, suc, ◌+◌, ◌≤◌}
use native.Mathlib.Omega.{arith}
use lib.Seq.{append_snoc}
use Rattle.formula.specs.Formula.{End, lo, hi, Face, ff, ft, at, fand, for, Val, v0, v1, vu, is, Assignment, holds, Entails}
use Rattle.formula.specs.Bytes.{nodes_face}
use Rattle.formula.proofs.Meaning.{Below, undetermined, same as as_is, LessDetermined, holds-monotone}
use Rattle.calculus.specs.Judgement.{same_face}
use Rattle.calculus.specs.Rules
use Rattle.calculus.specs.Truth.{LeftOut, here, there, satisfies, Covers}
use Rattle.calculus.specs.Search.{Move, by-top, by-hit, by-absurd, by-clash, by-and-left, by-or-left, by-and-right, by-or-right, stuck, ◌else◌, provided, has, try_top, clash_of, try_clash, split_of, try_left, try_right, move, act, search_in, nodes_context, search}
use Rattle.calculus.proofs.Sound.{or-iff, member-holds, alone, and-left-satisfies, or-left-satisfies, end_value, is-end, rule-sound}

-- A context has the faces that are in it -----------------------------------------

pub has-member : (f : Face) (G : List Face) → has f G ≡ true → Memᴰ f G
unfolding has
has-member f [] e = absurd (false≢true e)
has-member f (g ∷ G) e = ⊎_elim (λ p. Memᴰ.head ((decide_iff (same_face f g)).0 p)) (λ p. Memᴰ.tail (has-member f G p)) ((or-iff (decide (same_face f g)) (has f G)).0 e)

pub member-has : {f : Face} {G : List Face} → Memᴰ f G → has f G ≡ true
unfolding has
member-has {f} (Memᴰ.head {x = g} {xs = G} e) = (or-iff (decide (same_face f g)) (has f G)).1 (inl ((decide_iff (same_face f g)).1 e))
member-has {f} (Memᴰ.tail {x = g} {xs = G} m) = (or-iff (decide (same_face f g)) (has f G)).1 (inr (member-has m))

-- The least assignment of a context: its literals determined, zero first, all else undetermined --------

abbrev pub least_of : Bool → Bool → Val
least_of true y = v0
least_of false true = v1
least_of false false = vu

pub least : List Face → Assignment
least G n = least_of (has (at lo n) G) (has (at hi n) G)

-- A literal that holds at the least assignment is in the context.
least-member : (G : List Face) (e : End) (n : ℕ) → is e (least G n) ≡ true → Memᴰ (at e n) G
unfolding least
least-member G lo n h = has-member (at lo n) G (go (has (at lo n) G) (has (at hi n) G) h)
  where
    go : (x y : Bool) → is lo (least_of x y) ≡ true → x ≡ true
    go true y e = refl
    go false true e = e
    go false false e = e
least-member G hi n h = has-member (at hi n) G (go (has (at lo n) G) (has (at hi n) G) h)
  where
    go : (x y : Bool) → is hi (least_of x y) ≡ true → y ≡ true
    go true y e = absurd (false≢true e)
    go false true e = refl
    go false false e = e

-- Each assignment that satisfies the context is at least as determined.
least-below : (G : List Face) (σ : Assignment) → satisfies G σ ≡ true → LessDetermined (least G) σ
unfolding holds
least-below G σ s n = go (least G n) (least-member G lo n) (least-member G hi n)
  where
    up : (e : End) → Memᴰ (at e n) G → Below (end_value e) (σ n)
    up e m = rw (is-end e (σ n) (member-holds m σ s)) as_is

    go : (v : Val) → (is lo v ≡ true → Memᴰ (at lo n) G) → (is hi v ≡ true → Memᴰ (at hi n) G) → Below v (σ n)
    go v0 p q = up lo (p refl)
    go v1 p q = up hi (q refl)
    go vu p q = undetermined

-- What holds at the least assignment is covered.
pub least-covers : (G : List Face) (g : Face) → holds g (least G) ≡ true → Covers G g
least-covers G g h σ s = holds-monotone g (least G) σ (least-below G σ s) h

-- What a move says of the context and the goal; Stuck is what is known where there is none ----------

pub data Moves (Stuck : Type 0) (G : List Face) (g : Face) : Move → Type 0 where
  is-top : g ≡ ft → Moves Stuck G g by-top
  is-hit : Memᴰ g G → Moves Stuck G g by-hit
  is-absurd : Memᴰ ff G → Moves Stuck G g by-absurd
  is-clash : {n : ℕ} → Memᴰ (at lo n) G → Memᴰ (at hi n) G → Moves Stuck G g (by-clash n)
  is-and-left : {b a : List Face} {x y : Face} → G ≡ b ++ fand x y ∷ a → Moves Stuck G g (by-and-left b x y a)
  is-or-left : {b a : List Face} {x y : Face} → G ≡ b ++ for x y ∷ a → Moves Stuck G g (by-or-left b x y a)
  is-and-right : {x y : Face} → g ≡ fand x y → Moves Stuck G g (by-and-right x y)
  is-or-right : {x y : Face} → satisfies G (least G) ≡ true → g ≡ for x y → Moves Stuck G g (by-or-right x y)
  is_stuck : Stuck → Moves Stuck G g stuck

-- A try, and where it is stuck the next.
else-view : {P Q : Type 0} {G : List Face} {g : Face} {m n : Move} → Moves P G g m → (P → Moves Q G g n) → Moves Q G g (m else n)
else-view (is-top e) k = is-top e
else-view (is-hit m) k = is-hit m
else-view (is-absurd m) k = is-absurd m
else-view (is-clash m o) k = is-clash m o
else-view (is-and-left e) k = is-and-left e
else-view (is-or-left e) k = is-or-left e
else-view (is-and-right e) k = is-and-right e
else-view (is-or-right s e) k = is-or-right s e
else-view (is_stuck p) k = k p

-- Less is known where a try is stuck.
weaken : {P Q : Type 0} {G : List Face} {g : Face} {m : Move} → (P → Q) → Moves P G g m → Moves Q G g m
weaken f (is-top e) = is-top e
weaken f (is-hit m) = is-hit m
weaken f (is-absurd m) = is-absurd m
weaken f (is-clash m o) = is-clash m o
weaken f (is-and-left e) = is-and-left e
weaken f (is-or-left e) = is-or-left e
weaken f (is-and-right e) = is-and-right e
weaken f (is-or-right s e) = is-or-right s e
weaken f (is_stuck p) = is_stuck (f p)

-- A test for a face of the context.
provided-view : {G : List Face} {g : Face} (f : Face) {m : Move} → (Memᴰ f G → Moves (Memᴰ f G → ⊥) G g m) → Moves (Memᴰ f G → ⊥) G g (provided (has f G) m)
provided-view {G} {g} f {m} h = go (has f G) refl
  where
    go : (x : Bool) → has f G ≡ x → Moves (Memᴰ f G → ⊥) G g (provided x m)
    go true e = h (has-member f G e)
    go false e = is_stuck (λ o. true≢false (sym (member-has o) ∙ e))

-- What is known where a try is stuck.
abbrev NotTop : Face → Type 0
NotTop ff = Unit {0}
NotTop ft = ⊥
NotTop (at e n) = Unit {0}
NotTop (fand x y) = Unit {0}
NotTop (for x y) = Unit {0}

abbrev Unopposed : List Face → Face → Type 0
Unopposed G ff = Unit {0}
Unopposed G ft = Unit {0}
Unopposed G (at lo n) = Memᴰ (at hi n) G → ⊥
Unopposed G (at hi n) = Memᴰ (at lo n) G → ⊥
Unopposed G (fand x y) = Unit {0}
Unopposed G (for x y) = Unit {0}

abbrev Simple : Face → Type 0
Simple ff = Unit {0}
Simple ft = Unit {0}
Simple (at e n) = Unit {0}
Simple (fand x y) = ⊥
Simple (for x y) = ⊥

abbrev All : (Face → Type 0) → List Face → Type 0
All P G = (f : Face) → Memᴰ f G → P f

all_cons : (P : Face → Type 0) {f : Face} {G : List Face} → P f → All P G → All P (f ∷ G)
all_cons P p h g (Memᴰ.head e) = rw e p
all_cons P p h g (Memᴰ.tail m) = h g m

all_nil : (P : Face → Type 0) → All P []
all_nil P f m = elim m [ ]

-- An assignment that satisfies the context and not the goal.
pub record Refuted (G : List Face) (g : Face) : Type 0 where
  pub counter : Assignment
  pub satisfied : satisfies G counter ≡ true
  pub missed : holds g counter ≡ false

-- The least assignment satisfies a context of literals that fit together.
satisfies-all : (G : List Face) (σ : Assignment) → All (λ f. holds f σ ≡ true) G → satisfies G σ ≡ true
unfolding satisfies
satisfies-all [] σ h = refl
satisfies-all (f ∷ G) σ h = (and-eq-true_iff (holds f σ) (satisfies G σ)).1 (h f (Memᴰ.head refl), satisfies-all G σ (λ g m. h g (Memᴰ.tail m)))

least-satisfies : (G : List Face) → (Memᴰ ff G → ⊥) → All (Unopposed G) G → All Simple G → satisfies G (least G) ≡ true
unfolding holds least
least-satisfies G a u s = satisfies-all G (least G) each
  where
    each : All (λ f. holds f (least G) ≡ true) G
    each ff m = absurd (a m)
    each ft m = refl
    each (at lo n) m = rw (member-has m)
    each (at hi n) m = rw (eq-false_of_not-eq-true (λ e. u (at hi n) m (has-member (at lo n) G e)), member-has m)
    each (fand x y) m = absurd (s (fand x y) m)
    each (for x y) m = absurd (s (for x y) m)

-- Each try.
top-view : (G : List Face) (g : Face) → Moves (NotTop g) G g (try_top g)
top-view G ff = is_stuck tt
top-view G ft = is-top refl
top-view G (at e n) = is_stuck tt
top-view G (fand x y) = is_stuck tt
top-view G (for x y) = is_stuck tt

clash-of : (G : List Face) (g f : Face) → Memᴰ f G → Moves (Unopposed G f) G g (clash_of G f)
clash-of G g ff m = is_stuck tt
clash-of G g ft m = is_stuck tt
clash-of G g (at lo n) m = provided-view (at hi n) (λ o. is-clash m o)
clash-of G g (at hi n) m = provided-view (at lo n) (λ o. is-clash o m)
clash-of G g (fand x y) m = is_stuck tt
clash-of G g (for x y) m = is_stuck tt

clash-view : (G : List Face) (g : Face) (H : List Face) → All (λ f. Memᴰ f G) H → Moves (All (Unopposed G) H) G g (try_clash G H)
unfolding try_clash
clash-view G g [] h = is_stuck (all_nil (Unopposed G))
clash-view G g (f ∷ H) h =
    else-view (clash-of G g f (h f (Memᴰ.head refl))) (λ u.
    weaken (all_cons (Unopposed G) u) (clash-view G g H (λ f m. h f (Memᴰ.tail m))))

split-of : (G : List Face) (g : Face) (b : List Face) (f : Face) (a : List Face) → G ≡ b ++ f ∷ a → Moves (Simple f) G g (split_of b f a)
split-of G g b ff a e = is_stuck tt
split-of G g b ft a e = is_stuck tt
split-of G g b (at x n) a e = is_stuck tt
split-of G g b (fand x y) a e = is-and-left e
split-of G g b (for x y) a e = is-or-left e

left-view : (G : List Face) (g : Face) (b a : List Face) → G ≡ b ++ a → Moves (All Simple a) G g (try_left b a)
unfolding try_left
left-view G g b [] e = is_stuck (all_nil Simple)
left-view G g b (f ∷ a) e =
    else-view (split-of G g b f a e) (λ u.
    weaken (all_cons Simple u) (left-view G g (b ++ f ∷ []) a (rw append_snoc e)))

right-view : (G : List Face) (g : Face) → satisfies G (least G) ≡ true → NotTop g → (Memᴰ g G → ⊥) → Moves (Refuted G g) G g (try_right g)
unfolding holds
right-view G ff s t h = is_stuck (record { counter = least G; satisfied = s; missed = refl })
right-view G ft s t h = absurd t
right-view G (at e n) s t h = is_stuck (record { counter = least G; satisfied = s; missed = eq-false_of_not-eq-true (λ p. h (least-member G e n p)) })
right-view G (fand x y) s t h = is-and-right refl
right-view G (for x y) s t h = is-or-right s refl

pub move-view : (G : List Face) (g : Face) → Moves (Refuted G g) G g (move G g)
unfolding move
move-view G g =
    else-view (top-view G g) (λ t.
    else-view (provided-view g (λ m. is-hit m)) (λ h.
    else-view (provided-view ff (λ m. is-absurd m)) (λ a.
    else-view (clash-view G g G (λ f m. m)) (λ c.
    else-view (left-view G g [] G refl) (λ l.
    right-view G g (least-satisfies G a c l) t h)))))

-- Soundness and completeness ----------------------------------------------------------

pub left_out : (b : List Face) (f : Face) (a : List Face) → LeftOut f (b ++ f ∷ a) (b ++ a)
left_out [] f a = here
left_out (g ∷ b) f a = there (left_out b f a)

act-sound : (c : List Face → Face → Bool) → ((G : List Face) (g : Face) → c G g ≡ true → Covers G g)
    → {P : Type 0} {G : List Face} {g : Face} {m : Move} → Moves P G g m → act c G g m ≡ true → Covers G g
act-sound c k (is-top e) y = rw e (rule-sound Rules.cover-top tt)
act-sound c k (is-hit m) y = rule-sound Rules.cover-hit (m, tt)
act-sound c k (is-absurd m) y = rule-sound Rules.cover-absurd (m, tt)
act-sound c k (is-clash m o) y = rule-sound Rules.cover-clash (m, (o, tt))
act-sound c k {g = g} (is-and-left {b} {a} {x} {y = z} e) y = rw e (rule-sound Rules.cover-and-left (left_out b (fand x z) a, (k (x ∷ z ∷ (b ++ a)) g y, tt)))
act-sound c k {g = g} (is-or-left {b} {a} {x} {y = z} e) y =
    let h = (and-eq-true_iff (c (x ∷ (b ++ a)) g) (c (z ∷ (b ++ a)) g)).0 y in
    rw e (rule-sound Rules.cover-or-left (left_out b (for x z) a, (k (x ∷ (b ++ a)) g h.0, (k (z ∷ (b ++ a)) g h.1, tt))))
act-sound c k {G = G} (is-and-right {x} {y = z} e) y =
    let h = (and-eq-true_iff (c G x) (c G z)).0 y in
    rw e (rule-sound Rules.cover-and-right (k G x h.0, (k G z h.1, tt)))
act-sound c k {G = G} (is-or-right {x} {y = z} s e) y =
    rw e (⊎_elim (λ h. rule-sound Rules.cover-or-right0 (k G x h, tt)) (λ h. rule-sound Rules.cover-or-right1 (k G z h, tt)) ((or-iff (c G x) (c G z)).0 y))
act-sound c k (is_stuck p) y = absurd (false≢true y)

search_in-sound : (n : ℕ) (G : List Face) (g : Face) → search_in n G g ≡ true → Covers G g
unfolding search_in
search_in-sound zero G g e = absurd (false≢true e)
search_in-sound (suc n) G g e = act-sound (search_in n) (search_in-sound n) (move-view G g) e

pub nodes-left-out : {f : Face} {G D : List Face} → LeftOut f G D → nodes_context G ≡ nodes_face f + nodes_context D
unfolding nodes_context
nodes-left-out here = refl
nodes-left-out (there o) = rw (nodes-left-out o) (omega arith)

pub nodes-positive : (f : Face) → 1 ≤ nodes_face f
unfolding nodes_face
nodes-positive ff = omega arith
nodes-positive ft = omega arith
nodes-positive (at e n) = omega arith
nodes-positive (fand a b) = omega arith
nodes-positive (for a b) = omega arith

act-complete : (c : List Face → Face → Bool) (n : ℕ)
    → ((G : List Face) (g : Face) → nodes_context G + nodes_face g ≤ n → Covers G g → c G g ≡ true)
    → {G : List Face} {g : Face} → nodes_context G + nodes_face g ≤ suc n → {m : Move} → Moves (Refuted G g) G g m → Covers G g → act c G g m ≡ true
unfolding nodes_face nodes_context holds
act-complete c n k w (is-top e) t = refl
act-complete c n k w (is-hit m) t = refl
act-complete c n k w (is-absurd m) t = refl
act-complete c n k w (is-clash m o) t = refl
act-complete c n k {g = g} w (is-and-left {b} {a} {x} {y} e) t =
    let o = left_out b (fand x y) a in
    k (x ∷ y ∷ (b ++ a)) g (omega (arith, nodes-left-out o, ap nodes_context e)) (λ σ s. t σ (rw e (and-left-satisfies o σ ∙ s)))
act-complete c n k {g = g} w (is-or-left {b} {a} {x} {y} e) t =
    let o = left_out b (for x y) a in
    (and-eq-true_iff (c (x ∷ (b ++ a)) g) (c (y ∷ (b ++ a)) g)).1 (
      k (x ∷ (b ++ a)) g (omega (arith, nodes-left-out o, ap nodes_context e, nodes-positive y)) (λ σ s. t σ (rw e ((or-left-satisfies o σ).1 (inl s)))),
      k (y ∷ (b ++ a)) g (omega (arith, nodes-left-out o, ap nodes_context e, nodes-positive x)) (λ σ s. t σ (rw e ((or-left-satisfies o σ).1 (inr s)))),
    )
act-complete c n k {G = G} w (is-and-right {x} {y} e) t =
    (and-eq-true_iff (c G x) (c G y)).1 (
      k G x (omega (arith, ap nodes_face e)) (λ σ s. ((and-eq-true_iff (holds x σ) (holds y σ)).0 (rw e at (t σ s))).0),
      k G y (omega (arith, ap nodes_face e)) (λ σ s. ((and-eq-true_iff (holds x σ) (holds y σ)).0 (rw e at (t σ s))).1),
    )
act-complete c n k {G = G} w (is-or-right {x} {y} s e) t =
    (or-iff (c G x) (c G y)).1
    (⊎_elim (λ h. inl (k G x (omega (arith, ap nodes_face e)) (least-covers G x h))) (λ h. inr (k G y (omega (arith, ap nodes_face e)) (least-covers G y h)))
    ((or-iff (holds x (least G)) (holds y (least G))).0 (rw e at (t (least G) s))))
act-complete c n k w (is_stuck r) t = absurd (true≢false (sym (t r.counter r.satisfied) ∙ r.missed))

-- Fuel for the nodes of context and goal suffices.
search_in-complete : (n : ℕ) (G : List Face) (g : Face) → nodes_context G + nodes_face g ≤ n → Covers G g → search_in n G g ≡ true
unfolding search_in
search_in-complete zero G g w t = absurd (omega (arith, nodes-positive g))
search_in-complete (suc n) G g w t = act-complete (search_in n) n (search_in-complete n) w (move-view G g) t

pub search_in-covers : (n : ℕ) (G : List Face) (g : Face) → nodes_context G + nodes_face g ≤ n → (search_in n G g ≡ true) ↔ Covers G g
search_in-covers n G g w = (search_in-sound n G g, search_in-complete n G g w)

-- The search says yes exactly when every assignment that satisfies the context satisfies the goal.
pub search-covers : (G : List Face) (g : Face) → (search G g ≡ true) ↔ Covers G g
unfolding search
search-covers G g = search_in-covers (nodes_context G + nodes_face g) G g (omega arith)

-- Of one face alone: exactly when it entails the goal.
pub search-entails : (a b : Face) → (search (a ∷ []) b ≡ true) ↔ Entails a b
search-entails a b = (
  (λ e σ h. (search-covers (a ∷ []) b).0 e σ (alone a σ ∙ h)),
  (λ h. (search-covers (a ∷ []) b).1 (λ σ s. h σ (sym (alone a σ) ∙ s))),
)

-- More fuel changes nothing.
pub search_in-search : (n : ℕ) (G : List Face) (g : Face) → nodes_context G + nodes_face g ≤ n → search_in n G g ≡ search G g
search_in-search n G g w = same (search_in n G g) (search G g) (λ e. (search-covers G g).1 (search_in-sound n G g e)) (λ e. search_in-complete n G g w ((search-covers G g).0 e))
  where
    same : (a b : Bool) → (a ≡ true → b ≡ true) → (b ≡ true → a ≡ true) → a ≡ b
    same true b p q = sym (p refl)
    same false true p q = q refl
    same false false p q = refl
