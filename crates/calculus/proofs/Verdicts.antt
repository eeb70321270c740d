-- What the runs for faces, the search and entailments say, on every ledger.
use mathlib.Core.Path.{◌≡◌, refl, sym, ◌∙◌, ap}
use mathlib.Core.Bool.{Bool, true, false, ◌&&◌, ◌||◌, and-true, true≢false}
use mathlib.Core.Option.{Option, none, some}
use mathlib.Core.List.{List, [], ◌∷◌, ◌++◌, Memᴰ}
use Prim.Native.Nat.{ℕ, zero, suc, ◌+◌, ◌≤◌, max}
use native.Mathlib.Omega.{arith}
use borrow.Author.Tests.{leb-true, leb-false, le-leb, lt-leb}
use lib.Dec.{leb, ltb, leb-zero, leb-suc-zero, leb-suc-suc}
use Rattle.formula.specs.Formula.{lo, hi, Face, ff, ft, at, fand, for, Interval, i0, i1, dim, neg, meet, join, Entails}
use Rattle.formula.specs.Bytes.{nodes_face, bound_face, bound_interval}
use Rattle.calculus.specs.Judgement.{Judgement, Step, lt, le, interval, face, member, take, cover, entails, same_face}
use Rattle.calculus.specs.Truth.{EntailsBelow}
use Rattle.calculus.specs.Search.{Move, act, search_in, search, nodes_context}
use Rattle.calculus.specs.Emit.{Failure, not-below, not-implied, find, Outcome, done, stopped, full, append, emitted, Program, emit, ◌>>=◌, next, instead, run}
use Rattle.calculus.specs.Calls.{side, Order, less, at_most, compared, compared_kind, emit_comparison, emit_interval, emit_face, if_so, emit_member, emit_take, emit_move, emit_cover_in, emit_cover, emit_entails}
use Rattle.calculus.proofs.Searching.{Moves, is-top, is-hit, is-absurd, is-clash, is-and-left, is-or-left, is-and-right, is-or-right, is_stuck, move-view, search-entails}

-- The run is done exactly when the test passes, and else stops with this failure; or it is out of room.
pub data Says (b : Bool) (e : Failure) : Outcome → Type 0 where
  says-yes : {n : ℕ} {M : List Step} → b ≡ true → Says b e (done n M)
  says-no : {M : List Step} → b ≡ false → Says b e (stopped e M)
  says-full : Says b e full

says-as : {b c : Bool} {e : Failure} {o : Outcome} → b ≡ c → Says b e o → Says c e o
says-as p (says-yes h) = says-yes (sym p ∙ h)
says-as p (says-no h) = says-no (sym p ∙ h)
says-as p says-full = says-full

-- One run after another says both.
says-next : {b c : Bool} {e : Failure} {o : Outcome} {k : ℕ → List Step → Outcome} → Says b e o → ((n : ℕ) (M : List Step) → Says c e (k n M)) → Says (b && c) e (next o k)
says-next {c} (says-yes {n} {M} h) w = says-as (ap (λ (b : Bool). b && c) (sym h)) (w n M)
says-next {c} (says-no h) w = says-no (ap (λ (b : Bool). b && c) h)
says-next says-full w = says-full

-- A run, and after it one that only emits.
says_then : {b : Bool} {e : Failure} {o : Outcome} {k : ℕ → List Step → Outcome} → Says b e o → ((n : ℕ) (M : List Step) → Says true e (k n M)) → Says b e (next o k)
says_then {b} h w = says-as (and-true b) (says-next h w)

-- A run, and where it stops another, says either.
says-instead : {b c : Bool} {e : Failure} {o : Outcome} {k : ℕ → List Step → Outcome} {r : List Step → Outcome} → Says b e o → ((n : ℕ) (M : List Step) → Says true e (k n M))
    → ((M : List Step) → Says c e (r M)) → Says (b || c) e (instead o k r)
says-instead {c} (says-yes {n} {M} h) w v = says-as (ap (λ (b : Bool). b || c) (sym h)) (w n M)
says-instead {c} (says-no {M} h) w v = says-as (ap (λ (b : Bool). b || c) (sym h)) (v M)
says-instead says-full w v = says-full

-- The largest is at most d exactly when both are.
leb-max : (m n d : ℕ) → leb (max m n) d ≡ (leb m d && leb n d)
leb-max m n d = go (leb m d) refl (leb n d) refl
  where
    go : (x : Bool) → leb m d ≡ x → (y : Bool) → leb n d ≡ y → leb (max m n) d ≡ (x && y)
    go true p true q = le-leb (max m n) d (omega (arith, leb-true m d p, leb-true n d q))
    go true p false q = lt-leb (max m n) d (omega (arith, leb-false n d q))
    go false p y q = lt-leb (max m n) d (omega (arith, leb-false m d p))

-- The test of a comparison.
abbrev test : Order → ℕ → ℕ → Bool
test less m n = ltb m n
test at_most m n = leb m n

test-suc : (o : Order) (m n : ℕ) → test o m n ≡ test o (suc m) (suc n)
test-suc less m n = sym (leb-suc-suc (suc m) n)
test-suc at_most m n = sym (leb-suc-suc m n)

test_zero : (o : Order) (m : ℕ) → test o (suc m) zero ≡ false
test_zero less m = leb-suc-zero (suc m)
test_zero at_most m = leb-suc-zero m

module _ (room : List Step → Bool) where
  says-emit : (e : Failure) (k : ℕ) (is : List ℕ) (j : Judgement) (L : List Step) → Says true e (run room (emit k is j) L)
  unfolding run
  says-emit e k is j L = go (find j L)
    where
      s : Step
      s = record { kind = k; references = is; judgement = j }

      appends : (b : Bool) → Says true e (append b L s)
      appends true = says-yes refl
      appends false = says-full

      go : (o : Option ℕ) → Says true e (emitted room L s o)
      go (some n) = says-yes refl
      go none = appends (room (L ++ s ∷ []))

  comparison-says : (o : Order) (m n : ℕ) (L : List Step) → Says (test o m n) not-below (run room (emit_comparison o m n) L)
  unfolding run emit_comparison
  comparison-says less zero zero L = says-no refl
  comparison-says less zero (suc n) L = says-as (sym (leb-suc-suc 0 n ∙ leb-zero n)) (says-emit not-below 1 [] (lt 0 (suc n)) L)
  comparison-says at_most zero n L = says-as (sym (leb-zero n)) (says-emit not-below 3 [] (le 0 n) L)
  comparison-says o (suc m) zero L = says-no (test_zero o m)
  comparison-says o (suc m) (suc n) L =
      says-as (test-suc o m n) (says_then (comparison-says o m n L) (λ i M. says-emit not-below (compared_kind o) (i ∷ []) (compared o (suc m) (suc n)) M))

  pub interval-says : (d : ℕ) (r : Interval) (L : List Step) → Says (leb (bound_interval r) d) not-below (run room (emit_interval d r) L)
  unfolding run emit_interval bound_interval
  interval-says d i0 L = says-as (sym (leb-zero d)) (says-emit not-below 5 [] (interval d i0) L)
  interval-says d i1 L = says-as (sym (leb-zero d)) (says-emit not-below 6 [] (interval d i1) L)
  interval-says d (dim n) L = says_then (comparison-says less n d L) (λ i M. says-emit not-below 7 (i ∷ []) (interval d (dim n)) M)
  interval-says d (neg r) L = says_then (interval-says d r L) (λ i M. says-emit not-below 8 (i ∷ []) (interval d (neg r)) M)
  interval-says d (meet r s) L =
      says-as (sym (leb-max (bound_interval r) (bound_interval s) d)) (says-next (interval-says d r L) (λ i M.
      says_then (interval-says d s M) (λ k N. says-emit not-below 9 (i ∷ k ∷ []) (interval d (meet r s)) N)))
  interval-says d (join r s) L =
      says-as (sym (leb-max (bound_interval r) (bound_interval s) d)) (says-next (interval-says d r L) (λ i M.
      says_then (interval-says d s M) (λ k N. says-emit not-below 10 (i ∷ k ∷ []) (interval d (join r s)) N)))

  pub face-says : (d : ℕ) (f : Face) (L : List Step) → Says (leb (bound_face f) d) not-below (run room (emit_face d f) L)
  unfolding run emit_face bound_face bound_interval
  face-says d ff L = says-as (sym (leb-zero d)) (says-emit not-below 11 [] (face d ff) L)
  face-says d ft L = says-as (sym (leb-zero d)) (says-emit not-below 12 [] (face d ft) L)
  face-says d (at e n) L = says_then (interval-says d (dim n) L) (λ i M. says-emit not-below (side e 13 14) (i ∷ []) (face d (at e n)) M)
  face-says d (fand a b) L =
      says-as (sym (leb-max (bound_face a) (bound_face b) d)) (says-next (face-says d a L) (λ i M.
      says_then (face-says d b M) (λ k N. says-emit not-below 15 (i ∷ k ∷ []) (face d (fand a b)) N)))
  face-says d (for a b) L =
      says-as (sym (leb-max (bound_face a) (bound_face b) d)) (says-next (face-says d a L) (λ i M.
      says_then (face-says d b M) (λ k N. says-emit not-below 16 (i ∷ k ∷ []) (face d (for a b)) N)))

  pub member-says : (f : Face) (G : List Face) (L : List Step) → Memᴰ f G → Says true not-implied (run room (emit_member f G) L)
  unfolding run emit_member
  member-says f [] L m = elim m [ ]
  member-says f (g ∷ G) L m = go (same_face g f) m (member-says f G L)
    where
      rest : (g ≡ f → ⊥) → Memᴰ f (g ∷ G) → Memᴰ f G
      rest h (Memᴰ.head p) = absurd (h (sym p))
      rest h (Memᴰ.tail p) = p

      go : (c : Dec (g ≡ f)) → Memᴰ f (g ∷ G) → (Memᴰ f G → Says true not-implied (run room (emit_member f G) L))
          → Says true not-implied (run room (if_so c (emit 17 [] (member f (g ∷ G))) (emit_member f G >>= (λ i. emit 18 (i ∷ []) (member f (g ∷ G))))) L)
      go (yes e) m h = says-emit not-implied 17 [] (member f (g ∷ G)) L
      go (no e) m h = says_then (h (rest e m)) (λ i M. says-emit not-implied 18 (i ∷ []) (member f (g ∷ G)) M)

  pub take-says : (b : List Face) (x : Face) (a : List Face) (L : List Step) → Says true not-implied (run room (emit_take b x a) L)
  unfolding run emit_take
  take-says [] x a L = says-emit not-implied 19 [] (take (x ∷ a) x a) L
  take-says (g ∷ b) x a L = says_then (take-says b x a L) (λ i M. says-emit not-implied 20 (i ∷ []) (take (g ∷ (b ++ x ∷ a)) x (g ∷ (b ++ a))) M)

  move-says : (c : List Face → Face → Bool) (p : List Face → Face → Program) → ((G : List Face) (g : Face) (L : List Step) → Says (c G g) not-implied (run room (p G g) L))
      → {P : Type 0} {G : List Face} {g : Face} {m : Move} → Moves P G g m → (L : List Step) → Says (act c G g m) not-implied (run room (emit_move p G g m) L)
  unfolding run
  move-says c p h {G = G} {g = g} (is-top e) L = says-emit not-implied 21 [] (cover G g) L
  move-says c p h {G = G} {g = g} (is-hit m) L = says_then (member-says g G L m) (λ i M. says-emit not-implied 22 (i ∷ []) (cover G g) M)
  move-says c p h {G = G} {g = g} (is-absurd m) L = says_then (member-says ff G L m) (λ i M. says-emit not-implied 23 (i ∷ []) (cover G g) M)
  move-says c p h {G = G} {g = g} (is-clash {n} m o) L =
      says-next (member-says (at lo n) G L m) (λ i M. says_then (member-says (at hi n) G M o) (λ k N. says-emit not-implied 24 (i ∷ k ∷ []) (cover G g) N))
  move-says c p h {G = G} {g = g} (is-and-left {b} {a} {x} {y} e) L =
      says-next (take-says b (fand x y) a L) (λ t M. says_then (h (x ∷ y ∷ (b ++ a)) g M) (λ i N. says-emit not-implied 25 (t ∷ i ∷ []) (cover G g) N))
  move-says c p h {G = G} {g = g} (is-or-left {b} {a} {x} {y} e) L =
      says-next (take-says b (for x y) a L) (λ t M.
      says-next (h (x ∷ (b ++ a)) g M) (λ i N. says_then (h (y ∷ (b ++ a)) g N) (λ k O. says-emit not-implied 26 (t ∷ i ∷ k ∷ []) (cover G g) O)))
  move-says c p h {G = G} {g = g} (is-and-right {x} {y} e) L =
      says-next (h G x L) (λ i M. says_then (h G y M) (λ k N. says-emit not-implied 27 (i ∷ k ∷ []) (cover G g) N))
  move-says c p h {G = G} {g = g} (is-or-right {x} {y} s e) L =
      says-instead (h G x L) (λ i M. says-emit not-implied 28 (i ∷ []) (cover G g) M) (λ M. says_then (h G y M) (λ k N. says-emit not-implied 29 (k ∷ []) (cover G g) N))
  move-says c p h (is_stuck s) L = says-no refl

  pub cover_in-says : (n : ℕ) (G : List Face) (g : Face) (L : List Step) → Says (search_in n G g) not-implied (run room (emit_cover_in n G g) L)
  unfolding run emit_cover_in search_in
  cover_in-says zero G g L = says-no refl
  cover_in-says (suc n) G g L = move-says (search_in n) (emit_cover_in n) (cover_in-says n) (move-view G g) L

  -- The run for a cover judgement says what the search says.
  pub cover-says : (G : List Face) (g : Face) (L : List Step) → Says (search G g) not-implied (run room (emit_cover G g) L)
  unfolding emit_cover search
  cover-says G g L = cover_in-says (nodes_context G + nodes_face g) G g L

-- What a run for an entailment says.
pub data Decides (d : ℕ) (a b : Face) : Outcome → Type 0 where
  holds-so : {n : ℕ} {M : List Step} → EntailsBelow d a b → Decides d a b (done n M)
  not-below-so : {M : List Step} → (bound_face a ≤ d → bound_face b ≤ d → ⊥) → Decides d a b (stopped not-below M)
  not-implied-so : {M : List Step} → bound_face a ≤ d → bound_face b ≤ d → (Entails a b → ⊥) → Decides d a b (stopped not-implied M)
  no-room-so : Decides d a b full

module _ {d : ℕ} {a b : Face} where
  last-decides : {o : Outcome} → EntailsBelow d a b → Says true not-implied o → Decides d a b o
  last-decides h (says-yes e) = holds-so h
  last-decides h (says-no e) = absurd (true≢false e)
  last-decides h says-full = no-room-so

  cover-decides : {o : Outcome} {k : ℕ → List Step → Outcome} → bound_face a ≤ d → bound_face b ≤ d → Says (search (a ∷ []) b) not-implied o
      → ((n : ℕ) (M : List Step) → Says true not-implied (k n M)) → Decides d a b (next o k)
  cover-decides p q (says-yes {n} {M} h) w = last-decides (record { left = p; right = q; implied = (search-entails a b).0 h }) (w n M)
  cover-decides p q (says-no h) w = not-implied-so p q (λ t. true≢false (sym ((search-entails a b).1 t) ∙ h))
  cover-decides p q says-full w = no-room-so

  face-decides : (f : Face) {o : Outcome} {k : ℕ → List Step → Outcome} → Says (leb (bound_face f) d) not-below o
      → ((bound_face f ≤ d → ⊥) → bound_face a ≤ d → bound_face b ≤ d → ⊥) → (bound_face f ≤ d → (n : ℕ) (M : List Step) → Decides d a b (k n M)) → Decides d a b (next o k)
  face-decides f (says-yes {n} {M} h) u w = w (leb-true (bound_face f) d h) n M
  face-decides f (says-no h) u w = not-below-so (u (λ p. true≢false (sym (le-leb (bound_face f) d p) ∙ h)))
  face-decides f says-full u w = no-room-so

-- The run for an entailment is done exactly when its meaning holds, and stops for a dimension exactly when one is not below d.
pub entails-decides : (room : List Step → Bool) (d : ℕ) (a b : Face) (L : List Step) → Decides d a b (run room (emit_entails d a b) L)
unfolding run emit_entails
entails-decides room d a b L =
    face-decides a (face-says room d a L) (λ n p q. n p) (λ p i M.
    face-decides b (face-says room d b M) (λ n p q. n q) (λ q k N.
    cover-decides p q (cover-says room (a ∷ []) b N) (λ c O.
    says-emit room not-implied 30 (i ∷ k ∷ c ∷ []) (entails d a b) O)))
