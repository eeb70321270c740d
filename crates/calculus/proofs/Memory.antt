-- The search with a memory: what it has once found it does not search again. It answers as the plain search does, and opens no more searches than the goal has nodes for each judgement found, also where it is out of room.
use mathlib.Core.Path.{◌≡◌, refl, sym, ◌∙◌, ap}
use mathlib.Core.Logic.{⊎_elim}
use mathlib.Core.Bool.{Bool, true, false, ◌&&◌, ◌||◌, false≢true, true≢false, decide, decide_iff}
use mathlib.Mathlib.Data.Bool.Basic.{eq-false_of_not-eq-true}
use mathlib.Core.List.{List, [], ◌∷◌, ◌++◌}
use Prim.Native.Nat.{ℕ, zero, suc, ◌+◌, ◌*◌, ◌≤◌}
use native.Mathlib.Omega.{arith}
use lib.ListN.{length}
use Rattle.formula.specs.Formula.{lo, hi, Face, ff, ft, at, fand, for}
use Rattle.formula.specs.Bytes.{nodes_face}
use Rattle.calculus.specs.Judgement.{Judgement, cover, same_judgement}
use Rattle.calculus.specs.Truth.{LeftOut, here, there, Covers, True, AllTrue}
use Rattle.calculus.specs.Search.{Move, by-top, by-hit, by-absurd, by-clash, by-and-left, by-or-left, by-and-right, by-or-right, stuck, ◌else◌, provided, has, try_top, clash_of, try_clash, split_of, try_left, try_right, move, act, search_in, nodes_context, search}
use Rattle.calculus.proofs.Sound.{or-iff}
use Rattle.calculus.proofs.Searching.{Moves, is-top, is-hit, is-absurd, is-clash, is-and-left, is-or-left, is-and-right, is-or-right, is_stuck, move-view, left_out, nodes-left-out, nodes-positive, search_in-covers, search_in-search}

-- How a search with a memory ends: found, failed or out of room, each with the judgements then remembered and the number of searches opened so far.
pub data Result : Type 0 where
  found failed out : List Judgement → ℕ → Result

-- Was it found?
abbrev pub answer : Result → Bool
answer (found M n) = true
answer (failed M n) = false
answer (out M n) = false

-- The judgements remembered after it.
abbrev pub memory : Result → List Judgement
memory (found M n) = M
memory (failed M n) = M
memory (out M n) = M

-- The number of searches opened so far.
abbrev pub opened : Result → ℕ
opened (found M n) = n
opened (failed M n) = n
opened (out M n) = n

-- Is the judgement remembered?
unfoldable pub remembers : List Judgement → Judgement → Bool
remembers [] j = false
remembers (k ∷ M) j = decide (same_judgement k j) || remembers M j

-- One search, and where it found the other.
abbrev pub both : Result → (List Judgement → ℕ → Result) → Result
both (found M n) k = k M n
both (failed M n) k = failed M n
both (out M n) k = out M n

-- One search, and where it failed the other.
abbrev pub either : Result → (List Judgement → ℕ → Result) → Result
either (found M n) k = found M n
either (failed M n) k = k M n
either (out M n) k = out M n

-- What is remembered is answered at once, else the search is made.
abbrev pub recall : Bool → List Judgement → ℕ → Result → Result
recall true M n r = found M n
recall false M n r = r

-- The search goes on if there is room for the steps before it.
abbrev pub enter : Bool → List Judgement → ℕ → Result → Result
enter true M n r = r
enter false M n r = out M n

-- The judgement is remembered if there is room for its step.
abbrev pub keep : Bool → Judgement → List Judgement → ℕ → Result
keep true j M n = found (j ∷ M) n
keep false j M n = out M n

-- The result of a move, by the searches for what it leaves to show.
abbrev pub makes : (List Judgement → ℕ → List Face → Face → Result) → List Judgement → ℕ → List Face → Face → Move → Result
makes c M i G g by-top = found M i
makes c M i G g by-hit = found M i
makes c M i G g by-absurd = found M i
makes c M i G g (by-clash n) = found M i
makes c M i G g (by-and-left b x y a) = c M i (x ∷ y ∷ (b ++ a)) g
makes c M i G g (by-or-left b x y a) = both (c M i (x ∷ (b ++ a)) g) (λ N n. c N n (y ∷ (b ++ a)) g)
makes c M i G g (by-and-right x y) = both (c M i G x) (λ N n. c N n G y)
makes c M i G g (by-or-right x y) = either (c M i G x) (λ N n. c N n G y)
makes c M i G g stuck = failed M i

-- Is there room: before the searches that a move leaves, and for the step of one that found? By the judgements remembered and the number of searches opened, which tell each such moment of a search from the others.
pub record Room : Type 0 where
  pub before : List Judgement → ℕ → Bool
  pub behind : List Judgement → ℕ → Bool

-- There always is.
pub record Always (room : Room) : Type 0 where
  pub before : (M : List Judgement) (n : ℕ) → room.before M n ≡ true
  pub behind : (M : List Judgement) (n : ℕ) → room.behind M n ≡ true

-- The search is done: found, it is remembered.
abbrev pub close : Room → Judgement → Result → Result
close room j (found M n) = keep (room.behind M n) j M n
close room j (failed M n) = failed M n
close room j (out M n) = out M n

-- The search with a memory, at most n moves deep, from the memory M with i searches opened before.
unfoldable pub remembered : Room → ℕ → List Judgement → ℕ → List Face → Face → Result
remembered room zero M i G g = failed M i
remembered room (suc n) M i G g =
    recall (remembers M (cover G g)) M i
    (close room (cover G g) (enter (room.before M (suc i)) M (suc i) (makes (remembered room n) M (suc i) G g (move G g))))

-- The memory grows ------------------------------------------------------------------

-- The second memory is the first and new judgements, each not remembered before it and at least s nodes below w.
pub data Grown (s w : ℕ) (M : List Judgement) : List Judgement → Type 0 where
  as_before : Grown s w M M
  one_more : {N : List Judgement} {G : List Face} {g : Face} → s + nodes_context G + nodes_face g ≤ w → remembers N (cover G g) ≡ false → Grown s w M N → Grown s w M (cover G g ∷ N)

grown-trans : {s w : ℕ} {M N O : List Judgement} → Grown s w M N → Grown s w N O → Grown s w M O
grown-trans x as_before = x
grown-trans x (one_more l f y) = one_more l f (grown-trans x y)

-- The searches that a move leaves have fewer nodes.
grown-in : {u w : ℕ} {M N : List Judgement} → 1 + u ≤ w → Grown 0 u M N → Grown 1 w M N
grown-in p as_before = as_before
grown-in p (one_more {G} {g} l f x) = one_more {G = G} {g = g} (omega arith) f (grown-in p x)

-- So they have no more.
grown-out : {w : ℕ} {M N : List Judgement} → Grown 1 w M N → Grown 0 w M N
grown-out as_before = as_before
grown-out (one_more {G} {g} l f x) = one_more {G = G} {g = g} (omega arith) f (grown-out x)

-- A remembered judgement is true where all are.
pub remembers-true : (M : List Judgement) (G : List Face) (g : Face) → AllTrue M → remembers M (cover G g) ≡ true → Covers G g
unfolding remembers
remembers-true [] G g t e = absurd (false≢true e)
remembers-true (k ∷ M) G g t e =
    ⊎_elim (λ p. go k t.0 ((decide_iff (same_judgement k (cover G g))).0 p)) (λ p. remembers-true M G g t.1 p) ((or-iff (decide (same_judgement k (cover G g))) (remembers M (cover G g))).0 e)
  where
    go : (j : Judgement) → True j → j ≡ cover G g → Covers G g
    go j t e = rw e at t

-- Judgements with fewer nodes are others.
remembers-new : {w : ℕ} {M N : List Judgement} (G : List Face) (g : Face) → w ≤ nodes_context G + nodes_face g → remembers M (cover G g) ≡ false → Grown 1 w M N → remembers N (cover G g) ≡ false
unfolding remembers
remembers-new G g p e as_before = e
remembers-new {M} G g p e (one_more {N} {G = H} {g = f} l o x) = eq-false_of_not-eq-true (λ t.
    ⊎_elim (λ q. other ((decide_iff (same_judgement (cover H f) (cover G g))).0 q)) (λ q. true≢false (sym q ∙ remembers-new G g p e x))
    ((or-iff (decide (same_judgement (cover H f) (cover G g))) (remembers N (cover G g))).0 t))
  where
    other : cover H f ≡ cover G g → ⊥
    other e =
        let a : H ≡ G = cc in
        let b : f ≡ g = cc in
        omega (arith, ap nodes_context a, ap nodes_face b)

-- What a result says and costs ---------------------------------------------------------

-- A result from the memory M with i searches opened, where v is the plain verdict and A does not hold where it is out of room: k pays for each new judgement, a where it was found, w less q where it was not, and k where there is no room for one.
data Fits (A : Type 0) (k s a w q : ℕ) (M : List Judgement) (i : ℕ) (v : Bool) : Result → Type 0 where
  found-fits : (N : List Judgement) (n : ℕ) → v ≡ true → AllTrue N → Grown s w M N → n + k * length M ≤ i + k * length N + a → Fits A k s a w q M i v (found N n)
  failed-fits : (N : List Judgement) (n : ℕ) → v ≡ false → AllTrue N → Grown s w M N → n + k * length M + q ≤ i + k * length N + w → Fits A k s a w q M i v (failed N n)
  out-fits : (N : List Judgement) (n : ℕ) → (A → ⊥) → AllTrue N → Grown s w M N → n + k * length M + q ≤ i + k * length N + k + w → Fits A k s a w q M i v (out N n)

-- The cost of what a move leaves to show is below that of the search.
record Less (w q u r : ℕ) : Type 0 where
  nodes : 1 + u ≤ w
  cost : 1 + u + q ≤ w + r

-- One search is left.
fits_one : {A : Type 0} {k w q u r i : ℕ} {M : List Judgement} {v : Bool} {o : Result} → 1 ≤ k → Less w q u r → Fits A k 0 0 u r M (suc i) v o → Fits A k 1 k w q M i v o
fits_one l d (found-fits N n e t x p) = found-fits N n e t (grown-in d.nodes x) (omega arith)
fits_one l d (failed-fits N n e t x p) = failed-fits N n e t (grown-in d.nodes x) (omega (arith, d.cost))
fits_one l d (out-fits N n e t x p) = out-fits N n e t (grown-in d.nodes x) (omega (arith, d.cost))

-- Two searches are left, the other where one found.
fits_both : {A : Type 0} {k w q u r f h i : ℕ} {M : List Judgement} {v z : Bool} {o : Result} {c : List Judgement → ℕ → Result} → 1 ≤ k → Less w q u r → Less w q f h
    → Fits A k 0 0 u r M (suc i) v o → ((N : List Judgement) (n : ℕ) → AllTrue N → Fits A k 0 0 f h N n z (c N n)) → Fits A k 1 k w q M i (v && z) (both o c)
fits_both {A} {k} {w} {q} {f} {h} {i} {M} {z} l d b (found-fits N n e t x p) c = rw e (go (c N n t))
  where
    go : {o : Result} → Fits A k 0 0 f h N n z o → Fits A k 1 k w q M i z o
    go (found-fits O m e s y r) = found-fits O m e s (grown-trans (grown-in d.nodes x) (grown-in b.nodes y)) (omega arith)
    go (failed-fits O m e s y r) = failed-fits O m e s (grown-trans (grown-in d.nodes x) (grown-in b.nodes y)) (omega (arith, b.cost))
    go (out-fits O m e s y r) = out-fits O m e s (grown-trans (grown-in d.nodes x) (grown-in b.nodes y)) (omega (arith, b.cost))
fits_both l d b (failed-fits N n e t x p) c = rw e (failed-fits N n refl t (grown-in d.nodes x) (omega (arith, d.cost)))
fits_both l d b (out-fits N n e t x p) c = out-fits N n e t (grown-in d.nodes x) (omega (arith, d.cost))

-- Two searches are left, the other where one failed: k pays for that.
fits-either : {A : Type 0} {k w q u f i : ℕ} {M : List Judgement} {v z : Bool} {o : Result} {c : List Judgement → ℕ → Result} → 1 ≤ k → 1 + u ≤ k + q → 1 + u + f ≤ w + q → 1 + u ≤ w → 1 + f ≤ w
    → Fits A k 0 0 u q M (suc i) v o → ((N : List Judgement) (n : ℕ) → AllTrue N → Fits A k 0 0 f q N n z (c N n)) → Fits A k 1 k w q M i (v || z) (either o c)
fits-either l b d x y (found-fits N n e t g p) c = rw e (found-fits N n refl t (grown-in x g) (omega arith))
fits-either {A} {k} {w} {q} {u} {f} {i} {M} {z} l b d x y (failed-fits N n e t g p) c = rw e (go (c N n t))
  where
    go : {o : Result} → Fits A k 0 0 f q N n z o → Fits A k 1 k w q M i z o
    go (found-fits O m e s h r) = found-fits O m e s (grown-trans (grown-in x g) (grown-in y h)) (omega arith)
    go (failed-fits O m e s h r) = failed-fits O m e s (grown-trans (grown-in x g) (grown-in y h)) (omega arith)
    go (out-fits O m e s h r) = out-fits O m e s (grown-trans (grown-in x g) (grown-in y h)) (omega arith)
fits-either l b d x y (out-fits N n e t g p) c = out-fits N n e t (grown-in x g) (omega arith)

-- There is room for the steps before, or not.
fits-enter : {A : Type 0} {k w q i : ℕ} {M : List Judgement} {v : Bool} {o : Result} (b : Bool) → (A → b ≡ true) → AllTrue M → 1 + q ≤ w → Fits A k 1 k w q M i v o → Fits A k 1 k w q M i v (enter b M (suc i) o)
fits-enter true h t p f = f
fits-enter {i} {M} false h t p f = out-fits M (suc i) (λ a. false≢true (h a)) t as_before (omega arith)

-- The search itself: found, it is one search and one new judgement more.
fits-close : (room : Room) {k q i : ℕ} {M : List Judgement} {v : Bool} {o : Result} (G : List Face) (g : Face) → (v ≡ true → Covers G g) → remembers M (cover G g) ≡ false → q ≤ nodes_context G + nodes_face g
    → Fits (Always room) k 1 k (nodes_context G + nodes_face g) q M i v o → Fits (Always room) k 0 0 (nodes_context G + nodes_face g) q M i v (close room (cover G g) o)
fits-close room {k} {q} {i} {M} {v} G g h f z (found-fits N n e t x p) = go (room.behind N n) (λ a. a.behind N n)
  where
    go : (b : Bool) → (Always room → b ≡ true) → Fits (Always room) k 0 0 (nodes_context G + nodes_face g) q M i v (keep b (cover G g) N n)
    go true a = found-fits (cover G g ∷ N) n e (h e, t) (one_more {G = G} {g = g} (omega arith) (remembers-new G g (omega arith) f x) (grown-out x)) (omega arith)
    go false a = out-fits N n (λ b. false≢true (a b)) t (grown-out x) (omega arith)
fits-close room G g h f z (failed-fits N n e t x p) = failed-fits N n e t (grown-out x) (omega arith)
fits-close room G g h f z (out-fits N n e t x p) = out-fits N n e t (grown-out x) (omega arith)

-- The goal is split only in a context without compounds -----------------------------------

-- What is known where a move splits a for of the goal, and where there is none.
record Followed (P Q : Type 0) (m : Move) : Type 0 where
  splits : (x y : Face) → m ≡ by-or-right x y → P
  none : m ≡ stuck → Q

-- Other things known where there is none.
leaves-with : {P Q R : Type 0} {m : Move} → Followed P Q m → (m ≡ stuck → R) → Followed P R m
leaves-with l f = record { splits = l.splits; none = f }

-- A move that is one.
leaves-some : {P Q R : Type 0} {m : Move} → Followed P Q m → (m ≡ stuck → false ≡ true) → Followed P R m
leaves-some l f = leaves-with l (λ e. absurd (false≢true (f e)))

-- A move that splits no for of the goal.
leaves-not : {P : Type 0} {m : Move} → ((x y : Face) → m ≡ by-or-right x y → false ≡ true) → Followed P (Unit {0}) m
leaves-not f = record { splits = λ x y e. absurd (false≢true (f x y e)); none = λ e. tt }

-- A try, and where it is stuck the next.
leaves-else : {P Q R : Type 0} (m n : Move) → Followed P Q m → (Q → Followed P R n) → Followed P R (m else n)
leaves-else by-top n l k = leaves-some l (λ e. cc)
leaves-else by-hit n l k = leaves-some l (λ e. cc)
leaves-else by-absurd n l k = leaves-some l (λ e. cc)
leaves-else (by-clash i) n l k = leaves-some l (λ e. cc)
leaves-else (by-and-left b x y a) n l k = leaves-some l (λ e. cc)
leaves-else (by-or-left b x y a) n l k = leaves-some l (λ e. cc)
leaves-else (by-and-right x y) n l k = leaves-some l (λ e. cc)
leaves-else (by-or-right x y) n l k = leaves-some l (λ e. cc)
leaves-else stuck n l k = k (l.none refl)

-- Each try.
leaves-top : {P : Type 0} (g : Face) → Followed P (Unit {0}) (try_top g)
leaves-top ff = leaves-not (λ x y e. cc)
leaves-top ft = leaves-not (λ x y e. cc)
leaves-top (at e n) = leaves-not (λ x y e. cc)
leaves-top (fand x y) = leaves-not (λ x y e. cc)
leaves-top (for x y) = leaves-not (λ x y e. cc)

leaves-provided : {P : Type 0} (b : Bool) {m : Move} → Followed P (Unit {0}) m → Followed P (Unit {0}) (provided b m)
leaves-provided true l = l
leaves-provided false l = leaves-not (λ x y e. cc)

leaves-clash-of : {P : Type 0} (G : List Face) (f : Face) → Followed P (Unit {0}) (clash_of G f)
leaves-clash-of G ff = leaves-not (λ x y e. cc)
leaves-clash-of G ft = leaves-not (λ x y e. cc)
leaves-clash-of G (at lo n) = leaves-provided (has (at hi n) G) (leaves-not (λ x y e. cc))
leaves-clash-of G (at hi n) = leaves-provided (has (at lo n) G) (leaves-not (λ x y e. cc))
leaves-clash-of G (fand x y) = leaves-not (λ x y e. cc)
leaves-clash-of G (for x y) = leaves-not (λ x y e. cc)

leaves-clash : {P : Type 0} (G H : List Face) → Followed P (Unit {0}) (try_clash G H)
unfolding try_clash
leaves-clash G [] = leaves-not (λ x y e. cc)
leaves-clash G (f ∷ H) = leaves-else (clash_of G f) (try_clash G H) (leaves-clash-of G f) (λ t. leaves-clash G H)

leaves-split : {P : Type 0} (b : List Face) (f : Face) (a : List Face) → Followed P (nodes_face f ≡ 1) (split_of b f a)
unfolding nodes_face
leaves-split b ff a = leaves-with (leaves-not (λ x y e. cc)) (λ e. refl)
leaves-split b ft a = leaves-with (leaves-not (λ x y e. cc)) (λ e. refl)
leaves-split b (at d n) a = leaves-with (leaves-not (λ x y e. cc)) (λ e. refl)
leaves-split b (fand x y) a = leaves-with (leaves-not (λ x y e. cc)) (λ e. cc)
leaves-split b (for x y) a = leaves-with (leaves-not (λ x y e. cc)) (λ e. cc)

leaves-left : {P : Type 0} (b a : List Face) → Followed P (nodes_context a ≡ length a) (try_left b a)
unfolding try_left nodes_context
leaves-left b [] = leaves-with (leaves-not (λ x y e. cc)) (λ e. refl)
leaves-left b (f ∷ a) =
    let l = leaves-left (b ++ f ∷ []) a in
    leaves-else (split_of b f a) (try_left (b ++ f ∷ []) a) (leaves-split b f a) (λ d. leaves-with l (λ e. omega (arith, l.none e)))

leaves-right : {P : Type 0} (g : Face) → P → Followed P (Unit {0}) (try_right g)
leaves-right g p = record { splits = λ x y e. p; none = λ e. tt }

-- Where a for of the goal is split each assumption is one node.
leaves-move : (G : List Face) (g : Face) → Followed (nodes_context G ≡ length G) (Unit {0}) (move G g)
unfolding move
leaves-move G g =
    leaves-else (try_top g) _ (leaves-top g) (λ t.
    leaves-else (provided (has g G) by-hit) _ (leaves-provided (has g G) (leaves-not (λ x y e. cc))) (λ t.
    leaves-else (provided (has ff G) by-absurd) _ (leaves-provided (has ff G) (leaves-not (λ x y e. cc))) (λ t.
    leaves-else (try_clash G G) _ (leaves-clash G G) (λ t.
    leaves-else (try_left [] G) (try_right g) (leaves-left [] G) (λ e. leaves-right g e)))))

-- The search with a memory ---------------------------------------------------------------

length-left-out : {f : Face} {G D : List Face} → LeftOut f G D → length G ≡ suc (length D)
length-left-out here = refl
length-left-out (there o) = ap suc (length-left-out o)

-- Each assumption is at least one node.
length-nodes : (G : List Face) → length G ≤ nodes_context G
unfolding nodes_context
length-nodes [] = omega arith
length-nodes (f ∷ G) = omega (arith, nodes-positive f, length-nodes G)

-- What is shown of a search c by the plain search s, on so many nodes, for goals of at most k.
abbrev Keeps : Type 0 → ℕ → ℕ → (List Face → Face → Bool) → (List Judgement → ℕ → List Face → Face → Result) → Type 0
Keeps A k n s c = (M : List Judgement) (i : ℕ) (G : List Face) (g : Face) → AllTrue M → nodes_context G + nodes_face g ≤ n → nodes_face g ≤ k
    → Fits A k 0 0 (nodes_context G + nodes_face g) (length G) M i (s G g) (c M i G g)

makes-fits : {A : Type 0} (k n : ℕ) (s : List Face → Face → Bool) (c : List Judgement → ℕ → List Face → Face → Result) → Keeps A k n s c
    → {P : Type 0} {G : List Face} {g : Face} {m : Move} → Moves P G g m → Followed (nodes_context G ≡ length G) (Unit {0}) m
    → (M : List Judgement) (i : ℕ) → AllTrue M → nodes_context G + nodes_face g ≤ suc n → nodes_face g ≤ k
    → Fits A k 1 k (nodes_context G + nodes_face g) (length G) M i (act s G g m) (makes c M (suc i) G g m)
unfolding nodes_face nodes_context
makes-fits k n s c h {g = g} (is-top e) l M i t w d = found-fits M (suc i) refl t as_before (omega (arith, nodes-positive g))
makes-fits k n s c h {g = g} (is-hit m) l M i t w d = found-fits M (suc i) refl t as_before (omega (arith, nodes-positive g))
makes-fits k n s c h {g = g} (is-absurd m) l M i t w d = found-fits M (suc i) refl t as_before (omega (arith, nodes-positive g))
makes-fits k n s c h {g = g} (is-clash m o) l M i t w d = found-fits M (suc i) refl t as_before (omega (arith, nodes-positive g))
makes-fits k n s c h {g = g} (is-and-left {b} {a} {x} {y} e) l M i t w d =
    let o = left_out b (fand x y) a in
    let p = nodes-left-out o in
    let q = length-left-out o in
    let u = ap nodes_context e in
    let v = ap (λ (H : List Face). length H) e in
    fits_one (omega (arith, nodes-positive g)) (record { nodes = omega arith; cost = omega arith })
    (h M (suc i) (x ∷ y ∷ (b ++ a)) g t (omega arith) d)
makes-fits k n s c h {g = g} (is-or-left {b} {a} {x} {y} e) l M i t w d =
    let o = left_out b (for x y) a in
    let p = nodes-left-out o in
    let q = length-left-out o in
    let u = ap nodes_context e in
    let v = ap (λ (H : List Face). length H) e in
    let f = nodes-positive x in
    let z = nodes-positive y in
    fits_both (omega (arith, nodes-positive g)) (record { nodes = omega arith; cost = omega arith }) (record { nodes = omega arith; cost = omega arith })
    (h M (suc i) (x ∷ (b ++ a)) g t (omega arith) d)
    (λ N j r. h N j (y ∷ (b ++ a)) g r (omega arith) d)
makes-fits k n s c h {G = G} {g = g} (is-and-right {x} {y} e) l M i t w d =
    let f = ap nodes_face e in
    fits_both (omega arith) (record { nodes = omega arith; cost = omega arith }) (record { nodes = omega arith; cost = omega arith })
    (h M (suc i) G x t (omega arith) (omega arith))
    (λ N j r. h N j G y r (omega arith) (omega arith))
makes-fits k n s c h {G = G} {g = g} (is-or-right {x} {y} z e) l M i t w d =
    let f = ap nodes_face e in
    let v = l.splits x y refl in
    fits-either (omega arith) (omega arith) (omega arith) (omega arith) (omega arith)
    (h M (suc i) G x t (omega arith) (omega arith))
    (λ N j r. h N j G y r (omega arith) (omega arith))
makes-fits k n s c h {G = G} {g = g} (is_stuck p) l M i t w d = failed-fits M (suc i) refl t as_before (omega (arith, nodes-positive g, length-nodes G))

remembered-fits : (room : Room) (k n : ℕ) → Keeps (Always room) k n (search_in n) (remembered room n)
unfolding search_in remembered
remembered-fits room k zero M i G g t w d = absurd (omega (arith, nodes-positive g))
remembered-fits room k (suc n) M i G g t w d = go (remembers M (cover G g)) refl (makes-fits k n (search_in n) (remembered room n) (remembered-fits room k n) (move-view G g) (leaves-move G g) M i t w d)
  where
    search : Result
    search = makes (remembered room n) M (suc i) G g (move G g)

    go : (b : Bool) → remembers M (cover G g) ≡ b → Fits (Always room) k 1 k (nodes_context G + nodes_face g) (length G) M i (search_in (suc n) G g) search
        → Fits (Always room) k 0 0 (nodes_context G + nodes_face g) (length G) M i (search_in (suc n) G g) (recall b M i (close room (cover G g) (enter (room.before M (suc i)) M (suc i) search)))
    go true e f = found-fits M i ((search_in-covers (suc n) G g w).1 (remembers-true M G g t e)) t as_before (omega arith)
    go false e f =
        fits-close room G g (search_in-covers (suc n) G g w).0 e (omega (arith, length-nodes G))
        (fits-enter (room.before M (suc i)) (λ a. a.before M (suc i)) t (omega (arith, length-nodes G, nodes-positive g)) f)

-- What it says and costs -------------------------------------------------------------------

-- Found where the verdict is yes, failed where it is no.
abbrev pub Tells : Bool → Result → Type 0
Tells v (found M n) = v ≡ true
Tells v (failed M n) = v ≡ false
Tells v (out M n) = Unit {0}

-- Each judgement is remembered once.
abbrev pub Once : List Judgement → Type 0
Once [] = Unit {0}
Once (j ∷ M) = (remembers M j ≡ false) × Once M

grown-once : {s w : ℕ} {M N : List Judgement} → Grown s w M N → Once M → Once N
grown-once as_before o = o
grown-once (one_more l f x) o = (f, grown-once x o)

-- From a memory of true judgements (of cover judgements: of those that the search finds, by search-covers), with fuel for the nodes of context and goal:
module _ (room : Room) (n : ℕ) (M : List Judgement) (i : ℕ) (G : List Face) (g : Face) (w : nodes_context G + nodes_face g ≤ n) (t : AllTrue M) where
  -- How it ends.
  abbrev the_result : Result
  the_result = remembered room n M i G g

  -- What it answers the plain search does, unless it is out of room.
  pub remembered-tells : Tells (search_in n G g) the_result
  remembered-tells = go (remembered-fits room (nodes_face g) n M i G g t w (omega arith))
    where
      go : {A : Type 0} {k s a w q : ℕ} {v : Bool} {r : Result} → Fits A k s a w q M i v r → Tells v r
      go (found-fits N m e u x p) = e
      go (failed-fits N m e u x p) = e
      go (out-fits N m e u x p) = tt

  -- With room it answers as the plain search does.
  pub remembered-answer : Always room → answer the_result ≡ search_in n G g
  remembered-answer b = go b (remembered-fits room (nodes_face g) n M i G g t w (omega arith))
    where
      go : {A : Type 0} {k s a w q : ℕ} {v : Bool} {r : Result} → A → Fits A k s a w q M i v r → answer r ≡ v
      go b (found-fits N m e u x p) = sym e
      go b (failed-fits N m e u x p) = sym e
      go b (out-fits N m e u x p) = absurd (e b)

  -- So it answers as the search with no more fuel than nodes.
  pub remembered-search : Always room → answer the_result ≡ search G g
  remembered-search b = remembered-answer b ∙ search_in-search n G g w

  -- What it remembers then is true.
  pub remembered-true : AllTrue (memory the_result)
  remembered-true = go (remembered-fits room (nodes_face g) n M i G g t w (omega arith))
    where
      go : {A : Type 0} {k s a w q : ℕ} {v : Bool} {r : Result} → Fits A k s a w q M i v r → AllTrue (memory r)
      go (found-fits N m e u x p) = u
      go (failed-fits N m e u x p) = u
      go (out-fits N m e u x p) = u

  -- It remembers what it did and new judgements, with no more nodes than context and goal.
  pub remembered-grown : Grown 0 (nodes_context G + nodes_face g) M (memory the_result)
  remembered-grown = go (remembered-fits room (nodes_face g) n M i G g t w (omega arith))
    where
      go : {A : Type 0} {k s a w q : ℕ} {v : Bool} {r : Result} → Fits A k s a w q M i v r → Grown s w M (memory r)
      go (found-fits N m e u x p) = x
      go (failed-fits N m e u x p) = x
      go (out-fits N m e u x p) = x

  -- Each of them once.
  pub remembered-once : Once M → Once (memory the_result)
  remembered-once = grown-once remembered-grown

  -- Where the goal has at most k nodes, a search that finds opens at most k searches for each new judgement.
  pub opened-found : (k : ℕ) → nodes_face g ≤ k → answer the_result ≡ true → opened the_result + k * length M ≤ i + k * length (memory the_result)
  opened-found k d = go (remembered-fits room k n M i G g t w d)
    where
      go : {A : Type 0} {w q : ℕ} {v : Bool} {r : Result} → Fits A k 0 0 w q M i v r → answer r ≡ true → opened r + k * length M ≤ i + k * length (memory r)
      go (found-fits N m e u x p) y = omega arith
      go (failed-fits N m e u x p) y = absurd (false≢true y)
      go (out-fits N m e u x p) y = absurd (false≢true y)

  -- With room each search opens at most that and one for each node of context and goal, less the assumptions.
  pub opened-with-room : (k : ℕ) → nodes_face g ≤ k → Always room → opened the_result + k * length M + length G ≤ i + k * length (memory the_result) + nodes_context G + nodes_face g
  opened-with-room k d b = go b (remembered-fits room k n M i G g t w d)
    where
      go : {A : Type 0} {v : Bool} {r : Result} → A → Fits A k 0 0 (nodes_context G + nodes_face g) (length G) M i v r → opened r + k * length M + length G ≤ i + k * length (memory r) + nodes_context G + nodes_face g
      go b (found-fits N m e u x p) = omega (arith, length-nodes G)
      go b (failed-fits N m e u x p) = omega arith
      go b (out-fits N m e u x p) = absurd (e b)

  -- And out of room at most k more: those for the judgement that there was no room for.
  pub opened-any : (k : ℕ) → nodes_face g ≤ k → opened the_result + k * length M + length G ≤ i + k * length (memory the_result) + k + nodes_context G + nodes_face g
  opened-any k d = go (remembered-fits room k n M i G g t w d)
    where
      go : {A : Type 0} {v : Bool} {r : Result} → Fits A k 0 0 (nodes_context G + nodes_face g) (length G) M i v r → opened r + k * length M + length G ≤ i + k * length (memory r) + k + nodes_context G + nodes_face g
      go (found-fits N m e u x p) = omega (arith, length-nodes G)
      go (failed-fits N m e u x p) = omega arith
      go (out-fits N m e u x p) = omega arith

-- A search from nothing remembered, however it ends, opens at most as many searches as the goal has nodes for each judgement remembered and one more, and one for each node of context and goal.
pub opened-from-nothing : (room : Room) (G : List Face) (g : Face)
    → opened (remembered room (nodes_context G + nodes_face g) [] 0 G g) ≤ nodes_face g * suc (length (memory (remembered room (nodes_context G + nodes_face g) [] 0 G g))) + nodes_context G + nodes_face g
opened-from-nothing room G g = omega (arith, opened-any room (nodes_context G + nodes_face g) [] 0 G g (omega arith) tt (nodes_face g) (omega arith))
