-- The questions before the search.
use Prim.Native.Nat.{ℕ, zero, suc, ◌+◌, ◌≤◌, ◌<◌, max}
use native.Mathlib.Omega.{arith}
use mathlib.Core.Path.{◌≡◌, refl, sym, ap, ap₂, ◌∙◌, subst}
use mathlib.Core.Bool.{Bool, true, false, ◌&&◌}
use mathlib.Core.Option.{none, some, some-injective}
use mathlib.Core.List.{List, [], ◌∷◌, ◌++◌, append-nil}
use lib.Dec.{leb}
use lib.ListN.{length, get_or, take, drop, replicate, take-append-drop, length-replicate}
use lib.Seq.{sets, sets-eq, length-take-le}
use borrow.Author.Tests.{leb-true, le-leb, lt-leb}
use Rattle.refusals.specs.declared.Refusal.{Refusal}
use Rattle.refusals.specs.declared.Refusal.TheVariants.{LargeDimension, ShortOutput, NotBelow, Implied}
use Rattle.std.specs.Prelude.{Option, Some, None, Result, Ok, Err}
use Rattle.refusals.specs.Refusals.{earlier, map, of_one, of_two}
use Rattle.formula.specs.Formula.{Face, Entails, holds}
use Rattle.formula.specs.Bytes.{encode_face, bound_face, read_all, max_bound}
use Rattle.formula.specs.declared.Sort.TheVariants.{Faces}
use Rattle.formula.specs.declared.Size.{Size}
use Rattle.formula.specs.Answers.{pick, size_of, operand}
use Rattle.formula.proofs.Reading.{read_all-encode}
use Rattle.formula.proofs.Operands.{Fitted, sized-fits, sized-refused, Opened, opened, opened-limits}
use Rattle.formula.proofs.Nodes.{len_short}
use Rattle.assignments.specs.Assignments.{Assigns, determined, Refutes, Least}
use Rattle.assignments.proofs.Ordering.{determined-long}
use Rattle.assignments.proofs.Entailing.{bytes_of, bytes-assigns, holds-bytes}
use Rattle.needs.specs.States.{any, Fits as Allows, undetermined, free, Within}
use Rattle.needs.specs.Places.{Stands}
use Rattle.needs.specs.Marking.{Marks}
use Rattle.counterexample.specs.Answers.{Claim, numbered, admitted, Found, before, sought, ShowsFor, Shows}
use Rattle.counterexample.specs.Asking.{Sides, Sought, Faced, questioned}
use Rattle.counterexample.specs.Exploring.{limit, Kept, unchanged, better, Explored, Ready, Explores}

-- ---- a refusal leaves every byte

pub refused-shows : {d : ℕ} {out : List ℕ} {x : Result Claim Refusal} (e : Refusal) → x ≡ Err e → ShowsFor d out x (Err e) out
refused-shows {d} {out} e h = record { found = Err e; is = subst (λ x. Found d x (Err e)) (sym h) before; equal = refl }

-- ---- the search

-- A face has one encoding.
same-face : (x y : Face) → encode_face x ≡ encode_face y → x ≡ y
same-face x y e = some-injective _ _ (sym (read_all-encode Faces x) ∙ ap (read_all Faces) e ∙ read_all-encode Faces y)

abbrev pub stands-front : (f : List ℕ) (t : Face) → f ≡ encode_face t → Stands f 0
stands-front f t e = record { face = t; rest = []; bytes = e ∙ sym (append-nil (encode_face t)) }

-- So many equal bytes.
abbrev pub bytes : ℕ → ℕ → List ℕ
bytes n v = replicate n v

zeros : (n i : ℕ) → get_or (bytes n 0) i 0 ≡ 0
zeros zero i = refl
zeros (suc n) zero = refl
zeros (suc n) (suc i) = zeros n i

-- No marks at all are right.
pub blank : (f : List ℕ) (n : ℕ) → Marks f (bytes n 0)
blank f n = record { apart = λ i a b rest e p. absurd (omega (arith, e, zeros n i)) }

-- The state in which nothing is chosen.
opens : (n d : ℕ) → d ≤ n → take d (bytes n 2) ≡ bytes d 2
opens n zero h = refl
opens zero (suc d) h = absurd (omega (arith, h))
opens (suc n) (suc d) h = ap (λ l. 2 ∷ l) (opens n d (omega (arith, h)))

none-chosen : (d : ℕ) → determined (bytes d 2) ≡ 0
unfolding determined
none-chosen zero = refl
none-chosen (suc d) = omega (arith, none-chosen d)

all-allowed : (d : ℕ) (τ : List ℕ) → length τ ≡ d → ((n : ℕ) → get_or τ n 2 ≤ 2) → Within (bytes d 2) τ
all-allowed zero [] e h n = undetermined (omega arith) refl
all-allowed zero (v ∷ τ) e h n = absurd (omega (arith, e))
all-allowed (suc d) [] e h n = absurd (omega (arith, e))
all-allowed (suc d) (v ∷ τ) e h zero = byte v (h 0)
  where
    byte : (v : ℕ) → v ≤ 2 → Allows 2 v
    byte zero k = free (any refl (omega arith))
    byte (suc zero) k = free (any refl (omega arith))
    byte (suc (suc zero)) k = undetermined (omega arith) refl
    byte (suc (suc (suc v))) k = absurd (omega (arith, k))
all-allowed (suc d) (v ∷ τ) e h (suc n) = all-allowed d τ (omega (arith, e)) (λ m. h (suc m)) n

module _ (d : ℕ) (few : d ≤ 255) where
  abbrev pub start : List ℕ
  start = take d (bytes 255 2)

  start_is : start ≡ bytes d 2
  start_is = opens 255 d few

  pub start-long : length start ≡ d
  start-long = ap length start_is ∙ length-replicate d 2

  start-chosen : determined start ≡ 0
  start-chosen = ap determined start_is ∙ none-chosen d

  start-allows : (τ : List ℕ) → Assigns d τ → Within start τ
  start-allows τ a = subst (λ S. Within S τ) (sym start_is) (all-allowed d τ a.long a.each)

  pub start-ready : {a b out : List ℕ} → Sought d a b out → Ready a b start 0 (take d out) None
  start-ready {a} {b} {out} s = record {
    left = record { stands = stands-front a s.claim.left s.left; low = omega (arith, s.low, start-long) };
    goal = record { stands = stands-front b s.claim.goal s.goal; low = omega (arith, s.high, start-long) };
    counted = sym start-chosen;
    even = length-take-le d out s.fits ∙ sym start-long;
    narrow = omega (arith, start-long, few);
    few = omega (arith, start-long, few);
  }

  module _ {a b out : List ℕ} (s : Sought d a b out) {c : Option ℕ} {S' B' : List ℕ} (X : Explores a b start None (take d out) c S' B') where
    explored : (k : Claim) → a ≡ encode_face k.left → b ≡ encode_face k.goal → Explored d k.left k.goal start None (take d out) c B'
    explored k p q = subst (λ n. Explored n k.left k.goal start None (take d out) c B') start-long (X.it k.left k.goal [] [] (p ∙ sym (append-nil (encode_face k.left))) (q ∙ sym (append-nil (encode_face k.goal))))

    -- The faces are those that were asked about.
    low-left : (k : Claim) → a ≡ encode_face k.left → bound_face k.left ≤ d
    low-left k p = subst (λ t. bound_face t ≤ d) (same-face s.claim.left k.left (sym s.left ∙ p)) s.low

    low-goal : (k : Claim) → b ≡ encode_face k.goal → bound_face k.goal ≤ d
    low-goal k q = subst (λ t. bound_face t ≤ d) (same-face s.claim.goal k.goal (sym s.goal ∙ q)) s.high

    -- Nothing was found, and the output is as it was.
    none_left : (k : Claim) → a ≡ encode_face k.left → b ≡ encode_face k.goal → c ≡ None → Entails k.left k.goal
    none_left k p q h σ y = go (holds k.goal σ) refl
      where
        τ : List ℕ
        τ = bytes_of d σ

        go : (t : Bool) → holds k.goal σ ≡ t → t ≡ true
        go true e = refl
        go false e =
            let r : Refutes d k.left k.goal τ = record { bytes = bytes-assigns d σ; satisfied = holds-bytes k.left d σ (low-left k p) ∙ y; missed = holds-bytes k.goal d σ (low-goal k q) ∙ e } in
            absurd (omega (arith, ap (limit d) h, ((explored k p q).beaten τ r (start-allows τ r.bytes)).fewest, determined-long τ, (bytes-assigns d σ).long))

    unwritten : c ≡ None → B' ++ drop d out ≡ out
    unwritten h = go (explored s.claim s.left s.goal).kept
      where
        go : Kept d s.claim.left s.claim.goal None (take d out) c B' → B' ++ drop d out ≡ out
        go (unchanged p q) = ap (λ l. l ++ drop d out) q ∙ take-append-drop d out
        go (better r e) = absurd (let k : ◌≡◌ {A = ℕ} 0 1 = cc in omega arith)

    pub none_found : c ≡ None → Faced d a b out Ok (Err Implied) (B' ++ drop d out)
    none_found h = record {
      it = λ k p q. record {
        found = Ok none;
        is = sought none (none_left k p q h);
        equal = ap (λ l. record { answer = Err Implied; output = l }) (sym (unwritten h));
      };
    }

    -- The least was found.
    least-left : {n : ℕ} (k : Claim) → a ≡ encode_face k.left → b ≡ encode_face k.goal → c ≡ Some n → Least d k.left k.goal B'
    least-left {n} k p q h = go (explored k p q) (explored k p q).kept
      where
        go : Explored d k.left k.goal start None (take d out) c B' → Kept d k.left k.goal None (take d out) c B' → Least d k.left k.goal B'
        go x (unchanged i j) = absurd (let l : ◌≡◌ {A = ℕ} 0 1 = cc in omega arith)
        go x (better r e) = record {
          refutes = r;
          fewest = λ m f. omega (arith, ap (limit d) e, (x.beaten m f (start-allows m f.bytes)).fewest);
          first = λ m f i g. (x.beaten m f (start-allows m f.bytes)).first (i ∙ sym (ap (limit d) e)) g;
        }

    pub least-found : {n : ℕ} → c ≡ Some n → Faced d a b out Ok (Ok d) (B' ++ drop d out)
    least-found h = record {
      it = λ k p q. record {
        found = Ok (some B');
        is = sought (some B') (least-left k p q h);
        equal = ap (λ l. record { answer = Ok d; output = l }) (stored (least-left k p q h).refutes.bytes.long);
      };
    }
      where
        stored : length B' ≡ d → sets out 0 B' ≡ B' ++ drop d out
        stored l = sets-eq B' out 0 (omega (arith, l, s.fits)) ∙ ap (λ n. B' ++ drop n out) (let e : 0 + length B' ≡ d = omega (arith, l) in e)

-- ---- the questions before it

-- What they come to, by their tests.
by_tests : (d : ℕ) (out : List ℕ) (c : Claim) {x y z : Bool} → leb d max_bound ≡ x → leb d (length out) ≡ y → (leb (bound_face c.left) d && leb (bound_face c.goal) d) ≡ z
    → questioned d out c ≡ pick x (pick y (pick z (Ok c) (Err NotBelow)) (Err ShortOutput)) (Err LargeDimension)
by_tests d out c {x} {y} {z} i j k =
    ap (λ t. of_one (admitted d out) (pick t (Ok c) (Err LargeDimension))) i ∙ go x
  where
    go : (x : Bool) → of_one (admitted d out) (pick x (Ok c) (Err LargeDimension)) ≡ pick x (pick y (pick z (Ok c) (Err NotBelow)) (Err ShortOutput)) (Err LargeDimension)
    go true = ap₂ (λ y z. pick y (pick z (Ok c) (Err NotBelow)) (Err ShortOutput)) j k
    go false = refl

both-low : (m n d : ℕ) → max m n ≤ d → (leb m d && leb n d) ≡ true
both-low m n d h = rw (le-leb m d (omega (arith, h)), le-leb n d (omega (arith, h)))

not_low : (m n d : ℕ) → d < max m n → (leb m d && leb n d) ≡ false
not_low m n d h = go (leb m d) (leb n d) refl refl
  where
    go : (x y : Bool) → leb m d ≡ x → leb n d ≡ y → (x && y) ≡ false
    go false y i j = refl
    go true false i j = refl
    go true true i j = absurd (omega (arith, h, leb-true m d i, leb-true n d j))

module _ {a b : List ℕ} {n : ℕ} (s : Sides a b n) where
  bound-is : (c : Claim) → a ≡ encode_face c.left → b ≡ encode_face c.goal → n ≡ max (bound_face c.left) (bound_face c.goal)
  bound-is c p q = s.bound ∙ ap₂ (λ x y. max (bound_face x) (bound_face y)) (same-face s.claim.left c.left (sym s.left ∙ p)) (same-face s.claim.goal c.goal (sym s.goal ∙ q))

module _ {a b out : List ℕ} {d n : ℕ} (s : Sides a b n) where
  pub large-faced : 255 < d → Faced d a b out (questioned d out) (Err LargeDimension) out
  large-faced h = record { it = λ c p q. refused-shows LargeDimension (by_tests d out c (lt-leb d max_bound h) refl refl) }

  module _ (f : d ≤ 255) where
    pub short-faced : length out < d → Faced d a b out (questioned d out) (Err ShortOutput) out
    short-faced h = record { it = λ c p q. refused-shows ShortOutput (by_tests d out c (le-leb d max_bound f) (lt-leb d (length out) h) refl) }

    module _ (r : d ≤ length out) where
      pub beyond-faced : d < n → Faced d a b out (questioned d out) (Err NotBelow) out
      beyond-faced h = record { it = λ c p q. refused-shows NotBelow (by_tests d out c (le-leb d max_bound f) (le-leb d (length out) r) (not_low (bound_face c.left) (bound_face c.goal) d (omega (arith, h, bound-is s c p q)))) }

      pub admitted-faced : n ≤ d → {x : Result ℕ Refusal} {out' : List ℕ} → Faced d a b out Ok x out' → Faced d a b out (questioned d out) x out'
      admitted-faced h {x} {out'} g = record {
        it = λ c p q.
            subst (λ y. ShowsFor d out y x out') (sym (by_tests d out c (le-leb d max_bound f) (le-leb d (length out) r) (both-low (bound_face c.left) (bound_face c.goal) d (omega (arith, h, bound-is s c p q))))) (g.it c p q);
      }

-- ---- both operands

module _ (d : ℕ) (a b out : List ℕ) where
  abbrev answers : Result Face Refusal → Result Face Refusal → Result Claim Refusal
  answers x y = of_one (admitted d out) (of_two (numbered d) x y)

  pub first-refused : {e : Refusal} {y : Size} → Err e ≡ map (size_of Faces) (operand Faces a) → Ok y ≡ map (size_of Faces) (operand Faces b) → Shows d a b out (Err e) out
  first-refused {e} p q = refused-shows e (ap₂ answers (sized-refused Faces (operand Faces a) p) (sized-fits Faces (operand Faces b) q).is)

  pub second-refused : {x : Size} {e : Refusal} → Ok x ≡ map (size_of Faces) (operand Faces a) → Err e ≡ map (size_of Faces) (operand Faces b) → Shows d a b out (Err e) out
  second-refused {e = e} p q = refused-shows e (ap₂ answers (sized-fits Faces (operand Faces a) p).is (sized-refused Faces (operand Faces b) q))

  pub both-refused : {e q r : Refusal} → Err e ≡ map (size_of Faces) (operand Faces a) → Err q ≡ map (size_of Faces) (operand Faces b) → r ≡ earlier e q → Shows d a b out (Err r) out
  both-refused {r = r} i j h = refused-shows r (ap₂ answers (sized-refused Faces (operand Faces a) i) (sized-refused Faces (operand Faces b) j) ∙ ap Err (sym h))

  module _ {x y : Size} (i : Ok x ≡ map (size_of Faces) (operand Faces a)) (j : Ok y ≡ map (size_of Faces) (operand Faces b)) where
    abbrev A : Fitted Faces (operand Faces a) x
    A = sized-fits Faces (operand Faces a) i

    abbrev G : Fitted Faces (operand Faces b) y
    G = sized-fits Faces (operand Faces b) j

    abbrev claimed : Claim
    claimed = record { left = A.tree; goal = G.tree }

    abbrev left-opened : Opened Faces a A.tree
    left-opened = opened Faces a A.tree A.is

    abbrev goal-opened : Opened Faces b G.tree
    goal-opened = opened Faces b G.tree G.is

    pub both-sides : {n : ℕ} → n ≡ max x.bound y.bound → Sides a b n
    both-sides h = record {
      claim = claimed;
      left = left-opened.bytes;
      goal = goal-opened.bytes;
      bound = h ∙ ap₂ (λ (x y : Size). max x.bound y.bound) (sym A.size) (sym G.size);
      short = omega (arith, ap length left-opened.bytes, len_short Faces A.tree, (opened-limits Faces left-opened).0);
    }

    pub both-show : {v : Result ℕ Refusal} {out' : List ℕ} → Faced d a b out (questioned d out) v out' → Shows d a b out v out'
    both-show {v} {out'} f = subst (λ z. ShowsFor d out z v out') (sym (ap₂ answers A.is G.is)) (f.it claimed left-opened.bytes goal-opened.bytes)
