-- How far the limits are, from the tokens of an item that were read.
use Prim.Native.Nat.{ℕ, zero, suc, pred, ◌+◌, ◌≤◌, ◌<◌}
use native.Mathlib.Omega.{arith}
use mathlib.Core.Path.{◌≡◌, refl, sym, ap, ◌∙◌, subst, subst₂}
use mathlib.Core.List.{List, [], ◌∷◌, ◌++◌, cons≢nil, head-eq_of_cons-eq, tail-eq_of_cons-eq, append-nil, append_assoc, append_cancel_right, append-eq-nil_iff}
use Rattle.formula.specs.declared.Sort.{Sort}
use Rattle.formula.specs.declared.Sort.TheVariants.{Faces, Intervals}
use Rattle.formula.specs.Bytes.{Tree, Node, leaf, lit, one, two, node_of, max_nodes}
use Rattle.formula.specs.Answers.{same_bytes}
use Rattle.calculus.specs.Table.{text_bytes}
use Rattle.text.specs.Tokens
use Rattle.text.specs.Tokens.{Token, opening, word}
use Rattle.text.specs.Words.{kind_named, node_named, zero_word, succ-word}
use Rattle.text.specs.Reading.{Item, part, part_list, number, number_list, close, claim, max_dim, run}
use Rattle.grammar.specs.Meeting.{is_head, heads, pairs, EndsIn, ManyNodes, ManySuccs}
use Rattle.grammar.proofs.Advancing.{Cost, node, succ, for-free, for-node, for-succ, free, Move, opens-part, bare-part, leaf-part, lit-part, one-part, two-parts, opens-number, bare-number, zero_number, succ-number, closes, begins, zero-no-succ, word-one}
use Rattle.grammar.proofs.Walking.{lacks-node, lacks-succ, Paying, paid, no_node, no-succ, Counts, Judged, Response, walked}

-- Heads ------------------------------------------------------------------------------------------------

pub heads-append : (s : Sort) (P Q : List Token) → heads s (P ++ Q) ≡ heads s P + heads s Q
unfolding heads
heads-append s [] Q = omega arith
heads-append s (opening ∷ P) Q = heads-append s P Q
heads-append s (Tokens.closing ∷ P) Q = heads-append s P Q
heads-append s (word w ∷ P) Q = let h = heads-append s P Q in omega arith

-- The heads that a token is: one or none.
record Weighs (s : Sort) (k : ℕ) (x : Token) : Type 0 where
  is : heads s (x ∷ []) ≡ k

weighs-more : {s : Sort} {k : ℕ} {x : Token} (P : List Token) → Weighs s k x → heads s (P ++ x ∷ []) ≡ heads s P + k
weighs-more {s} {k} {x} P h = omega (arith, heads-append s P (x ∷ []), h.is)

opening-weighs : {s : Sort} → Weighs s 0 opening
unfolding heads
opening-weighs = record { is = refl }

closing-weighs : {s : Sort} → Weighs s 0 Tokens.closing
unfolding heads
closing-weighs = record { is = refl }

-- Neither z nor s names a node.
zero-weighs : (s : Sort) {w : List ℕ} → w ≡ zero_word → Weighs s 0 (word w)
unfolding heads kind_named node_of same_bytes text_bytes
zero-weighs Faces p = record { is = ap (λ w. heads Faces (word w ∷ [])) p }
zero-weighs Intervals p = record { is = ap (λ w. heads Intervals (word w ∷ [])) p }

succ-weighs : (s : Sort) {w : List ℕ} → w ≡ succ-word → Weighs s 0 (word w)
unfolding heads kind_named node_of same_bytes text_bytes
succ-weighs Faces p = record { is = ap (λ w. heads Faces (word w ∷ [])) p }
succ-weighs Intervals p = record { is = ap (λ w. heads Intervals (word w ∷ [])) p }

-- A word that names a node.
named-weighs : (s : Sort) (w : List ℕ) (x : Node (Tree s)) → node_named s w ≡ x → is_head x ≡ 1 → Weighs s 1 (word w)
unfolding heads
named-weighs s w x p h = let q = ap is_head p in record { is = omega (arith, q, h) }

-- Pairs ( s at the end ---------------------------------------------------------------------------------

pairs-last : (k : ℕ) → pairs (suc k) ≡ pairs k ++ opening ∷ word succ-word ∷ []
pairs-last zero = refl
pairs-last (suc k) = ap (λ l. opening ∷ word succ-word ∷ l) (pairs-last k)

ends_last : {k : ℕ} {P : List Token} (h : EndsIn (suc k) P) → P ≡ (h.front ++ pairs k) ++ opening ∷ word succ-word ∷ []
ends_last {k} h = h.is ∙ ap (λ l. h.front ++ l) (pairs-last k) ∙ sym (append_assoc h.front (pairs k) (opening ∷ word succ-word ∷ []))

no_more : (P : List Token) (x : Token) → P ++ x ∷ [] ≡ [] → ⊥
no_more P x e = cons≢nil ((append-eq-nil_iff {p = P} {q = x ∷ []}).0 e).1

last_one : (P Q : List Token) (x y : Token) → P ++ x ∷ [] ≡ Q ++ y ∷ [] → x ≡ y
last_one [] [] x y e = head-eq_of_cons-eq e
last_one [] (z ∷ Q) x y e = absurd (no_more Q y (sym (tail-eq_of_cons-eq e)))
last_one (z ∷ P) [] x y e = absurd (no_more P x (tail-eq_of_cons-eq e))
last_one (z ∷ P) (w ∷ Q) x y e = last_one P Q x y (tail-eq_of_cons-eq e)

-- Only s ends a pair.
pub ends-succ : {k : ℕ} (P : List Token) (x : Token) → EndsIn (suc k) (P ++ x ∷ []) → x ≡ word succ-word
ends-succ {k} P x h = last_one P ((h.front ++ pairs k) ++ opening ∷ []) x (word succ-word) (ends_last h ∙ sym (append_assoc (h.front ++ pairs k) (opening ∷ []) (word succ-word ∷ [])))

-- The tokens end with just so many pairs.
record Trail (j : ℕ) (P : List Token) : Type 0 where
  has : EndsIn j P
  most : (k : ℕ) → EndsIn k P → k ≤ j

none-trail : (P : List Token) → ((k : ℕ) → EndsIn (suc k) P → ⊥) → Trail 0 P
none-trail P h = record { has = record { front = P; is = sym (append-nil P) }; most = bound }
  where
    bound : (k : ℕ) → EndsIn k P → k ≤ 0
    bound zero e = omega arith
    bound (suc k) e = absurd (h k e)

trail-none : Trail 0 []
trail-none = none-trail [] (λ k e. cons≢nil ((append-eq-nil_iff {p = e.front} {q = pairs (suc k)}).0 (sym e.is)).1)

trail-end : (P : List Token) {x : Token} → (x ≡ word succ-word → ⊥) → Trail 0 (P ++ x ∷ [])
trail-end P {x} h = none-trail (P ++ x ∷ []) (λ k e. h (ends-succ P x e))

-- A parenthesis, z, or a head ends no pair.
opening-no-succ : opening ≡ word succ-word → ⊥
opening-no-succ p = let z : ◌≡◌ {A = ℕ} 0 1 = cc in omega arith

closing-no-succ : Tokens.closing ≡ word succ-word → ⊥
closing-no-succ p = let z : ◌≡◌ {A = ℕ} 0 1 = cc in omega arith

pub succ-no-head : (s : Sort) {x : Token} → x ≡ word succ-word → heads s (x ∷ []) ≡ 0
succ-no-head s p = ap (λ x. heads s (x ∷ [])) p ∙ (succ-weighs s refl).is

pair_ends : {j : ℕ} {P : List Token} → EndsIn j P → EndsIn (suc j) ((P ++ opening ∷ []) ++ word succ-word ∷ [])
pair_ends {j} {P} h = record { front = h.front; is = append_assoc P (opening ∷ []) (word succ-word ∷ []) ∙ ap (λ l. l ++ opening ∷ word succ-word ∷ []) h.is ∙ append_assoc h.front (pairs j) (opening ∷ word succ-word ∷ []) ∙ ap (λ l. h.front ++ l) (sym (pairs-last j)) }

trail-pair : {j : ℕ} {P : List Token} → Trail j P → Trail (suc j) ((P ++ opening ∷ []) ++ word succ-word ∷ [])
trail-pair {j} {P} h = record { has = pair_ends h.has; most = bound }
  where
    bound : (k : ℕ) → EndsIn k ((P ++ opening ∷ []) ++ word succ-word ∷ []) → k ≤ suc j
    bound zero e = omega arith
    bound (suc k) e = let q = append_cancel_right P (e.front ++ pairs k) (opening ∷ word succ-word ∷ []) (sym (append_assoc P (opening ∷ []) (word succ-word ∷ [])) ∙ ends_last e) in omega (arith, h.most k (record { front = e.front; is = q }))

-- Where the walk stands in a formula or a number -------------------------------------------------------

-- What is expected apart from a number or the inside of a list: parts, where there can be some, and closing parentheses.
data Inner (s : Sort) (Parts : Type 0) : List Item → Type 0 where
  none : Inner s Parts []
  a-part : {I : List Item} → Parts → Inner s Parts I → Inner s Parts (part s ∷ I)
  a-close : {I : List Item} → Inner s Parts I → Inner s Parts (close ∷ I)

-- Where a number is expected, the s that were read of it and those that may still come are m.
data Place (s : Sort) (m : ℕ) (Parts : Type 0) : List Item → List Token → Type 0 where
  plain : {I : List Item} {P : List Token} → Inner s Parts I → Trail 0 P → Place s m Parts I P
  in_list : {I : List Item} {P : List Token} → Parts → Inner s Parts I → Trail 0 P → Place s m Parts (part_list s ∷ I) P
  at-number : {I : List Item} {P : List Token} {j k : ℕ} → Inner s Parts I → Trail j P → j + k ≡ m → Place s m Parts (number k ∷ I) P
  in-number : {I : List Item} {P Q : List Token} {j k : ℕ} → Inner s Parts I → Trail j Q → j + k ≡ m → P ≡ Q ++ opening ∷ [] → Place s m Parts (number_list k ∷ I) P

-- The heads that were read and the nodes left are N.
record Tallies (s : Sort) (m N : ℕ) (Parts : Type 0) (I : List Item) (P : List Token) (n : ℕ) : Type 0 where
  place : Place s m Parts I P
  count : heads s P + n ≡ N

place-small : {s : Sort} {m : ℕ} {Parts : Type 0} {I : List Item} {P : List Token} → Place s m Parts I P → EndsIn (suc m) P → ⊥
place-small {m = m} (plain g t) e = omega (arith, t.most (suc m) e)
place-small {m = m} (in_list p g t) e = omega (arith, t.most (suc m) e)
place-small {m = m} (at-number {j = j} {k} g t q) e = omega (arith, t.most (suc m) e, q)
place-small {m = m} (in-number {Q = Q} g t q p) e = opening-no-succ (ends-succ Q opening (subst (EndsIn (suc m)) p e))

module _ {s : Sort} {m N : ℕ} {Parts : Type 0} {M : List Token → Type 0} (dims : Parts → m ≡ max_dim) (many : (P : List Token) → Parts → N < heads s P → M P) where
  free-paid : {I : List Item} (P : List Token) {x : Token} {n : ℕ} → heads s P + n ≡ N → Weighs s 0 x → Place s m Parts I (P ++ x ∷ []) → Paying (Tallies s m N Parts) M (EndsIn (suc m)) I (P ++ x ∷ []) free n
  free-paid P e w p = paid for-free (record { place = p; count = omega (arith, weighs-more P w, e) })

  node-paid : {I : List Item} (P : List Token) {x : Token} (n : ℕ) → heads s P + n ≡ N → Parts → Weighs s 1 x → Place s m Parts I (P ++ x ∷ []) → Paying (Tallies s m N Parts) M (EndsIn (suc m)) I (P ++ x ∷ []) node n
  node-paid P {x} zero e q w p = no_node lacks-node (many (P ++ x ∷ []) q (omega (arith, weighs-more P w, e)))
  node-paid P (suc n) e q w p = paid for-node (record { place = p; count = omega (arith, weighs-more P w, e) })

  head-paid : {I : List Item} (P : List Token) {w : List ℕ} {n : ℕ} → heads s P + n ≡ N → Parts → Weighs s 1 (word w) → (Trail 0 (P ++ word w ∷ []) → Place s m Parts I (P ++ word w ∷ [])) → Paying (Tallies s m N Parts) M (EndsIn (suc m)) I (P ++ word w ∷ []) node n
  head-paid P {w} {n} e q h p = node-paid P n e q h (p (trail-end P (λ p. omega (arith, h.is, succ-no-head s p))))

  zero-paid : {I : List Item} (P : List Token) {w : List ℕ} {n : ℕ} → heads s P + n ≡ N → w ≡ zero_word → Inner s Parts I → Paying (Tallies s m N Parts) M (EndsIn (suc m)) I (P ++ word w ∷ []) free n
  zero-paid P e z g = free-paid P e (zero-weighs s z) (plain g (trail-end P (λ p. zero-no-succ z (word-one p))))

  succ-paid : {I : List Item} {P Q : List Token} {w : List ℕ} {j : ℕ} (k n : ℕ) → heads s P + n ≡ N → w ≡ succ-word → Inner s Parts I → Trail j Q → j + k ≡ m → P ≡ Q ++ opening ∷ [] → Paying (Tallies s m N Parts) M (EndsIn (suc m)) (number (pred k) ∷ close ∷ I) (P ++ word w ∷ []) (succ k) n
  succ-paid {P = P} {w = w} {j = j} zero n e z g t q p = no-succ lacks-succ (subst (λ k. EndsIn (suc k) (P ++ word w ∷ [])) (omega (arith, q)) (subst₂ (λ P w. EndsIn (suc j) (P ++ word w ∷ [])) (sym p) (sym z) (pair_ends t.has)))
  succ-paid {P = P} {j = j} (suc k) n e z g t q p = paid for-succ (record { place = at-number {k = k} (a-close g) (subst₂ (λ P w. Trail (suc j) (P ++ word w ∷ [])) (sym p) (sym z) (trail-pair t)) (omega (arith, q)); count = omega (arith, weighs-more P (succ-weighs s z), e) })

  pay-place : {i : Item} {x : Token} {I adds : List Item} {c : Cost} {P : List Token} {n : ℕ} → heads s P + n ≡ N → Place s m Parts (i ∷ I) P → Move i x adds c → Paying (Tallies s m N Parts) M (EndsIn (suc m)) (adds ++ I) (P ++ x ∷ []) c n
  pay-place {P = P} e (plain (a-part q g) t) opens-part = free-paid P e opening-weighs (in_list q g (trail-end P opening-no-succ))
  pay-place {P = P} e (plain (a-part q g) t) (bare-part {w = w} p) = head-paid P e q (named-weighs s w (leaf _) p refl) (plain g)
  pay-place {P = P} e (plain (a-close g) t) closes = free-paid P e closing-weighs (plain g (trail-end P closing-no-succ))
  pay-place {P = P} e (in_list q g t) (leaf-part {w = w} p) = head-paid P e q (named-weighs s w (leaf _) p refl) (plain (a-close g))
  pay-place {P = P} e (in_list q g t) (lit-part {w = w} p) = head-paid P e q (named-weighs s w (lit _) p refl) (λ t. at-number (a-close g) t (omega (arith, dims q)))
  pay-place {P = P} e (in_list q g t) (one-part {w = w} p) = head-paid P e q (named-weighs s w (one _) p refl) (plain (a-part q (a-close g)))
  pay-place {P = P} e (in_list q g t) (two-parts {w = w} p) = head-paid P e q (named-weighs s w (two _) p refl) (plain (a-part q (a-part q (a-close g))))
  pay-place {P = P} e (at-number g t q) opens-number = free-paid P e opening-weighs (in-number g t q refl)
  pay-place {P = P} e (at-number g t q) (bare-number z) = zero-paid P e z g
  pay-place {P = P} e (in-number g t q p) (zero_number z) = zero-paid P e z (a-close g)
  pay-place {P = P} {n = n} e (in-number {k = k} g t q p) (succ-number z) = succ-paid k n e z g t q p

  counts : ((P : List Token) → M P → N < heads s P) → Counts (Tallies s m N Parts) M (EndsIn (suc m))
  counts few = record {
    few = λ {I} {P} {n} h o. omega (arith, few P o, h.count);
    small = λ h e. place-small h.place e;
    pay = λ h o. pay-place h.count h.place o;
  }

-- From the start of a formula, and of a number that may have m s.
pub formula-walked : (s : Sort) (K : List Item) {N D : List Token → Type 0} → Judged K N D → (ts : List Token) → Response (part s) K (ManyNodes s) N ManySuccs D ts (run ts max_nodes (part s ∷ K))
unfolding heads
formula-walked s K h ts = walked (counts {Parts = Unit {0}} (λ u. refl) (λ P u m. m) (λ P m. m)) (part s) K h max_nodes ts (record { place = plain (a-part tt none) trail-none; count = omega arith })

pub number-walked : (m : ℕ) (K : List Item) {N D : List Token → Type 0} → Judged K N D → (n : ℕ) (ts : List Token) → Response (number m) K (λ P. ⊥) N (EndsIn (suc m)) D ts (run ts n (number m ∷ K))
unfolding heads
number-walked m K h n ts = walked (counts {s = Faces} {N = n} {Parts = ⊥} (λ u. absurd u) (λ P u m. u) (λ P m. absurd m)) (number m) K h n ts (record { place = at-number none trail-none (omega arith); count = omega arith })

-- From the start of a claim.
data AtClaim : List Item → List Token → ℕ → Type 0 where
  first : {n : ℕ} → AtClaim (claim ∷ []) [] n
  behind : {P : List Token} {n : ℕ} → AtClaim [] P n

claim-pay : {i : Item} {x : Token} {I adds : List Item} {c : Cost} {P : List Token} {n : ℕ} → AtClaim (i ∷ I) P n → Move i x adds c → Paying AtClaim (λ P. ⊥) (λ P. ⊥) (adds ++ I) (P ++ x ∷ []) c n
claim-pay first (begins z) = paid for-free behind

pub claim-walked : (K : List Item) {N D : List Token → Type 0} → Judged K N D → (n : ℕ) (ts : List Token) → Response claim K (λ P. ⊥) N (λ P. ⊥) D ts (run ts n (claim ∷ K))
claim-walked K h n ts = walked (record { few = λ a e. e; small = λ a e. e; pay = claim-pay }) claim K h n ts first
