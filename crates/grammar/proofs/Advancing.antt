-- One token of the reader: either no text of the grammar goes on with it, or what is expected changes, and how.
use Prim.Native.Nat.{ℕ, zero, suc, pred, ◌+◌, ◌≤◌}
use native.Mathlib.Omega.{arith}
use mathlib.Core.Path.{◌≡◌, refl, sym, ap, ap₂, ◌∙◌, subst}
use mathlib.Core.Bool.{Bool, true, false}
use mathlib.Core.List.{List, [], ◌∷◌, ◌++◌, nil≢cons, head-eq_of_cons-eq, tail-eq_of_cons-eq}
use Rattle.formula.specs.declared.Sort.{Sort}
use Rattle.formula.specs.Bytes.{Tree, Node, leaf, lit, one, two, bad, nodes, bound, max_nodes, max_bound}
use Rattle.formula.specs.Answers.{pick, same_bytes}
use Rattle.formula.proofs.Nodes.{Makes, made_as}
use Rattle.formula.proofs.ByteLaws.{same_true, same_refl}
use Rattle.calculus.specs.Table.{text_bytes}
use Rattle.refusals.specs.declared.Refusal.TheVariants.{LargeDimension, NotAccepted}
use Rattle.refusals.specs.Refusals.{map}
use Rattle.refusals.specs.declared.Refusal.{Refusal}
use Rattle.std.specs.Prelude.{Option, Some, None, Result, Ok, Err}
use Rattle.text.specs.Tokens
use Rattle.text.specs.Tokens.{Token, opening, word}
use Rattle.text.specs.Words.{kind_named, node_if, node_named, zero_word, succ-word, entails-word}
use Rattle.text.specs.Grammar.{Number, bare-zero, zero-list, succ-list, Formula, bare-leaf, leaf-list, lit-list, one_list, two-list}
use Rattle.text.specs.Reading.{Item, formula, part, part_list, number, number_list, close, claim, Values, counted, bare_node, max_dim, list_node, succeeded, token, run}

-- What is expected, by the grammar and by the limits ---------------------------------------------------

-- First one thing, and the other behind it.
pub record Then (P Q : List Token → Type 0) : Type 0 where
  pub behind : List Token
  pub first : P behind
  pub second : Q behind

-- The tokens are what is expected.
abbrev pub Follows : (K : List Item) → Values K → List Token → Type 0
Follows [] v ts = ts ≡ []
Follows (formula s ∷ K) v ts = Then (Formula s v.0 ts) (Follows K v.1)
Follows (part s ∷ K) v ts = Then (Formula s v.0 ts) (Follows K v.1)
Follows (part_list s ∷ K) v ts = Then (Formula s v.0 (opening ∷ ts)) (Follows K v.1)
Follows (number k ∷ K) v ts = Then (Number v.0 ts) (Follows K v.1)
Follows (number_list k ∷ K) v ts = Then (Number v.0 (opening ∷ ts)) (Follows K v.1)
Follows (close ∷ K) v ts = Then (λ us. ts ≡ Tokens.closing ∷ us) (Follows K v)
Follows (claim ∷ K) v ts = Then (λ us. ts ≡ word entails-word ∷ us) (Follows K v)

-- A formula of at most n nodes, and what the rest of them is for.
pub record Left (n : ℕ) (s : Sort) (t : Tree s) (P : ℕ → Type 0) : Type 0 where
  pub rest : ℕ
  pub spent : rest + nodes s t ≡ n
  pub low : bound s t ≤ max_bound
  pub then : P rest

-- What is read keeps the limits.
abbrev pub Fits : ℕ → (K : List Item) → Values K → Type 0
Fits n [] v = Unit {0}
Fits n (formula s ∷ K) v = Left max_nodes s v.0 (λ m. Fits m K v.1)
Fits n (part s ∷ K) v = Left n s v.0 (λ m. Fits m K v.1)
Fits n (part_list s ∷ K) v = Left n s v.0 (λ m. Fits m K v.1)
Fits n (number k ∷ K) v = (v.0 ≤ k) × Fits n K v.1
Fits n (number_list k ∷ K) v = (v.0 ≤ k) × Fits n K v.1
Fits n (close ∷ K) v = Fits n K v
Fits n (claim ∷ K) v = Fits n K v

-- What a token costs: nothing, a node, or one of k more s; or that, once the nodes are counted anew.
pub data Cost : Type 0 where
  free node : Cost
  succ : ℕ → Cost
  anew : Cost → Cost

abbrev pub spend : {A : Type 0} → Cost → ℕ → (ℕ → Result A Refusal) → Result A Refusal
spend free n k = k n
spend node n k = counted n k
spend (succ zero) n k = Err LargeDimension
spend (succ (suc j)) n k = k n
spend (anew c) n k = spend c max_nodes k

-- The cost can be paid, and leaves so many nodes.
pub data Spends : Cost → ℕ → ℕ → Type 0 where
  for-free : {n : ℕ} → Spends free n n
  for-node : {n : ℕ} → Spends node (suc n) n
  for-succ : {j n : ℕ} → Spends (succ (suc j)) n n
  for-anew : {c : Cost} {n m : ℕ} → Spends c max_nodes m → Spends (anew c) n m

-- What is paid, with what it leaves.
pub record Paid (c : Cost) (n : ℕ) (P : ℕ → Type 0) : Type 0 where
  pub left : ℕ
  pub spends : Spends c n left
  pub then : P left

pub spend-paid : {A : Type 0} {c : Cost} {n m : ℕ} (k : ℕ → Result A Refusal) → Spends c n m → spend c n k ≡ k m
spend-paid k for-free = refl
spend-paid k for-node = refl
spend-paid k for-succ = refl
spend-paid k (for-anew h) = spend-paid k h

-- One token --------------------------------------------------------------------------------------------

-- What was read behind the token.
pub record Back {A B : Type 0} (f : A → B) (P : A → Type 0) (y : B) : Type 0 where
  pub value : A
  pub holds : P value
  pub gives : f value ≡ y

-- How what is expected changes: the item in front gives way to others, for a cost.
pub data Move : Item → Token → List Item → Cost → Type 0 where
  opens-part : {s : Sort} → Move (part s) opening (part_list s ∷ []) free
  bare-part : {s : Sort} {w : List ℕ} {t : Tree s} → node_named s w ≡ leaf t → Move (part s) (word w) [] node
  leaf-part : {s : Sort} {w : List ℕ} {t : Tree s} → node_named s w ≡ leaf t → Move (part_list s) (word w) (close ∷ []) node
  lit-part : {s : Sort} {w : List ℕ} {g : ℕ → Tree s} → node_named s w ≡ lit g → Move (part_list s) (word w) (number max_dim ∷ close ∷ []) node
  one-part : {s : Sort} {w : List ℕ} {g : Tree s → Tree s} → node_named s w ≡ one g → Move (part_list s) (word w) (part s ∷ close ∷ []) node
  two-parts : {s : Sort} {w : List ℕ} {g : Tree s → Tree s → Tree s} → node_named s w ≡ two g → Move (part_list s) (word w) (part s ∷ part s ∷ close ∷ []) node
  opens-number : {k : ℕ} → Move (number k) opening (number_list k ∷ []) free
  bare-number : {k : ℕ} {w : List ℕ} → w ≡ zero_word → Move (number k) (word w) [] free
  zero_number : {k : ℕ} {w : List ℕ} → w ≡ zero_word → Move (number_list k) (word w) (close ∷ []) free
  succ-number : {k : ℕ} {w : List ℕ} → w ≡ succ-word → Move (number_list k) (word w) (number (pred k) ∷ close ∷ []) (succ k)
  closes : Move close Tokens.closing [] free
  begins : {w : List ℕ} → w ≡ entails-word → Move claim (word w) [] free
  whole : {s : Sort} {x : Token} {adds : List Item} {c : Cost} → Move (part s) x adds c → Move (formula s) x adds (anew c)

-- What is expected behind the token, in front of whatever is expected behind the item: `with` makes what was expected of what is read then.
pub record GoesOn (i : Item) (x : Token) : Type 0 where
  pub adds : List Item
  pub with : (K : List Item) → Values (adds ++ K) → Values (i ∷ K)
  pub cost : Cost
  pub move : Move i x adds cost
  pub reads : (K : List Item) (n : ℕ) (ts : List Token) → token i x n K (run ts) ≡ spend cost n (λ m. map (with K) (run ts m (adds ++ K)))
  pub there : (K : List Item) (ts : List Token) (u : Values (adds ++ K)) → Follows (adds ++ K) u ts → Follows (i ∷ K) (with K u) (x ∷ ts)
  pub back : (K : List Item) (ts : List Token) (v : Values (i ∷ K)) → Follows (i ∷ K) v (x ∷ ts) → Back (with K) (λ u. Follows (adds ++ K) u ts) v
  pub pays : (K : List Item) (n : ℕ) (u : Values (adds ++ K)) → Fits n (i ∷ K) (with K u) → Paid cost n (λ m. Fits m (adds ++ K) u)
  pub fits : (K : List Item) (n m : ℕ) (u : Values (adds ++ K)) → Spends cost n m → Fits m (adds ++ K) u → Fits n (i ∷ K) (with K u)

-- No text goes on with the token.
pub record Stuck (i : Item) (x : Token) : Type 0 where
  pub refuses : (K : List Item) (n : ℕ) (ts : List Token) → token i x n K (run ts) ≡ Err NotAccepted
  pub nothing : (K : List Item) (ts : List Token) (v : Values (i ∷ K)) → Follows (i ∷ K) v (x ∷ ts) → ⊥

pub data Advances (i : Item) (x : Token) : Type 0 where
  goes : GoesOn i x → Advances i x
  stuck : Stuck i x → Advances i x

map-id : {A : Type 0} (o : Result A Refusal) → o ≡ map (λ u. u) o
map-id (Err e) = refl
map-id (Ok x) = refl

-- How texts begin, and what stands behind an opening parenthesis.
Starts : List Token → Type 0
Starts [] = ⊥
Starts (opening ∷ ts) = Unit {0}
Starts (Tokens.closing ∷ ts) = ⊥
Starts (word w ∷ ts) = Unit {0}

Heads : List Token → Type 0
Heads [] = ⊥
Heads (opening ∷ ts) = ⊥
Heads (Tokens.closing ∷ ts) = ⊥
Heads (word w ∷ ts) = Unit {0}

formula-starts : {s : Sort} {t : Tree s} {ts us : List Token} → Formula s t ts us → Starts ts
unfolding Starts
formula-starts (bare-leaf p) = tt
formula-starts (leaf-list p) = tt
formula-starts (lit-list p n) = tt
formula-starts (one_list p a) = tt
formula-starts (two-list p a b) = tt

formula-heads : {s : Sort} {t : Tree s} {ts us : List Token} → Formula s t (opening ∷ ts) us → Heads ts
unfolding Heads
formula-heads (leaf-list p) = tt
formula-heads (lit-list p n) = tt
formula-heads (one_list p a) = tt
formula-heads (two-list p a b) = tt

number-starts : {n : ℕ} {ts us : List Token} → Number n ts us → Starts ts
unfolding Starts
number-starts (bare-zero p) = tt
number-starts (zero-list p) = tt
number-starts (succ-list p n) = tt

number-heads : {n : ℕ} {ts us : List Token} → Number n (opening ∷ ts) us → Heads ts
unfolding Heads
number-heads (zero-list p) = tt
number-heads (succ-list p n) = tt

-- Nodes of different kinds are different.
node_number : {A : Type 0} → Node A → ℕ
node_number (leaf t) = 0
node_number (lit g) = 1
node_number (one g) = 2
node_number (two g) = 3
node_number bad = 4

-- A bare word is a constant.
pub bare-is : {s : Sort} {t : Tree s} {w : List ℕ} {ts us : List Token} → Formula s t (word w ∷ ts) us → (node_named s w ≡ leaf t) × (us ≡ ts)
bare-is (bare-leaf p) = (p, refl)

pub leaf-one : {A : Type 0} {x y : A} → leaf x ≡ leaf y → x ≡ y
leaf-one e = cc

lit-one : {A : Type 0} {f g : ℕ → A} → lit f ≡ lit g → f ≡ g
lit-one e = cc

one-one : {A : Type 0} {f g : A → A} → one f ≡ one g → f ≡ g
one-one e = cc

two-one : {A : Type 0} {f g : A → A → A} → two f ≡ two g → f ≡ g
two-one e = cc

bare-other : {s : Sort} {w : List ℕ} {x : Node (Tree s)} → node_named s w ≡ x → (node_number x ≡ 0 → ⊥) → ((K : List Item) (n : ℕ) (ts : List Token) → bare_node x n K (run ts) ≡ Err NotAccepted) → Stuck (part s) (word w)
unfolding node_number
bare-other {s} {w} p z r =
    record {
      refuses = λ K n ts. ap (λ y. bare_node y n K (run ts)) p ∙ r K n ts;
      nothing = λ K ts v f. z (ap node_number (sym p ∙ (bare-is f.first).0));
    }

-- A node was paid for.
node-spends : {n m : ℕ} → Spends node n m → suc m ≡ n
node-spends for-node = refl

paid-node : {n m : ℕ} {P : ℕ → Type 0} → suc m ≡ n → P m → Paid node n P
paid-node {m = m} e x = record { left = m; spends = subst (λ k. Spends node k m) e for-node; then = x }

-- A word that names a node names its byte.
pub named-made : (s : Sort) (w : List ℕ) (x : Node (Tree s)) → (x ≡ bad → ⊥) → node_named s w ≡ x → (b : ℕ) × Makes s b x
named-made s w x h p = go (kind_named s w) p
  where
    go : (o : Option ℕ) → node_if s o ≡ x → (b : ℕ) × Makes s b x
    go None q = absurd (h (sym q))
    go (Some b) q = (b, made_as s b x q)

bare-advances : (s : Sort) (w : List ℕ) (x : Node (Tree s)) → node_named s w ≡ x → Advances (part s) (word w)
unfolding node_number
bare-advances s w (leaf t) p =
    let k = (named-made s w (leaf t) (λ e. cc) p).1 in
    goes
    (record {
      adds = [];
      with = λ K u. (t, u);
      cost = node;
      move = bare-part p;
      reads = λ K n ts. ap (λ y. bare_node y n K (run ts)) p;
      there = λ K ts u f. record { behind = ts; first = bare-leaf p; second = f };
      back = λ K ts v f. let q = bare-is f.first in record { value = v.1; holds = subst (Follows K v.1) q.1 f.second; gives = ap (λ t. (t, v.1)) (leaf-one (sym p ∙ q.0)) };
      pays = λ K n u f. paid-node {m = f.rest} (omega (arith, f.spent, k.count)) f.then;
      fits = λ K n m u q f. record { rest = m; spent = omega (arith, node-spends q, k.count); low = omega (arith, k.top); then = f };
    })
bare-advances s w (lit g) p = stuck (bare-other p (λ e. omega (arith, e)) (λ K n ts. refl))
bare-advances s w (one g) p = stuck (bare-other p (λ e. omega (arith, e)) (λ K n ts. refl))
bare-advances s w (two g) p = stuck (bare-other p (λ e. omega (arith, e)) (λ K n ts. refl))
bare-advances s w bad p = stuck (bare-other p (λ e. omega (arith, e)) (λ K n ts. refl))

-- What the list of a formula holds, where its first word is known.
pub record OfLit (s : Sort) (g : ℕ → Tree s) (y : Tree s) (ts us : List Token) : Type 0 where
  pub value : ℕ
  pub is : g value ≡ y
  pub text : Number value ts (Tokens.closing ∷ us)

pub record OfOne (s : Sort) (g : Tree s → Tree s) (y : Tree s) (ts us : List Token) : Type 0 where
  pub value : Tree s
  pub is : g value ≡ y
  pub text : Formula s value ts (Tokens.closing ∷ us)

pub record OfTwo (s : Sort) (g : Tree s → Tree s → Tree s) (y : Tree s) (ts us : List Token) : Type 0 where
  pub left : Tree s
  pub right : Tree s
  pub between : List Token
  pub is : g left right ≡ y
  pub first : Formula s left ts between
  pub second : Formula s right between (Tokens.closing ∷ us)

pub of-leaf : {s : Sort} {t : Tree s} {y : Tree s} {w : List ℕ} {ts us : List Token} → node_named s w ≡ leaf t → Formula s y (opening ∷ word w ∷ ts) us → (t ≡ y) × (ts ≡ Tokens.closing ∷ us)
unfolding node_number
of-leaf p (leaf-list q) = (leaf-one (sym p ∙ q), refl)
of-leaf p (lit-list q d) = absurd (let k = ap node_number (sym p ∙ q) in omega (arith, k))
of-leaf p (one_list q d) = absurd (let k = ap node_number (sym p ∙ q) in omega (arith, k))
of-leaf p (two-list q d e) = absurd (let k = ap node_number (sym p ∙ q) in omega (arith, k))

pub of-lit : {s : Sort} {g : ℕ → Tree s} {y : Tree s} {w : List ℕ} {ts us : List Token} → node_named s w ≡ lit g → Formula s y (opening ∷ word w ∷ ts) us → OfLit s g y ts us
unfolding node_number
of-lit p (leaf-list q) = absurd (let k = ap node_number (sym p ∙ q) in omega (arith, k))
of-lit {s} p (lit-list {n = n} q d) = record { value = n; is = ap (λ (h : ℕ → Tree s). h n) (lit-one (sym p ∙ q)); text = d }
of-lit p (one_list q d) = absurd (let k = ap node_number (sym p ∙ q) in omega (arith, k))
of-lit p (two-list q d e) = absurd (let k = ap node_number (sym p ∙ q) in omega (arith, k))

pub of_one : {s : Sort} {g : Tree s → Tree s} {y : Tree s} {w : List ℕ} {ts us : List Token} → node_named s w ≡ one g → Formula s y (opening ∷ word w ∷ ts) us → OfOne s g y ts us
unfolding node_number
of_one p (leaf-list q) = absurd (let k = ap node_number (sym p ∙ q) in omega (arith, k))
of_one p (lit-list q d) = absurd (let k = ap node_number (sym p ∙ q) in omega (arith, k))
of_one {s} p (one_list {a = a} q d) = record { value = a; is = ap (λ (h : Tree s → Tree s). h a) (one-one (sym p ∙ q)); text = d }
of_one p (two-list q d e) = absurd (let k = ap node_number (sym p ∙ q) in omega (arith, k))

pub of_two : {s : Sort} {g : Tree s → Tree s → Tree s} {y : Tree s} {w : List ℕ} {ts us : List Token} → node_named s w ≡ two g → Formula s y (opening ∷ word w ∷ ts) us → OfTwo s g y ts us
unfolding node_number
of_two p (leaf-list q) = absurd (let k = ap node_number (sym p ∙ q) in omega (arith, k))
of_two p (lit-list q d) = absurd (let k = ap node_number (sym p ∙ q) in omega (arith, k))
of_two p (one_list q d) = absurd (let k = ap node_number (sym p ∙ q) in omega (arith, k))
of_two {s} p (two-list {a = a} {b = b} {us = vs} q d e) = record { left = a; right = b; between = vs; is = ap (λ (h : Tree s → Tree s → Tree s). h a b) (two-one (sym p ∙ q)); first = d; second = e }

of-bad : {s : Sort} {y : Tree s} {w : List ℕ} {ts us : List Token} → node_named s w ≡ bad → Formula s y (opening ∷ word w ∷ ts) us → ⊥
unfolding node_number
of-bad p (leaf-list q) = absurd (let k = ap node_number (sym p ∙ q) in omega (arith, k))
of-bad p (lit-list q d) = absurd (let k = ap node_number (sym p ∙ q) in omega (arith, k))
of-bad p (one_list q d) = absurd (let k = ap node_number (sym p ∙ q) in omega (arith, k))
of-bad p (two-list q d e) = absurd (let k = ap node_number (sym p ∙ q) in omega (arith, k))

-- The first word of a list.
list-other : {s : Sort} {w : List ℕ} → node_named s w ≡ bad → Stuck (part_list s) (word w)
list-other {s} {w} p =
    record {
      refuses = λ K n ts. ap (λ y. list_node s y n K (run ts)) p;
      nothing = λ K ts v f. of-bad p f.first;
    }

list-advances : (s : Sort) (w : List ℕ) (x : Node (Tree s)) → node_named s w ≡ x → Advances (part_list s) (word w)
list-advances s w (leaf t) p =
    let k = (named-made s w (leaf t) (λ e. cc) p).1 in
    goes
    (record {
      adds = close ∷ [];
      with = λ K u. (t, u);
      cost = node;
      move = leaf-part p;
      reads = λ K n ts. ap (λ y. list_node s y n K (run ts)) p;
      there = λ K ts u f. record { behind = f.behind; first = subst (λ us. Formula s t (opening ∷ word w ∷ us) f.behind) (sym f.first) (leaf-list p); second = f.second };
      back = λ K ts v f. let q = of-leaf p f.first in record { value = v.1; holds = record { behind = f.behind; first = q.1; second = f.second }; gives = ap (λ t. (t, v.1)) q.0 };
      pays = λ K n u f. paid-node {m = f.rest} (omega (arith, f.spent, k.count)) f.then;
      fits = λ K n m u q f. record { rest = m; spent = omega (arith, node-spends q, k.count); low = omega (arith, k.top); then = f };
    })
list-advances s w (lit g) p =
    goes
    (record {
      adds = number max_dim ∷ close ∷ [];
      with = λ K u. (g u.0, u.1);
      cost = node;
      move = lit-part p;
      reads = λ K n ts. ap (λ y. list_node s y n K (run ts)) p;
      there = λ K ts u f. record { behind = f.second.behind; first = lit-list p (subst (Number u.0 ts) f.second.first f.first); second = f.second.second };
      back = λ K ts v f. let q = of-lit p f.first in record { value = (q.value, v.1); holds = record { behind = Tokens.closing ∷ f.behind; first = q.text; second = record { behind = f.behind; first = refl; second = f.second } }; gives = ap (λ t. (t, v.1)) q.is };
      pays = λ K n u f. let k = (named-made s w (lit g) (λ e. cc) p).1 u.0 in paid-node {m = f.rest} (omega (arith, f.spent, k.count)) (omega (arith, f.low, k.top), f.then);
      fits = λ K n m u q f. let k = (named-made s w (lit g) (λ e. cc) p).1 u.0 in record { rest = m; spent = omega (arith, node-spends q, k.count); low = omega (arith, k.top, f.0); then = f.1 };
    })
list-advances s w (one g) p =
    goes
    (record {
      adds = part s ∷ close ∷ [];
      with = λ K u. (g u.0, u.1);
      cost = node;
      move = one-part p;
      reads = λ K n ts. ap (λ y. list_node s y n K (run ts)) p;
      there = λ K ts u f. record { behind = f.second.behind; first = one_list p (subst (Formula s u.0 ts) f.second.first f.first); second = f.second.second };
      back = λ K ts v f. let q = of_one p f.first in record { value = (q.value, v.1); holds = record { behind = Tokens.closing ∷ f.behind; first = q.text; second = record { behind = f.behind; first = refl; second = f.second } }; gives = ap (λ t. (t, v.1)) q.is };
      pays = λ K n u f. let k = (named-made s w (one g) (λ e. cc) p).1 u.0 in paid-node {m = f.rest + nodes s u.0} (omega (arith, f.spent, k.count)) (record { rest = f.rest; spent = refl; low = omega (arith, f.low, k.top); then = f.then });
      fits = λ K n m u q f. let k = (named-made s w (one g) (λ e. cc) p).1 u.0 in record { rest = f.rest; spent = omega (arith, node-spends q, k.count, f.spent); low = omega (arith, k.top, f.low); then = f.then };
    })
list-advances s w (two g) p =
    goes
    (record {
      adds = part s ∷ part s ∷ close ∷ [];
      with = λ K u. (g u.0 u.1.0, u.1.1);
      cost = node;
      move = two-parts p;
      reads = λ K n ts. ap (λ y. list_node s y n K (run ts)) p;
      there = λ K ts u f. record { behind = f.second.second.behind; first = two-list p f.first (subst (Formula s u.1.0 f.behind) f.second.second.first f.second.first); second = f.second.second.second };
      back = λ K ts v f. let q = of_two p f.first in record { value = (q.left, (q.right, v.1)); holds = record { behind = q.between; first = q.first; second = record { behind = Tokens.closing ∷ f.behind; first = q.second; second = record { behind = f.behind; first = refl; second = f.second } } }; gives = ap (λ t. (t, v.1)) q.is };
      pays = λ K n u f. let k = (named-made s w (two g) (λ e. cc) p).1 u.0 u.1.0 in paid-node {m = f.rest + nodes s u.1.0 + nodes s u.0} (omega (arith, f.spent, k.count)) (record { rest = f.rest + nodes s u.1.0; spent = refl; low = omega (arith, f.low, k.top); then = record { rest = f.rest; spent = refl; low = omega (arith, f.low, k.top); then = f.then } });
      fits = λ K n m u q f. let k = (named-made s w (two g) (λ e. cc) p).1 u.0 u.1.0 in record { rest = f.then.rest; spent = omega (arith, node-spends q, k.count, f.spent, f.then.spent); low = omega (arith, k.top, f.low, f.then.low); then = f.then.then };
    })
list-advances s w bad p = stuck (list-other p)

-- Where nothing was paid, as many nodes are left.
free-fits : {n m : ℕ} (P : ℕ → Type 0) → Spends free n m → P m → P n
free-fits P for-free x = x

part-advances : (s : Sort) (x : Token) → Advances (part s) x
unfolding Starts
part-advances s opening = goes (record { adds = part_list s ∷ []; with = λ K u. u; cost = free; move = opens-part; reads = λ K n ts. map-id (run ts n (part_list s ∷ K)); there = λ K ts u f. record { behind = f.behind; first = f.first; second = f.second }; back = λ K ts v f. record { value = v; holds = record { behind = f.behind; first = f.first; second = f.second }; gives = refl }; pays = λ K n u f. record { left = n; spends = for-free; then = f }; fits = λ K n m u q f. free-fits (λ m. Fits m (part_list s ∷ K) u) q f })
part-advances s Tokens.closing = stuck (record { refuses = λ K n ts. refl; nothing = λ K ts v f. formula-starts f.first })
part-advances s (word w) = bare-advances s w (node_named s w) refl

-- Numbers.
pub zero_is : {n : ℕ} {w : List ℕ} {ts us : List Token} → Number n (word w ∷ ts) us → (w ≡ zero_word) × (0 ≡ n) × (us ≡ ts)
zero_is (bare-zero p) = (p, refl, refl)

-- A word that is known.
same_word : {w x : List ℕ} → w ≡ x → same_bytes x w ≡ true
same_word {x = x} p = subst (λ y. same_bytes x y ≡ true) (sym p) (same_refl x)

no_true : {A : Type 0} → false ≡ true → A
no_true e = absurd (let z : ◌≡◌ {A = ℕ} 0 1 = cc in omega arith)

-- z is not s.
z-no-s : same_bytes zero_word succ-word ≡ false
unfolding same_bytes text_bytes
z-no-s = refl

pub zero-no-succ : {A : Type 0} {w : List ℕ} → w ≡ zero_word → w ≡ succ-word → A
zero-no-succ p q = no_true (sym z-no-s ∙ same_word (sym q ∙ p))

-- Equal words have equal bytes.
pub word-one : {w x : List ℕ} → word w ≡ word x → w ≡ x
word-one e = cc

-- Tokens of different kinds are different.
token_number : Token → ℕ
token_number opening = 0
token_number Tokens.closing = 1
token_number (word w) = 2

differ : {x y : Token} {ts us : List Token} → (token_number x ≡ token_number y → ⊥) → x ∷ ts ≡ y ∷ us → ⊥
differ h e = h (ap token_number (head-eq_of_cons-eq e))

-- k counts down with the number.
below-pred : (k : ℕ) {a : ℕ} → suc a ≤ k → a ≤ pred k
below-pred zero h = absurd (omega (arith, h))
below-pred (suc k) h = omega (arith, h)

above-pred : (k : ℕ) {a : ℕ} → 1 ≤ k → a ≤ pred k → suc a ≤ k
above-pred zero h g = absurd (omega (arith, h))
above-pred (suc k) h g = omega (arith, g)

anew-spends : {c : Cost} {n m : ℕ} → Spends (anew c) n m → Spends c max_nodes m
anew-spends (for-anew h) = h

number_word : (k : ℕ) (w : List ℕ) (b : Bool) → same_bytes zero_word w ≡ b → Advances (number k) (word w)
number_word k w true q =
    let z : w ≡ zero_word = sym (same_true zero_word w q) in
    goes
    (record {
      adds = [];
      with = λ K u. (0, u);
      cost = free;
      move = bare-number z;
      reads = λ K n ts. ap (λ b. pick b (map (λ v. (0, v)) (run ts n K)) (Err NotAccepted)) q;
      there = λ K ts u f. record { behind = ts; first = bare-zero z; second = f };
      back = λ K ts v f. let h = zero_is f.first in record { value = v.1; holds = subst (Follows K v.1) h.2 f.second; gives = ap (λ n. (n, v.1)) h.1 };
      pays = λ K n u f. record { left = n; spends = for-free; then = f.1 };
      fits = λ K n m u q f. (omega arith, free-fits (λ m. Fits m K u) q f);
    })
number_word k w false q =
    stuck
    (record {
      refuses = λ K n ts. ap (λ b. pick b (map (λ v. (0, v)) (run ts n K)) (Err NotAccepted)) q;
      nothing = λ K ts v f. no_true (sym q ∙ same_word (zero_is f.first).0);
    })

-- The list of a number holds z, or s and a number.
pub record OfSucc (n : ℕ) (ts us : List Token) : Type 0 where
  pub value : ℕ
  pub is : suc value ≡ n
  pub text : Number value ts (Tokens.closing ∷ us)

pub of_zero : {n : ℕ} {w : List ℕ} {ts us : List Token} → w ≡ zero_word → Number n (opening ∷ word w ∷ ts) us → (0 ≡ n) × (ts ≡ Tokens.closing ∷ us)
of_zero p (zero-list q) = (refl, refl)
of_zero p (succ-list q d) = zero-no-succ p q

pub of-succ : {n : ℕ} {w : List ℕ} {ts us : List Token} → w ≡ succ-word → Number n (opening ∷ word w ∷ ts) us → OfSucc n ts us
of-succ p (zero-list q) = zero-no-succ q p
of-succ p (succ-list q d) = record { value = _; is = refl; text = d }

of-neither : {n : ℕ} {w : List ℕ} {ts us : List Token} → same_bytes zero_word w ≡ false → same_bytes succ-word w ≡ false → Number n (opening ∷ word w ∷ ts) us → ⊥
of-neither a b (zero-list q) = no_true (sym a ∙ same_word q)
of-neither a b (succ-list q d) = no_true (sym b ∙ same_word q)

-- One s of k.
succ-spends : {k n m : ℕ} (P : ℕ → Type 0) → Spends (succ k) n m → P m → (1 ≤ k) × P n
succ-spends P for-succ x = (omega arith, x)

paid-succ : (k : ℕ) {n : ℕ} {P : ℕ → Type 0} → 1 ≤ k → P n → Paid (succ k) n P
paid-succ zero h x = absurd (omega (arith, h))
paid-succ (suc k) {n} h x = record { left = n; spends = for-succ; then = x }

succ-reads : (k n : ℕ) (K : List Item) (ts : List Token) → succeeded k n K (run ts) ≡ spend (succ k) n (λ m. map (λ u. (suc u.0, u.1)) (run ts m (number (pred k) ∷ close ∷ K)))
succ-reads zero n K ts = refl
succ-reads (suc k) n K ts = refl

list-reads : (w : List ℕ) {b c : Bool} (k n : ℕ) (K : List Item) (ts : List Token) → same_bytes zero_word w ≡ b → same_bytes succ-word w ≡ c
    → token (number_list k) (word w) n K (run ts) ≡ pick b (map (λ v. (0, v)) (run ts n (close ∷ K))) (pick c (succeeded k n K (run ts)) (Err NotAccepted))
list-reads w k n K ts p q = ap₂ (λ b c. pick b (map (λ v. (0, v)) (run ts n (close ∷ K))) (pick c (succeeded k n K (run ts)) (Err NotAccepted))) p q

number-list-word : (k : ℕ) (w : List ℕ) (b c : Bool) → same_bytes zero_word w ≡ b → same_bytes succ-word w ≡ c → Advances (number_list k) (word w)
number-list-word k w true c p q =
    let z : w ≡ zero_word = sym (same_true zero_word w p) in
    goes
    (record {
      adds = close ∷ [];
      with = λ K u. (0, u);
      cost = free;
      move = zero_number z;
      reads = λ K n ts. list-reads w k n K ts p q;
      there = λ K ts u f. record { behind = f.behind; first = subst (λ us. Number 0 (opening ∷ word w ∷ us) f.behind) (sym f.first) (zero-list z); second = f.second };
      back = λ K ts v f. let h = of_zero z f.first in record { value = v.1; holds = record { behind = f.behind; first = h.1; second = f.second }; gives = ap (λ n. (n, v.1)) h.0 };
      pays = λ K n u f. record { left = n; spends = for-free; then = f.1 };
      fits = λ K n m u q f. (omega arith, free-fits (λ m. Fits m K u) q f);
    })
number-list-word k w false true p q =
    let s : w ≡ succ-word = sym (same_true succ-word w q) in
    goes
    (record {
      adds = number (pred k) ∷ close ∷ [];
      with = λ K u. (suc u.0, u.1);
      cost = succ k;
      move = succ-number s;
      reads = λ K n ts. list-reads w k n K ts p q ∙ succ-reads k n K ts;
      there = λ K ts u f. record { behind = f.second.behind; first = succ-list s (subst (Number u.0 ts) f.second.first f.first); second = f.second.second };
      back = λ K ts v f. let h = of-succ s f.first in record { value = (h.value, v.1); holds = record { behind = Tokens.closing ∷ f.behind; first = h.text; second = record { behind = f.behind; first = refl; second = f.second } }; gives = ap (λ n. (n, v.1)) h.is };
      pays = λ K n u f. paid-succ k (omega (arith, f.0)) (below-pred k f.0, f.1);
      fits = λ K n m u q f. let h = succ-spends (λ m. (u.0 ≤ pred k) × Fits m K u.1) q f in (above-pred k h.0 h.1.0, h.1.1);
    })
number-list-word k w false false p q = stuck (record { refuses = λ K n ts. list-reads w k n K ts p q; nothing = λ K ts v f. of-neither p q f.first })

claim-word : (w : List ℕ) (b : Bool) → same_bytes entails-word w ≡ b → Advances claim (word w)
claim-word w true q =
    let z : w ≡ entails-word = sym (same_true entails-word w q) in
    goes
    (record {
      adds = [];
      with = λ K u. u;
      cost = free;
      move = begins z;
      reads = λ K n ts. ap (λ b. pick b (run ts n K) (Err NotAccepted)) q ∙ map-id (run ts n K);
      there = λ K ts u f. record { behind = ts; first = ap (λ x. word x ∷ ts) z; second = f };
      back = λ K ts v f. record { value = v; holds = subst (Follows K v) (sym (tail-eq_of_cons-eq f.first)) f.second; gives = refl };
      pays = λ K n u f. record { left = n; spends = for-free; then = f };
      fits = λ K n m u q f. free-fits (λ m. Fits m K u) q f;
    })
claim-word w false q =
    stuck
    (record {
      refuses = λ K n ts. ap (λ b. pick b (run ts n K) (Err NotAccepted)) q;
      nothing = λ K ts v f. no_true (sym q ∙ same_word (word-one (head-eq_of_cons-eq f.first)));
    })

-- A formula is a part whose nodes are counted anew.
whole-advances : {s : Sort} {x : Token} → Advances (part s) x → Advances (formula s) x
whole-advances (goes a) =
    goes
    (record {
      adds = a.adds;
      with = a.with;
      cost = anew a.cost;
      move = whole a.move;
      reads = λ K n ts. a.reads K max_nodes ts;
      there = a.there;
      back = a.back;
      pays = λ K n u f. let p = a.pays K max_nodes u f in record { left = p.left; spends = for-anew p.spends; then = p.then };
      fits = λ K n m u q f. a.fits K max_nodes m u (anew-spends q) f;
    })
whole-advances (stuck a) = stuck (record { refuses = λ K n ts. a.refuses K max_nodes ts; nothing = a.nothing })

-- Every item at every token.
pub advances : (i : Item) (x : Token) → Advances i x
unfolding Starts Heads token_number
advances (formula s) x = whole-advances (part-advances s x)
advances (part s) x = part-advances s x
advances (part_list s) opening = stuck (record { refuses = λ K n ts. refl; nothing = λ K ts v f. formula-heads f.first })
advances (part_list s) Tokens.closing = stuck (record { refuses = λ K n ts. refl; nothing = λ K ts v f. formula-heads f.first })
advances (part_list s) (word w) = list-advances s w (node_named s w) refl
advances (number k) opening = goes (record { adds = number_list k ∷ []; with = λ K u. u; cost = free; move = opens-number; reads = λ K n ts. map-id (run ts n (number_list k ∷ K)); there = λ K ts u f. record { behind = f.behind; first = f.first; second = f.second }; back = λ K ts v f. record { value = v; holds = record { behind = f.behind; first = f.first; second = f.second }; gives = refl }; pays = λ K n u f. record { left = n; spends = for-free; then = f }; fits = λ K n m u q f. free-fits (λ m. Fits m (number_list k ∷ K) u) q f })
advances (number k) Tokens.closing = stuck (record { refuses = λ K n ts. refl; nothing = λ K ts v f. number-starts f.first })
advances (number k) (word w) = number_word k w (same_bytes zero_word w) refl
advances (number_list k) opening = stuck (record { refuses = λ K n ts. refl; nothing = λ K ts v f. number-heads f.first })
advances (number_list k) Tokens.closing = stuck (record { refuses = λ K n ts. refl; nothing = λ K ts v f. number-heads f.first })
advances (number_list k) (word w) = number-list-word k w (same_bytes zero_word w) (same_bytes succ-word w) refl refl
advances close opening = stuck (record { refuses = λ K n ts. refl; nothing = λ K ts v f. differ (λ e. omega (arith, e)) f.first })
advances close Tokens.closing = goes (record { adds = []; with = λ K u. u; cost = free; move = closes; reads = λ K n ts. map-id (run ts n K); there = λ K ts u f. record { behind = ts; first = refl; second = f }; back = λ K ts v f. record { value = v; holds = subst (Follows K v) (sym (tail-eq_of_cons-eq f.first)) f.second; gives = refl }; pays = λ K n u f. record { left = n; spends = for-free; then = f }; fits = λ K n m u q f. free-fits (λ m. Fits m K u) q f })
advances close (word w) = stuck (record { refuses = λ K n ts. refl; nothing = λ K ts v f. differ (λ e. omega (arith, e)) f.first })
advances claim opening = stuck (record { refuses = λ K n ts. refl; nothing = λ K ts v f. differ (λ e. omega (arith, e)) f.first })
advances claim Tokens.closing = stuck (record { refuses = λ K n ts. refl; nothing = λ K ts v f. differ (λ e. omega (arith, e)) f.first })
advances claim (word w) = claim-word w (same_bytes entails-word w) refl

-- Nothing is expected to be nothing.
pub nothing-follows : (i : Item) (K : List Item) (v : Values (i ∷ K)) → Follows (i ∷ K) v [] → ⊥
unfolding Starts Heads
nothing-follows (formula s) K v f = formula-starts f.first
nothing-follows (part s) K v f = formula-starts f.first
nothing-follows (part_list s) K v f = formula-heads f.first
nothing-follows (number k) K v f = number-starts f.first
nothing-follows (number_list k) K v f = number-heads f.first
nothing-follows close K v f = nil≢cons f.first
nothing-follows claim K v f = nil≢cons f.first
