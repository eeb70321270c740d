-- The reader goes over the tokens of one item, and then over what is expected behind it.
use Prim.Native.Nat.{ℕ}
use mathlib.Core.Path.{◌≡◌, refl, sym, ap, ◌∙◌, subst}
use mathlib.Core.List.{List, [], ◌∷◌, ◌++◌, cons≢nil, append-nil}
use Rattle.formula.specs.declared.Sort.{Sort}
use Rattle.formula.specs.declared.Sort.TheVariants.{Faces, Intervals}
use Rattle.formula.specs.Formula.{ff, i0}
use Rattle.formula.specs.Bytes.{Tree, leaf, node_of}
use Rattle.formula.specs.Answers.{same_bytes}
use Rattle.calculus.specs.Table.{text_bytes}
use Rattle.refusals.specs.declared.Refusal.{Refusal}
use Rattle.refusals.specs.declared.Refusal.TheVariants.{TooManyNodes, LargeDimension}
use Rattle.refusals.specs.Refusals.{map}
use Rattle.std.specs.Prelude.{Result, Err}
use Rattle.text.specs.Tokens
use Rattle.text.specs.Tokens.{Token, word}
use Rattle.text.specs.Words.{kind_named, node_named, zero_word, entails-word}
use Rattle.text.specs.Grammar.{bare-zero, zero-list, bare-leaf, leaf-list}
use Rattle.text.specs.Reading.{Item, formula, part, part_list, number, number_list, close, claim, Values, run}
use Rattle.grammar.specs.Meeting.{Begins, Fine, Kept}
use Rattle.grammar.proofs.Advancing.{Follows, Cost, node, succ, spend, Spends, spend-paid, Move, GoesOn, Stuck, Advances, goes, stuck, advances, nothing-follows}
use Rattle.grammar.proofs.Beginnings.{one_more, kept-none, kept_more, Verdict, refuses, verdict-map, verdict-none}
use Rattle.grammar.proofs.Composing.{Past, Limit, Ending, Joins, verdict-behind, stray-front, early-front, many-front, large-front}

-- The texts of what is expected.
pub record Texts (K : List Item) (ts : List Token) : Type 0 where
  pub value : Values K
  pub follows : Follows K value ts

-- Everything that is expected has a text --------------------------------------------------------------

leaf_name : Sort → List ℕ
leaf_name Faces = text_bytes "ff"
leaf_name Intervals = text_bytes "i0"

leaf_of : (s : Sort) → Tree s
leaf_of Faces = ff
leaf_of Intervals = i0

leaf-named : (s : Sort) → node_named s (leaf_name s) ≡ leaf (leaf_of s)
unfolding leaf_name leaf_of kind_named node_of same_bytes text_bytes
leaf-named Faces = refl
leaf-named Intervals = refl

-- What is behind the item in front goes on.
pub completed : (K : List Item) → Begins (Texts K) []
completed [] = record { rest = []; whole = record { value = tt; follows = refl } }
completed (formula s ∷ K) = let b = completed K in record { rest = word (leaf_name s) ∷ b.rest; whole = record { value = (leaf_of s, b.whole.value); follows = record { behind = b.rest; first = bare-leaf (leaf-named s); second = b.whole.follows } } }
completed (part s ∷ K) = let b = completed K in record { rest = word (leaf_name s) ∷ b.rest; whole = record { value = (leaf_of s, b.whole.value); follows = record { behind = b.rest; first = bare-leaf (leaf-named s); second = b.whole.follows } } }
completed (part_list s ∷ K) = let b = completed K in record { rest = word (leaf_name s) ∷ Tokens.closing ∷ b.rest; whole = record { value = (leaf_of s, b.whole.value); follows = record { behind = b.rest; first = leaf-list (leaf-named s); second = b.whole.follows } } }
completed (number k ∷ K) = let b = completed K in record { rest = word zero_word ∷ b.rest; whole = record { value = (0, b.whole.value); follows = record { behind = b.rest; first = bare-zero refl; second = b.whole.follows } } }
completed (number_list k ∷ K) = let b = completed K in record { rest = word zero_word ∷ Tokens.closing ∷ b.rest; whole = record { value = (0, b.whole.value); follows = record { behind = b.rest; first = zero-list refl; second = b.whole.follows } } }
completed (close ∷ K) = let b = completed K in record { rest = Tokens.closing ∷ b.rest; whole = record { value = b.whole.value; follows = record { behind = b.rest; first = refl; second = b.whole.follows } } }
completed (claim ∷ K) = let b = completed K in record { rest = word entails-word ∷ b.rest; whole = record { value = b.whole.value; follows = record { behind = b.rest; first = refl; second = b.whole.follows } } }

-- A token more of what is expected ---------------------------------------------------------------------

texts-there : {i : Item} {x : Token} (a : GoesOn i x) (K : List Item) {ts : List Token} → Texts (a.adds ++ K) ts → Texts (i ∷ K) (x ∷ ts)
texts-there a K {ts} t = record { value = a.with K t.value; follows = a.there K ts t.value t.follows }

texts-back : {i : Item} {x : Token} (a : GoesOn i x) (K : List Item) {ts : List Token} → Texts (i ∷ K) (x ∷ ts) → Texts (a.adds ++ K) ts
texts-back a K {ts} t = let b = a.back K ts t.value t.follows in record { value = b.value; follows = b.holds }

-- No text goes on as a longer text.
ending-token : {A us : List Token} → ((J : List Item) → Texts J A → Texts J (A ++ us) → us ≡ []) → (i : Item) (x : Token) (J : List Item) → Advances i x → Texts (i ∷ J) (x ∷ A) → Texts (i ∷ J) (x ∷ A ++ us) → us ≡ []
ending-token h i x J (goes a) s t = h (a.adds ++ J) (texts-back a J s) (texts-back a J t)
ending-token {A} h i x J (stuck a) s t = absurd (a.nothing J A s.value s.follows)

pub ending : (J : List Item) → Ending (Texts J)
ending J A us = go A J
  where
    go : (A : List Token) (J : List Item) → Texts J A → Texts J (A ++ us) → us ≡ []
    go [] [] s t = t.follows
    go [] (i ∷ J) s t = absurd (nothing-follows i J s.value s.follows)
    go (x ∷ A) [] s t = absurd (cons≢nil s.follows)
    go (x ∷ A) (i ∷ J) s t = ending-token (go A) i x J (advances i x) s t

-- The second list is the first, and K behind it.
pub data Above (K : List Item) : List Item → List Item → Type 0 where
  there : Above K [] K
  below : {i : Item} {I J : List Item} → Above K I J → Above K (i ∷ I) (i ∷ J)

above_more : {K I J : List Item} (adds : List Item) → Above K I J → Above K (adds ++ I) (adds ++ J)
above_more [] h = h
above_more (i ∷ adds) h = below (above_more adds h)

-- A text of what is expected is a text of the first list and one of K behind it, and the other way round.
split-token : {K : List Item} {ts : List Token} → ((I J : List Item) → Above K I J → Texts J ts → Past (Texts I) (Texts K) ts) → (i : Item) (x : Token) (I J : List Item) → Above K I J → Advances i x → Texts (i ∷ J) (x ∷ ts) → Past (Texts (i ∷ I)) (Texts K) (x ∷ ts)
split-token h i x I J b (goes a) t =
    let p = h (a.adds ++ I) (a.adds ++ J) (above_more a.adds b) (texts-back a J t) in
    record { front = x ∷ p.front; rest = p.rest; is = ap (λ l. x ∷ l) p.is; before = texts-there a I p.before; such = p.such }
split-token {ts = ts} h i x I J b (stuck a) t = absurd (a.nothing J ts t.value t.follows)

texts-split : {K : List Item} (ts : List Token) (I J : List Item) → Above K I J → Texts J ts → Past (Texts I) (Texts K) ts
texts-split [] I J there t = record { front = []; rest = []; is = refl; before = record { value = tt; follows = refl }; such = t }
texts-split (x ∷ ts) I J there t = record { front = []; rest = x ∷ ts; is = refl; before = record { value = tt; follows = refl }; such = t }
texts-split [] I J (below {i} {J = L} b) t = absurd (nothing-follows i L t.value t.follows)
texts-split (x ∷ ts) I J (below {i} {I = H} {J = L} b) t = split-token (texts-split ts) i x H L b (advances i x) t

join-token : {K : List Item} {A R : List Token} → ((I J : List Item) → Above K I J → Texts I A → Texts K R → Texts J (A ++ R)) → (i : Item) (x : Token) (I J : List Item) → Above K I J → Advances i x → Texts (i ∷ I) (x ∷ A) → Texts K R → Texts (i ∷ J) (x ∷ A ++ R)
join-token h i x I J b (goes a) s t = texts-there a J (h (a.adds ++ I) (a.adds ++ J) (above_more a.adds b) (texts-back a I s) t)
join-token {A = A} h i x I J b (stuck a) s t = absurd (a.nothing I A s.value s.follows)

texts-join : {K : List Item} {R : List Token} (A : List Token) (I J : List Item) → Above K I J → Texts I A → Texts K R → Texts J (A ++ R)
texts-join [] I J there s t = t
texts-join (x ∷ A) I J there s t = absurd (cons≢nil s.follows)
texts-join [] I J (below {i} {I = H} b) s t = absurd (nothing-follows i H s.value s.follows)
texts-join (x ∷ A) I J (below {i} {I = H} {J = L} b) s t = join-token (texts-join A) i x H L b (advances i x) s t

-- One item, and the others behind it.
pub joins : (i : Item) (K : List Item) → Joins (Texts (i ∷ [])) (Texts K) (Texts (i ∷ K))
joins i K = record {
  split = λ ts t. texts-split ts (i ∷ []) (i ∷ K) (below there) t;
  join = λ ts p. subst (Texts (i ∷ K)) (sym p.is) (texts-join p.front (i ∷ []) (i ∷ K) (below there) p.before p.such);
  ending = ending (i ∷ []);
}

-- The walk ---------------------------------------------------------------------------------------------

-- A cost that cannot be paid, and the refusal.
pub data Lacks : Cost → ℕ → Refusal → Type 0 where
  lacks-node : Lacks node 0 TooManyNodes
  lacks-succ : {n : ℕ} → Lacks (succ 0) n LargeDimension

spend-lacks : {A : Type 0} {c : Cost} {n : ℕ} {e : Refusal} (k : ℕ → Result A Refusal) → Lacks c n e → spend c n k ≡ Err e
spend-lacks k lacks-node = refl
spend-lacks k lacks-succ = refl

-- Where the walk stands: what is expected of the item, the tokens of it that were read, and the nodes left.
abbrev pub Places : Type 1
Places = List Item → List Token → ℕ → Type 0

-- The cost of a token is paid, or the token goes beyond a limit.
pub data Paying (S : Places) (M B : List Token → Type 0) (I : List Item) (P : List Token) (c : Cost) (n : ℕ) : Type 0 where
  paid : {m : ℕ} → Spends c n m → S I P m → Paying S M B I P c n
  no_node : Lacks c n TooManyNodes → M P → Paying S M B I P c n
  no-succ : Lacks c n LargeDimension → B P → Paying S M B I P c n

-- The places know how far the limits are.
pub record Counts (S : Places) (M B : List Token → Type 0) : Type 0 where
  pub few : {I : List Item} {P : List Token} {n : ℕ} → S I P n → M P → ⊥
  pub small : {I : List Item} {P : List Token} {n : ℕ} → S I P n → B P → ⊥
  pub pay : {i : Item} {x : Token} {I adds : List Item} {c : Cost} {P : List Token} {n : ℕ} → S (i ∷ I) P n → Move i x adds c → Paying S M B (adds ++ I) (P ++ x ∷ []) c n

-- The tokens P of a text of the list I lead to the list J.
record Reached (I : List Item) (P : List Token) (J : List Item) : Type 0 where
  on : (us : List Token) → Texts J us → Texts I (P ++ us)
  back : (us : List Token) → Texts I (P ++ us) → Texts J us

reached-more : {I J : List Item} {P : List Token} {i : Item} {x : Token} → Reached I P (i ∷ J) → (a : GoesOn i x) → Reached I (P ++ x ∷ []) (a.adds ++ J)
reached-more {I} {J} {P} {i} {x} r a = record {
  on = λ us t. subst (Texts I) (sym (one_more P x us)) (r.on (x ∷ us) (texts-there a J t));
  back = λ us t. texts-back a J (r.back (x ∷ us) (subst (Texts I) (one_more P x us) t));
}

reached-begins : {I J : List Item} {P : List Token} → Reached I P J → Begins (Texts I) P
reached-begins {J = J} r = let b = completed J in record { rest = b.rest; whole = r.on b.rest b.whole }

-- Where something is expected, the tokens are no text yet.
reached-open : {I J : List Item} {P : List Token} {i : Item} → Reached I P (i ∷ J) → Texts I P → ⊥
reached-open {I} {J} {P} {i} r t = let b = r.back [] (subst (Texts I) (sym (append-nil P)) t) in nothing-follows i J b.value b.follows

reached-stuck : {I J : List Item} {P : List Token} {i : Item} {x : Token} → Reached I P (i ∷ J) → Stuck i x → Begins (Texts I) (P ++ x ∷ []) → ⊥
reached-stuck {I} {J} {P} {i} {x} r a b = let t = r.back (x ∷ b.rest) (subst (Texts I) (one_more P x b.rest) b.whole) in a.nothing J b.rest t.value t.follows

-- What the reader answers where K is expected is what is met first.
abbrev pub Judged : (K : List Item) (M B : List Token → Type 0) → Type 0
Judged K M B = (n : ℕ) (ts : List Token) → Verdict (Texts K) M B ts (run ts n K)

-- The limits of the item in front and those behind it.
abbrev pub Response : (f : Item) (K : List Item) (M N B D : List Token → Type 0) → List Token → {A : Type 0} → Result A Refusal → Type 0
Response f K M N B D ts o = Verdict (Texts (f ∷ K)) (Limit (Texts (f ∷ [])) M N) (Limit (Texts (f ∷ [])) B D) ts o

module _ {S : Places} {M B : List Token → Type 0} (c : Counts S M B) where
  reached-fine : {H I : List Item} {P : List Token} {n : ℕ} → Reached H P I → S I P n → Fine (Texts H) M B P
  reached-fine r s = record { begins = reached-begins r; few = c.few s; small = c.small s }

  module _ (f : Item) (K : List Item) {N D : List Token → Type 0} (h : Judged K N D) where
    abbrev Walks : List Token → Type 0
    Walks ts = (P : List Token) (n : ℕ) (I J : List Item) → Above K I J → Reached (f ∷ []) P I → S I P n → Kept (Texts (f ∷ [])) M B P → Response f K M N B D (P ++ ts) (run ts n J)

    walk-cost : {us : List Token} → Walks us → (i : Item) (x : Token) (I J : List Item) (P : List Token) (n : ℕ) → Above K I J → Reached (f ∷ []) P (i ∷ I) → Kept (Texts (f ∷ [])) M B P → (a : GoesOn i x) → Paying S M B (a.adds ++ I) (P ++ x ∷ []) a.cost n → Response f K M N B D (P ++ x ∷ us) (run (x ∷ us) n (i ∷ J))
    unfolding run
    walk-cost {us} w i x I J P n b r k a (paid {m} sp s) =
        let q = reached-more r a in
        subst
        (Response f K M N B D (P ++ x ∷ us))
        (sym (a.reads J n us ∙ spend-paid (λ m. map (a.with J) (run us m (a.adds ++ J))) sp))
        (verdict-map (a.with J) (subst (λ l. Response f K M N B D l (run us m (a.adds ++ J))) (one_more P x us) (w (P ++ x ∷ []) m (a.adds ++ I) (a.adds ++ J) (above_more a.adds b) q s (kept_more P x k (reached-fine q s)))))
    walk-cost {us} w i x I J P n b r k a (no_node l m) =
        subst
        (Response f K M N B D (P ++ x ∷ us))
        (sym (a.reads J n us ∙ spend-lacks (λ m. map (a.with J) (run us m (a.adds ++ J))) l))
        (refuses (many-front (joins f K) (verdict-none (h 0 [])) P x us k (reached-begins (reached-more r a)) m))
    walk-cost {us} w i x I J P n b r k a (no-succ l m) =
        subst
        (Response f K M N B D (P ++ x ∷ us))
        (sym (a.reads J n us ∙ spend-lacks (λ m. map (a.with J) (run us m (a.adds ++ J))) l))
        (refuses (large-front (joins f K) (verdict-none (h 0 [])) P x us k (reached-begins (reached-more r a)) m))

    walk-token : {us : List Token} → Walks us → (i : Item) (x : Token) (I J : List Item) (P : List Token) (n : ℕ) → Above K I J → Reached (f ∷ []) P (i ∷ I) → S (i ∷ I) P n → Kept (Texts (f ∷ [])) M B P → Advances i x → Response f K M N B D (P ++ x ∷ us) (run (x ∷ us) n (i ∷ J))
    unfolding run
    walk-token w i x I J P n b r s k (goes a) = walk-cost w i x I J P n b r k a (c.pay s a.move)
    walk-token {us} w i x I J P n b r s k (stuck a) =
        subst
        (Response f K M N B D (P ++ x ∷ us))
        (sym (a.refuses J n us))
        (refuses (stray-front (joins f K) (verdict-none (h 0 [])) P x us k (reached-open r) (reached-stuck r a)))

    -- Behind the item.
    walk-behind : (ts : List Token) (P : List Token) (n : ℕ) → Reached (f ∷ []) P [] → Kept (Texts (f ∷ [])) M B P → Response f K M N B D (P ++ ts) (run ts n K)
    walk-behind ts P n r k = verdict-behind (joins f K) (verdict-none (h 0 [])) P (subst (Texts (f ∷ [])) (append-nil P) (r.on [] (record { value = tt; follows = refl }))) k (h n ts)

    walk : (ts : List Token) → Walks ts
    unfolding run
    walk [] P n I J there r s k = walk-behind [] P n r k
    walk (x ∷ ts) P n I J there r s k = walk-behind (x ∷ ts) P n r k
    walk [] P n I J (below b) r s k = subst (λ l. Response f K M N B D l (run [] n J)) (sym (append-nil P)) (refuses (early-front (joins f K) (verdict-none (h 0 [])) P k (reached-open r)))
    walk (x ∷ ts) P n I J (below {i} {I = G} {J = L} b) r s k = walk-token (walk ts) i x G L P n b r s k (advances i x)

    -- From the start of the item.
    pub walked : (n : ℕ) (ts : List Token) → S (f ∷ []) [] n → Response f K M N B D ts (run ts n (f ∷ K))
    walked n ts s = let r : Reached (f ∷ []) [] (f ∷ []) = record { on = λ us t. t; back = λ us t. t } in walk ts [] n (f ∷ []) (f ∷ K) (below there) r s (kept-none (reached-fine r s))
