-- What the writer prints is read back.
use Prim.Native.Nat.{ℕ, zero, suc, ◌+◌, ◌-◌, ◌≤◌, ◌<◌}
use borrow.Author.Tests.{lt-ltb}
use native.Mathlib.Omega.{arith}
use mathlib.Core.Path.{◌≡◌, refl, ap, ap₂, ◌∙◌, subst, subst⁻¹}
use mathlib.Core.Bool.{true, false, cond}
use mathlib.Core.List.{List, [], ◌∷◌, ◌++◌, append_assoc, append-nil}
use lib.ListN.{length}
use Rattle.formula.specs.declared.Sort.{Sort}
use Rattle.formula.specs.declared.Sort.TheVariants.{Faces, Intervals}
use Rattle.formula.specs.Formula.{Face}
use Rattle.formula.specs.Bytes.{Tree, leaf, lit, one, two, node_of, nodes, bound, max_nodes, max_bound}
use Rattle.formula.specs.Answers.{same_bytes}
use Rattle.formula.proofs.Nodes.{tree-ind}
use Rattle.calculus.specs.Table.{text_bytes}
use Rattle.text.specs.Tokens.{Token, opening, closing, word, begins_word, tokens}
use Rattle.text.specs.Words.{names, first_kind, kind_named, node_if, node_named, zero_word, succ-word, entails-word}
use Rattle.text.specs.Grammar.{Number, bare-zero, zero-list, succ-list, Formula, bare-leaf, leaf-list, lit-list, one_list, two-list, Claim, entails}
use Rattle.refusals.specs.Refusals.{map}
use Rattle.refusals.specs.declared.Refusal.{Refusal}
use Rattle.std.specs.Prelude.{Some, None, option_map, nat_lt, position, Result, Ok, Err}
use Rattle.text.specs.Reading.{Item, formula, part, number, close, claim, bare_node, max_dim, list_node, run, read_formula, Claimed, read_claim}
use Rattle.writing.specs.Texts.{items_text, unary_text, face_text, formula_text}
use Rattle.writing.specs.Writing.{node_name, Names}
use Rattle.writing.proofs.TextLaws.{spells-as}
use Rattle.grammar.specs.Claims.{claim_text}
use Rattle.grammar.proofs.Lexing.{is_word, word-tokens, items-apart, list-tokens, item-tokens, end-tokens, place_of, in_place, in_place-at}
use Rattle.grammar.proofs.Advancing.{named-made}
use Rattle.grammar.proofs.Accepting.{Within, reads-formula, ClaimWithin, reads-claim}

-- What is printed is a text of the grammar -------------------------------------------------------------

-- The names of a sort's nodes are words, and each names its node: a computed test.
names-placed : (s : Sort) → in_place (names s) 0 (names s) ≡ true
unfolding text_bytes same_bytes
names-placed Faces = refl
names-placed Intervals = refl

names-six : (s : Sort) → length (names s) ≡ 6
names-six Faces = refl
names-six Intervals = refl

-- A word's place among names.
placed-at : (w : List ℕ) (xs : List (List ℕ)) (k : ℕ) → place_of w xs ≡ k → k < length xs → position (λ x. same_bytes x w) xs ≡ Some k
placed-at w xs k e h = ap (λ n. cond (nat_lt n (length xs)) (Some n) None) e ∙ ap (λ t. cond t (Some k) None) (lt-ltb k (length xs) h)

name-known : (s : Sort) (b : ℕ) → Names s b → (is_word (node_name s b) ≡ true) × (node_named s (node_name s b) ≡ node_of s b)
unfolding kind_named
name-known s b h =
    let p = in_place-at (names s) 0 (names s) (b - first_kind s) (names-placed s) (omega (arith, h.from, h.below, names-six s)) in
    let k : first_kind s + (b - first_kind s) ≡ b = omega (arith, h.from) in (
      p.0,
      ap (λ o. node_if s (option_map (λ k. first_kind s + k) o)) (placed-at (node_name s b) (names s) (b - first_kind s) (omega (arith, p.1)) (omega (arith, h.from, h.below, names-six s)))
          ∙ ap (node_of s) k,
    )

-- The words of numbers are words.
z_word : is_word zero_word ≡ true
unfolding text_bytes
z_word = refl

s-word : is_word succ-word ≡ true
unfolding text_bytes
s-word = refl

-- What is printed as x is such, with what starts a new token behind it.
abbrev Printed : (List Token → List Token → Type 0) → List ℕ → Type 0
Printed P x = (rest : List ℕ) → begins_word rest ≡ false → P (tokens (x ++ rest)) (tokens rest)

-- An item of a list, and the last one.
item-printed : (P : List Token → List Token → Type 0) (x : List ℕ) (xs : List (List ℕ)) (rest : List ℕ) → Printed P x → P (tokens (items_text (x ∷ xs) ++ rest)) (tokens (items_text xs ++ rest))
item-printed P x xs rest h = subst⁻¹ (λ (ts : List Token). P ts (tokens (items_text xs ++ rest))) (item-tokens x xs rest) (h (items_text xs ++ rest) (items-apart xs rest))

last-printed : (P : List Token → List Token → Type 0) (x rest : List ℕ) → Printed P x → P (tokens (items_text (x ∷ []) ++ rest)) (closing ∷ tokens rest)
last-printed P x rest h = subst (P (tokens (items_text (x ∷ []) ++ rest))) (end-tokens rest) (item-printed P x [] rest h)

-- The text of a number is one of the grammar, with what starts a new token behind it.
pub number-written : (n : ℕ) (rest : List ℕ) → begins_word rest ≡ false → Number n (tokens (unary_text n ++ rest)) (tokens rest)
unfolding unary_text
number-written zero rest h = subst⁻¹ (λ (ts : List Token). Number 0 ts (tokens rest)) (word-tokens zero_word rest z_word h) (bare-zero refl)
number-written (suc n) rest h =
    subst⁻¹ (λ (ts : List Token). Number (suc n) ts (tokens rest)) (list-tokens succ-word (unary_text n ∷ []) rest s-word) (succ-list refl (last-printed (Number n) (unary_text n) rest (number-written n)))

-- The tokens of a formula, where its text is known.
formula-as : {s : Sort} {t : Tree s} {x y : List ℕ} {ts : List Token} (rest : List ℕ) → x ≡ y → tokens (y ++ rest) ≡ ts → Formula s t ts (tokens rest) → Formula s t (tokens (x ++ rest)) (tokens rest)
formula-as {s} {t} rest e p f = subst⁻¹ (λ (ts : List Token). Formula s t ts (tokens rest)) (ap (λ (l : List ℕ). tokens (l ++ rest)) e ∙ p) f

-- The text of a formula, of whatever size.
pub formula-written : (s : Sort) (t : Tree s) (rest : List ℕ) → begins_word rest ≡ false → Formula s t (tokens (formula_text s t ++ rest)) (tokens rest)
formula-written s =
    tree-ind s (λ t. Printed (Formula s t) (formula_text s t)) (record {
      at_leaf = λ b t e rest h.
          let p = spells-as s b (leaf t) e in
          let k = name-known s b p.named in
          formula-as rest p.text (word-tokens (node_name s b) rest k.0 h) (bare-leaf (k.1 ∙ e));
      at-lit = λ b n g e rest h.
          let p = spells-as s b (lit g) e in
          let k = name-known s b p.named in
          formula-as rest (p.text n) (list-tokens (node_name s b) (unary_text n ∷ []) rest k.0)
          (lit-list (k.1 ∙ e) (last-printed (Number n) (unary_text n) rest (number-written n)));
      at_one = λ b u x e i rest h.
          let p = spells-as s b (one u) e in
          let k = name-known s b p.named in
          formula-as rest (p.text x) (list-tokens (node_name s b) (formula_text s x ∷ []) rest k.0)
          (one_list (k.1 ∙ e) (last-printed (Formula s x) (formula_text s x) rest i));
      at-two = λ b v x y e i j rest h.
          let p = spells-as s b (two v) e in
          let k = name-known s b p.named in
          formula-as rest (p.text x y) (list-tokens (node_name s b) (formula_text s x ∷ formula_text s y ∷ []) rest k.0)
          (two-list (k.1 ∙ e) (item-printed (Formula s x) (formula_text s x) (formula_text s y ∷ []) rest i) (last-printed (Formula s y) (formula_text s y) rest j));
    })

-- The word that a claim starts with is a word.
entails-is-word : is_word entails-word ≡ true
unfolding text_bytes
entails-is-word = refl

-- A space starts a new token, and is none.
spaced : (w l : List ℕ) → is_word w ≡ true → tokens (w ++ (32 ∷ l)) ≡ word w ∷ tokens l
unfolding tokens
spaced w l h = word-tokens w (32 ∷ l) h refl

-- The text of a claim is one of the grammar.
claim-tokens : (d : ℕ) (a b : Face) (rest : List ℕ) → tokens (claim_text d a b ++ rest) ≡ word entails-word ∷ tokens (unary_text d ++ (32 ∷ face_text a ++ (32 ∷ face_text b ++ rest)))
unfolding claim_text
claim-tokens d a b rest =
    let l = unary_text d ++ (32 ∷ face_text a ++ (32 ∷ face_text b ++ rest)) in
    let e : claim_text d a b ++ rest ≡ entails-word ++ (32 ∷ l) = simp append_assoc in
    ap tokens e ∙ spaced entails-word l entails-is-word

pub claim-written : (d : ℕ) (a b : Face) (rest : List ℕ) → begins_word rest ≡ false → Claim d a b (tokens (claim_text d a b ++ rest)) (tokens rest)
unfolding tokens
claim-written d a b rest h =
    let B = 32 ∷ face_text b ++ rest in
    let A = 32 ∷ face_text a ++ B in
    subst⁻¹ (λ (ts : List Token). Claim d a b ts (tokens rest)) (claim-tokens d a b rest) (entails refl (number-written d A refl) (formula-written Faces a B refl) (formula-written Faces b rest h))

-- It is read back --------------------------------------------------------------------------------------

-- The text of a formula within the limits reads as that formula.
pub formula-back : (s : Sort) (t : Tree s) → Within s t → read_formula s (formula_text s t) ≡ Ok t
unfolding tokens
formula-back s t h = reads-formula s (formula_text s t) t (subst (λ (l : List ℕ). Formula s t (tokens l) []) (append-nil (formula_text s t)) (formula-written s t [] refl)) h

-- The text of a claim within the limits reads as that claim.
pub claim-back : (c : Claimed) → ClaimWithin c → read_claim (claim_text c.dimensions c.left c.right) ≡ Ok c
unfolding tokens
claim-back c h =
    let l = claim_text c.dimensions c.left c.right in
    reads-claim l c (subst (λ (l : List ℕ). Claim c.dimensions c.left c.right (tokens l) []) (append-nil l) (claim-written c.dimensions c.left c.right [] refl)) h

-- With anything behind it ------------------------------------------------------------------------------

-- One function behind another.
map-map : {A B C : Type 0} (f : B → C) (g : A → B) (o : Result A Refusal) → map f (map g o) ≡ map (λ x. f (g x)) o
map-map f g (Err e) = refl
map-map f g (Ok x) = refl

-- Where a number is expected, its text is read, and the reader goes on with what stands behind.
number-runs : {n : ℕ} {ts us : List Token} → Number n ts us → (k : ℕ) → n ≤ k → (m : ℕ) (K : List Item) → run ts m (number k ∷ K) ≡ map (λ v. (n, v)) (run us m K)
unfolding run same_bytes text_bytes
number-runs (bare-zero {us = us} p) k h m K = ap (λ (w : List ℕ). run (word w ∷ us) m (number k ∷ K)) p
number-runs (zero-list {us = us} p) k h m K = ap (λ (w : List ℕ). run (opening ∷ word w ∷ closing ∷ us) m (number k ∷ K)) p
number-runs (succ-list p d) zero h m K = absurd (omega (arith, h))
number-runs (succ-list {n = n} {ts} {us} p d) (suc k) h m K =
    ap (λ (w : List ℕ). run (opening ∷ word w ∷ ts) m (number (suc k) ∷ K)) p
    ∙ ap (map (λ v. (suc v.0, v.1))) (number-runs d k (omega (arith, h)) m (close ∷ K))
    ∙ map-map (λ v. (suc v.0, v.1)) (λ v. (n, v)) (run us m K)

-- Where a part is expected, and n nodes are left.
part-runs : {s : Sort} {t : Tree s} {ts us : List Token} → Formula s t ts us → bound s t ≤ max_bound → (n m : ℕ) → m + nodes s t ≡ n → (K : List Item) → run ts n (part s ∷ K) ≡ map (λ v. (t, v)) (run us m K)
unfolding run
part-runs {s} (bare-leaf {w} {t} {us} p) h n m e K =
    let c = (named-made s w (leaf t) (λ e. cc) p).1 in
    let z : n ≡ suc m = omega (arith, e, c.count) in
    ap₂ (λ x n. bare_node x n K (run us)) p z
part-runs {s} (leaf-list {w} {t} {us} p) h n m e K =
    let c = (named-made s w (leaf t) (λ e. cc) p).1 in
    let z : n ≡ suc m = omega (arith, e, c.count) in
    ap₂ (λ x n. list_node s x n K (run (closing ∷ us))) p z
part-runs {s} (lit-list {w} {g} {n = k} {ts} {us} p d) h n m e K =
    let c = (named-made s w (lit g) (λ e. cc) p).1 k in
    let z : n ≡ suc m = omega (arith, e, c.count) in
    ap₂ (λ x n. list_node s x n K (run ts)) p z
    ∙ ap (map (λ v. (g v.0, v.1))) (number-runs d max_dim (omega (arith, h, c.top)) m (close ∷ K))
    ∙ map-map (λ v. (g v.0, v.1)) (λ v. (k, v)) (run us m K)
part-runs {s} (one_list {w} {g} {a} {ts} {us} p d) h n m e K =
    let c = (named-made s w (one g) (λ e. cc) p).1 a in
    let z : n ≡ suc (m + nodes s a) = omega (arith, e, c.count) in
    ap₂ (λ x n. list_node s x n K (run ts)) p z
    ∙ ap (map (λ v. (g v.0, v.1))) (part-runs d (omega (arith, h, c.top)) (m + nodes s a) m refl (close ∷ K))
    ∙ map-map (λ v. (g v.0, v.1)) (λ v. (a, v)) (run us m K)
part-runs {s} (two-list {w} {g} {a} {b} {ts} {us} {vs} p d f) h n m e K =
    let c = (named-made s w (two g) (λ e. cc) p).1 a b in
    let z : n ≡ suc (m + nodes s b + nodes s a) = omega (arith, e, c.count) in
    ap₂ (λ x n. list_node s x n K (run ts)) p z
    ∙ ap (map (λ v. (g v.0 v.1.0, v.1.1))) (part-runs d (omega (arith, h, c.top)) (m + nodes s b + nodes s a) (m + nodes s b) refl (part s ∷ close ∷ K) ∙ ap (map (λ v. (a, v))) (part-runs f (omega (arith, h, c.top)) (m + nodes s b) m refl (close ∷ K)))
    ∙ ap (map (λ v. (g v.0 v.1.0, v.1.1))) (map-map (λ v. (a, v)) (λ v. (b, v)) (run vs m K))
    ∙ map-map (λ v. (g v.0 v.1.0, v.1.1)) (λ v. (a, (b, v))) (run vs m K)

-- Where a number of at most k is expected, the text of n is read, and the reader goes on with what stands behind it.
pub number-onward : (n k : ℕ) → n ≤ k → (rest : List ℕ) → begins_word rest ≡ false → (m : ℕ) (K : List Item) → run (tokens (unary_text n ++ rest)) m (number k ∷ K) ≡ map (λ v. (n, v)) (run (tokens rest) m K)
number-onward n k h rest e m K = number-runs (number-written n rest e) k h m K

-- A formula is a part whose nodes are counted anew.
anew : (s : Sort) (ts : List Token) (n : ℕ) (K : List Item) → run ts n (formula s ∷ K) ≡ run ts max_nodes (part s ∷ K)
unfolding run
anew s [] n K = refl
anew s (x ∷ ts) n K = refl

-- Where a formula is expected, the text of t is read; m is what is left of the nodes that it may have.
pub formula-onward : (s : Sort) (t : Tree s) → Within s t → (rest : List ℕ) → begins_word rest ≡ false → (n m : ℕ) → m + nodes s t ≡ max_nodes → (K : List Item) → run (tokens (formula_text s t ++ rest)) n (formula s ∷ K) ≡ map (λ v. (t, v)) (run (tokens rest) m K)
formula-onward s t h rest e n m z K = anew s (tokens (formula_text s t ++ rest)) n K ∙ part-runs (formula-written s t rest e) h.1 max_nodes m z K

-- Where a claim is expected; m is what is left of the nodes of its second face.
pub claim-onward : (c : Claimed) → ClaimWithin c → (rest : List ℕ) → begins_word rest ≡ false → (n m : ℕ) → m + nodes Faces c.right ≡ max_nodes → (K : List Item)
    → run (tokens (claim_text c.dimensions c.left c.right ++ rest)) n (claim ∷ number max_bound ∷ formula Faces ∷ formula Faces ∷ K) ≡ map (λ v. (c.dimensions, (c.left, (c.right, v)))) (run (tokens rest) m K)
unfolding tokens run same_bytes text_bytes
claim-onward c h rest e n m z K =
    let d = c.dimensions in
    let a = c.left in
    let b = c.right in
    let B = 32 ∷ face_text b ++ rest in
    let A = 32 ∷ face_text a ++ B in
    let k : ℕ = max_nodes - nodes Faces a in
    let F = formula Faces ∷ K in
    ap (λ (ts : List Token). run ts n (claim ∷ number max_bound ∷ formula Faces ∷ F)) (claim-tokens d a b rest)
    ∙ number-onward d max_bound h.0 A refl n (formula Faces ∷ F)
    ∙ ap (map (λ v. (d, v))) (formula-onward Faces a h.1 B refl n k (omega (arith, h.1)) F)
    ∙ map-map (λ v. (d, v)) (λ v. (a, v)) (run (tokens B) k F)
    ∙ ap (map (λ v. (d, (a, v)))) (formula-onward Faces b h.2 rest e k m z K)
    ∙ map-map (λ v. (d, (a, v))) (λ v. (b, v)) (run (tokens rest) m K)
