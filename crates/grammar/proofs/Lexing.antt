-- The tokens of words, and of lists as the writer prints them.
use Prim.Native.Nat.{ℕ, zero, suc, ◌+◌, ◌<◌}
use native.Mathlib.Omega.{arith}
use mathlib.Core.Path.{◌≡◌, refl, ap, ap₂, ◌∙◌}
use mathlib.Core.Bool.{Bool, true, false, ◌&&◌, and-eq-true_iff}
use mathlib.Core.List.{List, [], ◌∷◌, ◌++◌, append_assoc}
use borrow.Author.Tests.{eqb-true}
use lib.Dec.{eqb}
use lib.ListN.{length, get_or}
use Rattle.text.specs.Tokens.{Token, opening, closing, word, class_of, is_spelling, begins_word, longer, before, tokens}
use Rattle.text.specs.declared.Class.{Class}
use Rattle.text.specs.declared.Class.TheVariants.{Opening, Closing, Separator, Spelling}
use Rattle.std.specs.List.{position_or_len}
use Rattle.formula.specs.Answers.{same_bytes}
use Rattle.writing.specs.Texts.{items_text, list_text}

-- Words ------------------------------------------------------------------------------------------------

-- Are the bytes a word? There is one at least, and each is a part of a word.
abbrev pub is_word : List ℕ → Bool
is_word [] = false
is_word (b ∷ []) = is_spelling (class_of b)
is_word (b ∷ (c ∷ l)) = is_spelling (class_of b) && is_word (c ∷ l)

pub no_true : {A : Type 0} → false ≡ true → A
no_true e = absurd (let z : ◌≡◌ {A = ℕ} 0 1 = cc in omega arith)

spelling : (x : Class) → is_spelling x ≡ true → x ≡ Spelling
spelling Opening p = no_true p
spelling Closing p = no_true p
spelling Separator p = no_true p
spelling Spelling p = refl

-- A word begins inside a word.
word-begins : (b : ℕ) (l m : List ℕ) → is_word (b ∷ l) ≡ true → begins_word ((b ∷ l) ++ m) ≡ true
word-begins b [] m h = h
word-begins b (c ∷ l) m h = ((and-eq-true_iff (is_spelling (class_of b)) (is_word (c ∷ l))).0 h).0

-- A word ends where a new token starts.
pub word-tokens : (w rest : List ℕ) → is_word w ≡ true → begins_word rest ≡ false → tokens (w ++ rest) ≡ word w ∷ tokens rest
unfolding tokens
word-tokens [] rest h e = no_true h
word-tokens (b ∷ []) rest h e = ap₂ (λ (x : Class) (t : Bool). before x b t (tokens rest)) (spelling (class_of b) h) e
word-tokens (b ∷ (c ∷ l)) rest h e =
    let p = (and-eq-true_iff (is_spelling (class_of b)) (is_word (c ∷ l))).0 h in
    ap₂ (λ (x : Class) (t : Bool). before x b t (tokens ((c ∷ l) ++ rest))) (spelling (class_of b) p.0) (word-begins c l rest p.1)
    ∙ ap (longer b) (word-tokens (c ∷ l) rest p.1 e)

-- Lists ------------------------------------------------------------------------------------------------

-- Behind the name of a list, and behind each item, a new token starts.
pub items-apart : (xs : List (List ℕ)) (rest : List ℕ) → begins_word (items_text xs ++ rest) ≡ false
unfolding items_text
items-apart [] rest = refl
items-apart (x ∷ xs) rest = refl

-- The name of a list, its first item, and its end.
pub list-tokens : (name : List ℕ) (xs : List (List ℕ)) (rest : List ℕ) → is_word name ≡ true → tokens (list_text name xs ++ rest) ≡ opening ∷ word name ∷ tokens (items_text xs ++ rest)
unfolding tokens
list-tokens name xs rest h =
    ap (λ (l : List ℕ). opening ∷ tokens l) (append_assoc name (items_text xs) rest) ∙ ap (λ (ts : List Token). opening ∷ ts) (word-tokens name (items_text xs ++ rest) h (items-apart xs rest))

pub item-tokens : (x : List ℕ) (xs : List (List ℕ)) (rest : List ℕ) → tokens (items_text (x ∷ xs) ++ rest) ≡ tokens (x ++ (items_text xs ++ rest))
unfolding tokens items_text
item-tokens x xs rest = ap tokens (append_assoc x (items_text xs) rest)

pub end-tokens : (rest : List ℕ) → tokens (items_text [] ++ rest) ≡ closing ∷ tokens rest
unfolding tokens items_text
end-tokens rest = refl

-- Names ------------------------------------------------------------------------------------------------

-- The place of a word in a list of names; behind the last where it is none of them.
abbrev pub place_of : List ℕ → List (List ℕ) → ℕ
place_of w xs = position_or_len (λ x. same_bytes x w) xs

-- Is each name a word, and found at its own place among all?
abbrev pub in_place : List (List ℕ) → ℕ → List (List ℕ) → Bool
in_place all i [] = true
in_place all i (x ∷ xs) = is_word x && (eqb (place_of x all) i && in_place all (suc i) xs)

pub in_place-at : (all : List (List ℕ)) (i : ℕ) (xs : List (List ℕ)) (k : ℕ) → in_place all i xs ≡ true → k < length xs → (is_word (get_or xs k []) ≡ true) × (place_of (get_or xs k []) all ≡ i + k)
in_place-at all i [] k h b = absurd (omega arith)
in_place-at all i (x ∷ xs) zero h b =
    let p = (and-eq-true_iff (is_word x) _).0 h in
    let q = (and-eq-true_iff (eqb (place_of x all) i) _).0 p.1 in
    (p.0, omega (arith, eqb-true (place_of x all) i q.0))
in_place-at all i (x ∷ xs) (suc k) h b =
    let p = (and-eq-true_iff (is_word x) _).0 h in
    let q = (and-eq-true_iff (eqb (place_of x all) i) _).0 p.1 in
    let r = in_place-at all (suc i) xs k q.1 (omega arith) in
    (r.0, omega (arith, r.1))
