-- Tokens at places of a text.
use Prim.Native.Nat.{ℕ, suc, ◌+◌, ◌-◌, ◌≤◌, ◌<◌}
use native.Mathlib.Omega.{arith}
use mathlib.Core.Path.{◌≡◌, refl, sym, ap, ap₂, ◌∙◌, subst}
use mathlib.Core.Bool.{Bool, true, false, cond, not}
use Rattle.std.specs.Prelude.{Some, None, unwrap_or, nat_lt, position}
use Rattle.std.specs.List.{position_or_len}
use Rattle.std.proofs.lemmas.List.Recursion.{is_position_or_len}
use mathlib.Core.List.{List, [], ◌∷◌}
use lib.Dec.{eqb}
use lib.ListN.{length, get_or, take, drop, length-drop}
use lib.Seq.{drop-cons, drop-drop, drop-length, get_or-drop}
use borrow.Author.Tests.{eqb-true, eqb-false, eq-eqb, ne_eqb}
use Rattle.formula.specs.Answers.{pick}
use Rattle.text.specs.Tokens.{Token, word, class_of, is_spelling, begins_word, before, tokens}
use Rattle.text.specs.Scanning.{class_number, span_of, between, Lexes}
use Rattle.text.specs.declared.Class.{Class}
use Rattle.text.specs.declared.Class.TheVariants.{Opening, Closing, Separator, Spelling}
use Rattle.text.specs.declared.Token.TheVariants.{Open, Close, Word, End}

-- Classes by their numbers.
class_as : (x y : Class) → class_number x ≡ class_number y → x ≡ y
class_as Opening Opening e = refl
class_as Closing Closing e = refl
class_as Separator Separator e = refl
class_as Spelling Spelling e = refl
class_as Opening Closing e = absurd (omega (arith, e))
class_as Opening Separator e = absurd (omega (arith, e))
class_as Opening Spelling e = absurd (omega (arith, e))
class_as Closing Opening e = absurd (omega (arith, e))
class_as Closing Separator e = absurd (omega (arith, e))
class_as Closing Spelling e = absurd (omega (arith, e))
class_as Separator Opening e = absurd (omega (arith, e))
class_as Separator Closing e = absurd (omega (arith, e))
class_as Separator Spelling e = absurd (omega (arith, e))
class_as Spelling Opening e = absurd (omega (arith, e))
class_as Spelling Closing e = absurd (omega (arith, e))
class_as Spelling Separator e = absurd (omega (arith, e))

class-spells : (x : Class) → (x ≡ Opening → ⊥) → (x ≡ Closing → ⊥) → (x ≡ Separator → ⊥) → x ≡ Spelling
class-spells Opening a b c = absurd (a refl)
class-spells Closing a b c = absurd (b refl)
class-spells Separator a b c = absurd (c refl)
class-spells Spelling a b c = refl

-- A list from a place on.
cons-at : (l : List ℕ) (i : ℕ) → i < length l → drop i l ≡ get_or l i 0 ∷ drop (i + 1) l
cons-at l i h = let p : suc i ≡ i + 1 = omega arith in drop-cons l i 0 h ∙ ap (λ (k : ℕ). get_or l i 0 ∷ drop k l) p

-- Runs ---------------------------------------------------------------------------------------------

span-yes : (c : Class) (b : ℕ) (l : List ℕ) → class_number (class_of b) ≡ class_number c → span_of c (b ∷ l) ≡ suc (span_of c l)
unfolding span_of
span-yes c b l e = ap (λ (t : Bool). pick t (suc (span_of c l)) 0) (eq-eqb _ _ e)

span-no : (c : Class) (b : ℕ) (l : List ℕ) → (class_number (class_of b) ≡ class_number c → ⊥) → span_of c (b ∷ l) ≡ 0
unfolding span_of
span-no c b l e = ap (λ (t : Bool). pick t (suc (span_of c l)) 0) (ne_eqb _ _ e)

-- Does a byte end a run of the class?
abbrev pub other : Class → ℕ → Bool
other c b = not (eqb (class_number (class_of b)) (class_number c))

-- A run ends in the list, and before a byte of another class.
span-short : (c : Class) (l : List ℕ) → span_of c l ≤ length l
unfolding span_of
span-short c [] = omega arith
span-short c (b ∷ l) = go (eqb (class_number (class_of b)) (class_number c)) (span-short c l)
  where
    go : (t : Bool) → span_of c l ≤ length l → pick t (suc (span_of c l)) 0 ≤ suc (length l)
    go true h = omega (arith, h)
    go false h = omega arith

span-other : (c : Class) (l : List ℕ) → span_of c l < length l → class_number (class_of (get_or l (span_of c l) 0)) ≡ class_number c → ⊥
unfolding span_of
span-other c [] h e = omega (arith, h)
span-other c (b ∷ l) h e = go (eqb (class_number (class_of b)) (class_number c)) refl (span-other c l) h e
  where
    go : (t : Bool) → eqb (class_number (class_of b)) (class_number c) ≡ t → (span_of c l < length l → class_number (class_of (get_or l (span_of c l) 0)) ≡ class_number c → ⊥) → pick t (suc (span_of c l)) 0 < suc (length l) → class_number (class_of (get_or (b ∷ l) (pick t (suc (span_of c l)) 0) 0)) ≡ class_number c → ⊥
    go true p k h e = k (omega (arith, h)) e
    go false p k h e = eqb-false _ _ p e

-- The same run, by the first byte that ends it.
span-position : (c : Class) (l : List ℕ) → span_of c l ≡ position_or_len (other c) l
unfolding span_of
span-position c l = is_position_or_len (span_of c) (other c) refl (λ b m. go (eqb (class_number (class_of b)) (class_number c)) (span_of c m)) l
  where
    go : (t : Bool) (n : ℕ) → pick t (suc n) 0 ≡ cond (not t) 0 (1 + n)
    go true n = omega arith
    go false n = refl

pub span-found : (c : Class) (l : List ℕ) {n : ℕ} → position (other c) l ≡ Some n → n ≡ span_of c l
span-found c l {n} e = go (nat_lt (position_or_len (other c) l) (length l)) e
  where
    go : (t : Bool) → cond t (Some (position_or_len (other c) l)) None ≡ Some n → n ≡ span_of c l
    go true p = sym (ap (λ o. unwrap_or o 0) p) ∙ sym (span-position c l)
    go false p = cc

pub span-none : (c : Class) (l : List ℕ) → position (other c) l ≡ None → span_of c l ≡ length l
span-none c l e = go (nat_lt (position_or_len (other c) l) (length l)) refl e
  where
    go : (t : Bool) → nat_lt (position_or_len (other c) l) (length l) ≡ t → cond t (Some (position_or_len (other c) l)) None ≡ None → span_of c l ≡ length l
    go true p q = cc
    go false p q = let k = span-position c l in let h = span-short c l in grind (arith, p, k, h)

-- Tokens -------------------------------------------------------------------------------------------

gap : (l : List ℕ) → tokens l ≡ tokens (drop (span_of Separator l) l)
unfolding tokens span_of
gap [] = refl
gap (b ∷ l) = go (eqb (class_number (class_of b)) (class_number Separator)) refl (gap l)
  where
    go : (t : Bool) → eqb (class_number (class_of b)) (class_number Separator) ≡ t → tokens l ≡ tokens (drop (span_of Separator l) l) → tokens (b ∷ l) ≡ tokens (drop (pick t (suc (span_of Separator l)) 0) (b ∷ l))
    go true p h = ap (λ (x : Class). before x b (begins_word l) (tokens l)) (class_as (class_of b) Separator (eqb-true _ _ p)) ∙ h
    go false p h = refl

spelled : (b : ℕ) (l : List ℕ) → class_of b ≡ Spelling → tokens (b ∷ l) ≡ word (take (span_of Spelling (b ∷ l)) (b ∷ l)) ∷ tokens (drop (span_of Spelling (b ∷ l)) (b ∷ l))
unfolding tokens span_of
spelled b [] e =
    ap (λ (x : Class). before x b false []) e
    ∙ ap (λ (n : ℕ). word (take n (b ∷ [])) ∷ tokens (drop n (b ∷ []))) (sym (span-yes Spelling b [] (ap class_number e)))
spelled b (c ∷ l) e = go (is_spelling (class_of c)) refl (spelled c l)
  where
    is : tokens (b ∷ c ∷ l) ≡ before Spelling b (begins_word (c ∷ l)) (tokens (c ∷ l))
    is = ap (λ (x : Class). before x b (begins_word (c ∷ l)) (tokens (c ∷ l))) e

    long : span_of Spelling (b ∷ c ∷ l) ≡ suc (span_of Spelling (c ∷ l))
    long = span-yes Spelling b (c ∷ l) (ap class_number e)

    Cut : ℕ → List Token
    Cut n = word (take n (b ∷ c ∷ l)) ∷ tokens (drop n (b ∷ c ∷ l))

    spelling : (x : Class) → is_spelling x ≡ true → x ≡ Spelling
    spelling Opening p = absurd (let z : ◌≡◌ {A = ℕ} 0 1 = cc in omega arith)
    spelling Closing p = absurd (let z : ◌≡◌ {A = ℕ} 0 1 = cc in omega arith)
    spelling Separator p = absurd (let z : ◌≡◌ {A = ℕ} 0 1 = cc in omega arith)
    spelling Spelling p = refl

    not_three : (x : Class) → is_spelling x ≡ false → class_number x ≡ 3 → ⊥
    not_three Opening p q = omega (arith, q)
    not_three Closing p q = omega (arith, q)
    not_three Separator p q = omega (arith, q)
    not_three Spelling p q = absurd (let z : ◌≡◌ {A = ℕ} 0 1 = cc in omega arith)

    go : (t : Bool) → is_spelling (class_of c) ≡ t → (class_of c ≡ Spelling → tokens (c ∷ l) ≡ word (take (span_of Spelling (c ∷ l)) (c ∷ l)) ∷ tokens (drop (span_of Spelling (c ∷ l)) (c ∷ l))) → tokens (b ∷ c ∷ l) ≡ Cut (span_of Spelling (b ∷ c ∷ l))
    go true p h =
        is
        ∙ ap₂ (λ (t : Bool) (ts : List Token). before Spelling b t ts) p (h (spelling (class_of c) p))
        ∙ ap Cut (sym long)
    go false p h =
        is
        ∙ ap (λ (t : Bool). before Spelling b t (tokens (c ∷ l))) p
        ∙ ap Cut (sym (long ∙ ap suc (span-no Spelling c l (not_three (class_of c) p))))

-- The first token from a place on ----------------------------------------------------------------------

module _ (l : List ℕ) {i at : ℕ} (inside : i ≤ length l) (gapped : at ≡ i + span_of Separator (drop i l)) where
  pub at-inside : at ≤ length l
  at-inside = omega (arith, span-short Separator (drop i l), length-drop i l)

  from-gap : tokens (drop i l) ≡ tokens (drop at l)
  from-gap = gap (drop i l) ∙ ap tokens (drop-drop (span_of Separator (drop i l)) i l ∙ ap (λ (k : ℕ). drop k l) (sym gapped))

  pub lexes-end : at ≡ length l → Lexes l i End
  unfolding tokens
  lexes-end e = record { it = from-gap ∙ ap (λ (k : ℕ). tokens (drop k l)) e ∙ ap tokens (drop-length l) }

  module _ (here : at < length l) where
    byte : tokens (drop at l) ≡ before (class_of (get_or l at 0)) (get_or l at 0) (begins_word (drop (at + 1) l)) (tokens (drop (at + 1) l))
    unfolding tokens
    byte = ap tokens (cons-at l at here)

    pub lexes-open : class_of (get_or l at 0) ≡ Opening → Lexes l i (Open (at + 1))
    lexes-open e = record { it = (from-gap ∙ byte ∙ ap (λ (x : Class). before x (get_or l at 0) (begins_word (drop (at + 1) l)) (tokens (drop (at + 1) l))) e, omega (arith, gapped), omega (arith, here)) }

    pub lexes-close : class_of (get_or l at 0) ≡ Closing → Lexes l i (Close (at + 1))
    lexes-close e = record { it = (from-gap ∙ byte ∙ ap (λ (x : Class). before x (get_or l at 0) (begins_word (drop (at + 1) l)) (tokens (drop (at + 1) l))) e, omega (arith, gapped), omega (arith, here)) }

    not-gap : class_of (get_or l at 0) ≡ Separator → ⊥
    not-gap e =
        span-other Separator (drop i l) (omega (arith, gapped, here, length-drop i l))
        (ap (λ (b : ℕ). class_number (class_of b)) (get_or-drop i l (span_of Separator (drop i l)) 0 ∙ ap (λ (k : ℕ). get_or l k 0) (sym gapped)) ∙ ap class_number e)

    pub lexes-word : {e : ℕ} → (class_of (get_or l at 0) ≡ Opening → ⊥) → (class_of (get_or l at 0) ≡ Closing → ⊥) → e ≡ at + span_of Spelling (drop at l) → Lexes l i (Word at e)
    lexes-word {e} p q r =
        let s = class-spells (class_of (get_or l at 0)) p q not-gap in
        let d = cons-at l at here in
        let n : span_of Spelling (drop at l) ≡ suc (span_of Spelling (drop (at + 1) l)) = ap (span_of Spelling) d ∙ span-yes Spelling (get_or l at 0) (drop (at + 1) l) (ap class_number s) in
        let t : tokens (drop at l) ≡ word (take (span_of Spelling (drop at l)) (drop at l)) ∷ tokens (drop (span_of Spelling (drop at l)) (drop at l)) = subst (λ (m : List ℕ). tokens m ≡ word (take (span_of Spelling m) m) ∷ tokens (drop (span_of Spelling m) m)) (sym d) (spelled (get_or l at 0) (drop (at + 1) l) s) in
        let m : span_of Spelling (drop at l) ≡ e - at = omega (arith, r) in
        let u : take (span_of Spelling (drop at l)) (drop at l) ≡ between at e l = ap (λ (k : ℕ). take k (drop at l)) m in
        let v : drop (span_of Spelling (drop at l)) (drop at l) ≡ drop e l = drop-drop (span_of Spelling (drop at l)) at l ∙ ap (λ (k : ℕ). drop k l) (sym r) in
        record { it = (from-gap ∙ t ∙ ap₂ (λ (w m : List ℕ). word w ∷ tokens m) u v, omega (arith, gapped), omega (arith, r, n), omega (arith, r, span-short Spelling (drop at l), length-drop at l)) }
