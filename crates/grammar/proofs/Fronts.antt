-- What stands in front of tokens is one thing at most, and one list of tokens stands behind it.
use Prim.Native.Nat.{ℕ, suc, ◌+◌}
use native.Mathlib.Omega.{arith}
use mathlib.Core.Path.{◌≡◌, refl, sym, ap, ap₂, ◌∙◌, subst}
use mathlib.Core.Bool.{true, false}
use mathlib.Core.List.{List, [], ◌∷◌, ◌++◌, head-eq_of_cons-eq, tail-eq_of_cons-eq}
use lib.ListN.{length}
use Rattle.formula.specs.declared.Sort.{Sort}
use Rattle.formula.specs.declared.Sort.TheVariants.{Faces, Intervals}
use Rattle.formula.specs.Formula.{Face}
use Rattle.formula.specs.Bytes.{Tree}
use Rattle.formula.specs.Answers.{same_bytes}
use Rattle.calculus.specs.Judgement.{Judgement}
use Rattle.calculus.specs.Table.{Pred, predicate, text_bytes}
use Rattle.calculus.specs.Record
use Rattle.calculus.specs.Record.{Field, fields, Values, operands}
use Rattle.calculus.specs.Parse.{judgement_of}
use Rattle.calculus.proofs.Fields.{rebuilt}
use Rattle.kinds.specs.Kinds.{number_of, predicate_of}
use Rattle.kinds.proofs.KindLaws.{numbered}
use Rattle.listing.proofs.LineLaws.{predicate-named}
use Rattle.text.specs.Tokens.{Token, opening, closing, word, begins_word, tokens}
use Rattle.text.specs.Grammar.{Number, bare-zero, zero-list, succ-list, Formula, bare-leaf, leaf-list, lit-list, one_list, two-list}
use Rattle.writing.specs.Texts.{items_text, unary_text, face_text, formula_text}
use Rattle.listing.specs.Lines.{context_text, field_text, value_texts, predicate_name, predicate_names, judgement_text}
use Rattle.grammar.proofs.Advancing.{leaf-one, bare-is, of-leaf, of-lit, of_one, of_two, zero_is, of_zero, of-succ, word-one}
use Rattle.grammar.proofs.Lexing.{is_word, word-tokens, items-apart, list-tokens, item-tokens, end-tokens, place_of, in_place, in_place-at}
use Rattle.grammar.proofs.ReadingBack.{number-written, formula-written}

-- By the grammar ---------------------------------------------------------------------------------------

-- Tokens begin with one number at most, and with one formula of a sort at most, of whatever size.
pub number-front : {n m : ℕ} {ts us vs : List Token} → Number n ts us → Number m ts vs → (n ≡ m) × (us ≡ vs)
number-front (bare-zero p) f = let h = zero_is f in (h.1, sym h.2)
number-front (zero-list p) f = let h = of_zero p f in (h.0, tail-eq_of_cons-eq h.1)
number-front (succ-list p d) f = let h = of-succ p f in let r = number-front d h.text in (ap suc r.0 ∙ h.is, tail-eq_of_cons-eq r.1)

pub formula-front : {s : Sort} {t u : Tree s} {ts us vs : List Token} → Formula s t ts us → Formula s u ts vs → (t ≡ u) × (us ≡ vs)
formula-front (bare-leaf p) f = let h = bare-is f in (leaf-one (sym p ∙ h.0), sym h.1)
formula-front (leaf-list p) f = let h = of-leaf p f in (h.0, tail-eq_of_cons-eq h.1)
formula-front (lit-list {g = g} p d) f = let h = of-lit p f in let r = number-front d h.text in (ap g r.0 ∙ h.is, tail-eq_of_cons-eq r.1)
formula-front (one_list {g = g} p d) f = let h = of_one p f in let r = formula-front d h.text in (ap g r.0 ∙ h.is, tail-eq_of_cons-eq r.1)
formula-front {s} {vs = vs} (two-list {g = g} p d e) f =
    let h = of_two p f in
    let r = formula-front d h.first in
    let q = formula-front e (subst (λ (us : List Token). Formula s h.right us (closing ∷ vs)) (sym r.1) h.second) in
    (ap₂ g r.0 q.0 ∙ h.is, tail-eq_of_cons-eq q.1)

-- By what is printed -----------------------------------------------------------------------------------

-- The texts of x and y, each with what starts a new token behind it, have the same tokens only where x is y.
abbrev pub Apart : {A : Type 0} → (A → List ℕ) → Type 0
Apart {A} T = (x y : A) (r q : List ℕ) → begins_word r ≡ false → begins_word q ≡ false → tokens (T x ++ r) ≡ tokens (T y ++ q) → (x ≡ y) × (tokens r ≡ tokens q)

-- So it is with numbers and formulas.
numbers_apart : Apart unary_text
numbers_apart n m r q h k e = number-front (number-written n r h) (subst (λ (ts : List Token). Number m ts (tokens q)) (sym e) (number-written m q k))

formulas-apart : (s : Sort) → Apart (formula_text s)
formulas-apart s t u r q h k e = formula-front (formula-written s t r h) (subst (λ (ts : List Token). Formula s u ts (tokens q)) (sym e) (formula-written s u q k))

-- The words of contexts.
fnil-word : is_word (text_bytes "fnil") ≡ true
unfolding text_bytes
fnil-word = refl

fc-word : is_word (text_bytes "fc") ≡ true
unfolding text_bytes
fc-word = refl

-- Only the empty context begins with a word.
no-list : {w : List ℕ} {ts us : List Token} → word w ∷ ts ≡ opening ∷ us → ⊥
no-list e = let z : ◌≡◌ {A = ℕ} 0 1 = cc in omega arith

-- The tokens of a context.
context-tokens : (f : Face) (G : List Face) (r : List ℕ) → tokens (context_text (f ∷ G) ++ r) ≡ opening ∷ word (text_bytes "fc") ∷ tokens (face_text f ++ (items_text (context_text G ∷ []) ++ r))
unfolding context_text
context-tokens f G r =
    list-tokens (text_bytes "fc") (face_text f ∷ context_text G ∷ []) r fc-word
    ∙ ap (λ (ts : List Token). opening ∷ word (text_bytes "fc") ∷ ts) (item-tokens (face_text f) (context_text G ∷ []) r)

none-tokens : (r : List ℕ) → begins_word r ≡ false → tokens (context_text [] ++ r) ≡ word (text_bytes "fnil") ∷ tokens r
unfolding context_text
none-tokens r h = word-tokens (text_bytes "fnil") r fnil-word h

-- So it is with contexts, and with whatever stands in a field.
contexts-apart : Apart context_text
contexts-apart [] [] r q h k e = (refl, tail-eq_of_cons-eq (sym (none-tokens r h) ∙ e ∙ none-tokens q k))
contexts-apart [] (g ∷ D) r q h k e = absurd (no-list (sym (none-tokens r h) ∙ e ∙ context-tokens g D q))
contexts-apart (f ∷ G) [] r q h k e = absurd (no-list (sym (none-tokens q k) ∙ sym e ∙ context-tokens f G r))
contexts-apart (f ∷ G) (g ∷ D) r q h k e =
    let x = tail-eq_of_cons-eq (tail-eq_of_cons-eq (sym (context-tokens f G r) ∙ e ∙ context-tokens g D q)) in
    let a = formulas-apart Faces f g (items_text (context_text G ∷ []) ++ r) (items_text (context_text D ∷ []) ++ q) (items-apart (context_text G ∷ []) r) (items-apart (context_text D ∷ []) q) x in
    let y = sym (item-tokens (context_text G) [] r) ∙ a.1 ∙ item-tokens (context_text D) [] q in
    let b = contexts-apart G D (items_text [] ++ r) (items_text [] ++ q) (items-apart [] r) (items-apart [] q) y in
    (ap₂ ◌∷◌ a.0 b.0, tail-eq_of_cons-eq (sym (end-tokens r) ∙ b.1 ∙ end-tokens q))

fields-apart : (c : Field) → Apart (field_text c)
fields-apart Record.number = numbers_apart
fields-apart Record.index = numbers_apart
fields-apart Record.context = contexts-apart
fields-apart Record.end = formulas-apart Intervals
fields-apart (Record.formula s) = formulas-apart s

-- The values of one list of fields.
values-apart : (cs : List Field) (xs ys : Values cs) (r q : List ℕ) → tokens (items_text (value_texts cs xs) ++ r) ≡ tokens (items_text (value_texts cs ys) ++ q) → (xs ≡ ys) × (tokens r ≡ tokens q)
values-apart [] xs ys r q e = (refl, tail-eq_of_cons-eq (sym (end-tokens r) ∙ e ∙ end-tokens q))
values-apart (c ∷ cs) xs ys r q e =
    let X = value_texts cs xs.1 in
    let Y = value_texts cs ys.1 in
    let x = sym (item-tokens (field_text c xs.0) X r) ∙ e ∙ item-tokens (field_text c ys.0) Y q in
    let a = fields-apart c xs.0 ys.0 (items_text X ++ r) (items_text Y ++ q) (items-apart X r) (items-apart Y q) x in
    let b = values-apart cs xs.1 ys.1 r q a.1 in
    (λ i. (a.0 i, b.0 i), b.1)

-- Judgements -------------------------------------------------------------------------------------------

-- They are words, and each is found at its own place: a computed test.
predicates-placed : (in_place predicate_names 0 predicate_names ≡ true) × (length predicate_names ≡ 15)
unfolding text_bytes same_bytes
predicates-placed = (refl, refl)

predicate-known : (p : Pred) → (is_word (predicate_name p) ≡ true) × (place_of (predicate_name p) predicate_names ≡ 0 + number_of p)
predicate-known p =
    let n = numbered p in
    let r = in_place-at predicate_names 0 predicate_names (number_of p) predicates-placed.0 (omega (arith, n.1, predicates-placed.1)) in
    subst (λ (w : List ℕ). (is_word w ≡ true) × (place_of w predicate_names ≡ 0 + number_of p)) (predicate-named p) r

-- A predicate is determined by its name.
predicate-one : (p q : Pred) → predicate_name p ≡ predicate_name q → p ≡ q
predicate-one p q e =
    let z : number_of p ≡ number_of q = omega (arith, (predicate-known p).1, (predicate-known q).1, ap (λ (w : List ℕ). place_of w predicate_names) e) in
    sym (numbered p).0 ∙ ap predicate_of z ∙ (numbered q).0

-- The same predicate and the same values: the same judgement.
operands-apart : (p : Pred) (xs : Values (fields p)) (r q : List ℕ) {o : Pred} → p ≡ o → (ys : Values (fields o)) → tokens (items_text (value_texts (fields p) xs) ++ r) ≡ tokens (items_text (value_texts (fields o) ys) ++ q) → (judgement_of p xs ≡ judgement_of o ys) × (tokens r ≡ tokens q)
operands-apart p xs r q i =
    subst (λ (o : Pred). (ys : Values (fields o)) → tokens (items_text (value_texts (fields p) xs) ++ r) ≡ tokens (items_text (value_texts (fields o) ys) ++ q) → (judgement_of p xs ≡ judgement_of o ys) × (tokens r ≡ tokens q)) i
    (λ ys e. let a = values-apart (fields p) xs ys r q e in (ap (judgement_of p) a.0, a.1))

judgement-tokens : (j : Judgement) (r : List ℕ) → tokens (judgement_text j ++ r) ≡ opening ∷ word (predicate_name (predicate j)) ∷ tokens (items_text (value_texts (fields (predicate j)) (operands j)) ++ r)
unfolding judgement_text
judgement-tokens j r = list-tokens (predicate_name (predicate j)) (value_texts (fields (predicate j)) (operands j)) r (predicate-known (predicate j)).0

-- The text of a judgement determines it, whatever stands behind it.
pub judgements-apart : (j k : Judgement) (r q : List ℕ) → tokens (judgement_text j ++ r) ≡ tokens (judgement_text k ++ q) → (j ≡ k) × (tokens r ≡ tokens q)
judgements-apart j k r q e =
    let x = tail-eq_of_cons-eq (sym (judgement-tokens j r) ∙ e ∙ judgement-tokens k q) in
    let p = predicate-one (predicate j) (predicate k) (word-one (head-eq_of_cons-eq x)) in
    let a = operands-apart (predicate j) (operands j) r q p (operands k) (tail-eq_of_cons-eq x) in
    (sym (rebuilt j) ∙ a.0 ∙ rebuilt k, a.1)
