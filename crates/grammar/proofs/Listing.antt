-- The listing loses nothing: the line of a step determines its number, its rule, its references and its judgement.
use Prim.Native.Nat.{ℕ, zero, suc, ◌+◌, ◌≤◌, ◌<◌}
use native.Mathlib.Omega.{arith}
use mathlib.Core.Path.{◌≡◌, refl, sym, ap, ◌∙◌, subst}
use mathlib.Core.Bool.{Bool, true, false, and-eq-true_iff}
use mathlib.Core.List.{List, [], ◌∷◌, ◌++◌, append_assoc, map, tail-eq_of_cons-eq}
use borrow.Author.Tests.{leb-true, leb-false}
use lib.Dec.{leb}
use lib.ListN.{length, get_or, get_or-map, get_or-eq_default}
use Rattle.formula.specs.Answers.{same_bytes}
use Rattle.calculus.specs.Judgement.{Step}
use Rattle.calculus.specs.Table.{Pred, unlisted, table, entry_of, Listed, text_bytes}
use Rattle.text.specs.Tokens.{class_of, is_spelling, tokens}
use Rattle.kinds.specs.Kinds.{entry_as, name_in, name_bytes}
use Rattle.kinds.proofs.KindLaws.{not-unlisted}
use Rattle.writing.specs.Texts.{decimal_text}
use Rattle.listing.specs.Lines.{judgement_text, references_text, head_text, line_text}
use Rattle.grammar.proofs.Lexing.{is_word, no_true, place_of, in_place, in_place-at}
use Rattle.grammar.proofs.Cutting.{Avoids, cut, decimal-avoids, decimal-one, references-avoid, references-one}
use Rattle.grammar.proofs.Fronts.{judgements-apart}

-- The kind of a step is one of the table.
pub record Named (s : Step) : Type 0 where
  pub count : ℕ
  pub pred : Pred
  pub listed : Listed s.kind count pred

-- Names ------------------------------------------------------------------------------------------------

-- The names of the kinds 1 to 75.
kind_names : List (List ℕ)
kind_names = map name_in table

-- They are words, and each is found at its own place: a computed test.
kinds-placed : (in_place kind_names 0 kind_names ≡ true) × (length kind_names ≡ 75)
unfolding kind_names table text_bytes same_bytes
kinds-placed = (refl, refl)

name-at : (k : ℕ) → get_or kind_names k [] ≡ name_bytes (suc k)
unfolding kind_names name_bytes
name-at k = get_or-map name_in table k unlisted

name-known : (k : ℕ) → k < 75 → (is_word (name_bytes (suc k)) ≡ true) × (place_of (name_bytes (suc k)) kind_names ≡ 0 + k)
name-known k h = subst (λ (w : List ℕ). (is_word w ≡ true) × (place_of w kind_names ≡ 0 + k)) (name-at k) (in_place-at kind_names 0 kind_names k kinds-placed.0 (omega (arith, kinds-placed.1)))

-- Only kinds have names.
entry-above : (k : ℕ) → 75 < k → entry_of k ≡ unlisted
unfolding table
entry-above zero h = absurd (omega arith)
entry-above (suc k) h = let n : length table ≡ 75 = refl in get_or-eq_default table unlisted {n = k} (omega (arith, n))

no_name : (k : ℕ) → 75 < k → name_bytes k ≡ []
unfolding name_bytes
no_name k h = ap name_in (entry-above k h)

named : (k i : ℕ) → i < length (name_bytes k) → k ≤ 75
named k i h = go (leb k 75) refl
  where
    go : (t : Bool) → leb k 75 ≡ t → k ≤ 75
    go true e = leb-true k 75 e
    go false e = absurd (omega (arith, ap length (no_name k (leb-false k 75 e))))

-- No space stands in a word, nor in the name of any number.
no-space : (b : ℕ) → is_spelling (class_of b) ≡ true → b ≡ 32 → ⊥
no-space b h e = no_true (ap (λ (c : ℕ). is_spelling (class_of c)) (sym e) ∙ h)

word-avoids : (w : List ℕ) → is_word w ≡ true → Avoids 32 w
word-avoids [] h = tt
word-avoids (b ∷ []) h = (no-space b h, tt)
word-avoids (b ∷ (c ∷ l)) h = let p = (and-eq-true_iff (is_spelling (class_of b)) (is_word (c ∷ l))).0 h in (no-space b p.0, word-avoids (c ∷ l) p.1)

name-avoids : (k : ℕ) → Avoids 32 (name_bytes k)
unfolding name_bytes
name-avoids zero = tt
name-avoids (suc k) = go (leb (suc k) 75) refl
  where
    go : (t : Bool) → leb (suc k) 75 ≡ t → Avoids 32 (name_bytes (suc k))
    go true e = word-avoids (name_bytes (suc k)) (name-known k (leb-true (suc k) 75 e)).0
    go false e = subst (Avoids 32) (sym (no_name (suc k) (leb-false (suc k) 75 e))) tt

-- A word has a byte.
word-long : (w : List ℕ) → is_word w ≡ true → 0 < length w
word-long [] h = no_true h
word-long (b ∷ l) h = omega arith

-- A kind of the table is determined by its name.
kind-one : (k m : ℕ) → 1 ≤ k → k ≤ 75 → name_bytes k ≡ name_bytes m → k ≡ m
unfolding name_bytes
kind-one zero m h i e = absurd (omega arith)
kind-one (suc k) zero h i e = no_true (ap is_word (sym e) ∙ (name-known k i).0)
kind-one (suc k) (suc m) h i e =
    let p = name-known k i in
    let l : 0 < length (name_bytes (suc m)) = word-long (name_bytes (suc m)) (ap is_word (sym e) ∙ p.0) in
    let q = name-known m (named (suc m) 0 l) in
    omega (arith, p.1, q.1, ap (λ (w : List ℕ). place_of w kind_names) e)

-- The kinds of the table are 1 to 75.
listed-from : (k n : ℕ) (p : Pred) → Listed k n p → 1 ≤ k
listed-from zero n p h = absurd (let e = h.listed in let z : ◌≡◌ {A = ℕ} 0 1 = cc in omega arith)
listed-from (suc k) n p h = omega arith

listed-to : (k n : ℕ) (p : Pred) → Listed k n p → k ≤ 75
listed-to k n p h = go (leb k 75) refl
  where
    go : (t : Bool) → leb k 75 ≡ t → k ≤ 75
    go true e = leb-true k 75 e
    go false e = not-unlisted (ap entry_as (sym (entry-above k (leb-false k 75 e)) ∙ h.listed))

-- Lines ------------------------------------------------------------------------------------------------

-- A line, cut at its spaces and brackets.
line-cut : (i : ℕ) (s : Step) → line_text i s ≡ decimal_text i ++ (32 ∷ name_bytes s.kind ++ (32 ∷ 91 ∷ references_text s.references ++ (93 ∷ 32 ∷ judgement_text s.judgement ++ (10 ∷ []))))
unfolding line_text head_text
line-cut i s = simp append_assoc

-- Neither a space stands in a number, nor a bracket in references.
spaceless : (n : ℕ) → Avoids 32 (decimal_text n)
spaceless = decimal-avoids 32 (λ d h e. omega arith)

bracketless : (is : List ℕ) → Avoids 93 (references_text is)
bracketless = references-avoid 93 (λ d h e. omega arith) (λ e. omega (arith, e))

-- The line of a step determines its number and the step, if its kind is one of the table; numbers that are no kind have no name.
pub line-one : (i k : ℕ) (s t : Step) → Named s → line_text i s ≡ line_text k t → (i ≡ k) × (s ≡ t)
line-one i k s t n e =
    let a = cut 32 (decimal_text i) (decimal_text k) _ _ (spaceless i) (spaceless k) (sym (line-cut i s) ∙ e ∙ line-cut k t) in
    let b = cut 32 (name_bytes s.kind) (name_bytes t.kind) _ _ (name-avoids s.kind) (name-avoids t.kind) a.1 in
    let c = cut 93 (references_text s.references) (references_text t.references) _ _ (bracketless s.references) (bracketless t.references) (tail-eq_of_cons-eq b.1) in
    let K = kind-one s.kind t.kind (listed-from s.kind n.count n.pred n.listed) (listed-to s.kind n.count n.pred n.listed) b.0 in
    let R = references-one s.references t.references c.0 in
    let J = (judgements-apart s.judgement t.judgement (10 ∷ []) (10 ∷ []) (ap tokens (tail-eq_of_cons-eq c.1))).0 in
    (decimal-one a.0, λ x. record { kind = K x; references = R x; judgement = J x })
