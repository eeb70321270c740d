-- The reader refuses a text exactly by what is met first in it, from left to right.
use Prim.Native.Nat.{ℕ, suc}
use native.Mathlib.Omega.{arith}
use mathlib.Core.Path.{◌≡◌, refl, sym, ap, ◌∙◌, subst}
use mathlib.Core.List.{List, [], ◌∷◌, ◌++◌, cons≢nil, append_assoc}
use Rattle.formula.specs.declared.Sort.{Sort}
use Rattle.formula.specs.declared.Sort.TheVariants.{Faces}
use Rattle.formula.specs.Bytes.{max_bound}
use Rattle.refusals.specs.declared.Refusal.{Refusal}
use Rattle.std.specs.Prelude.{Err}
use Rattle.text.specs.Tokens.{Token, word, tokens}
use Rattle.text.specs.Words.{succ-word, entails-word}
use Rattle.text.specs.Grammar.{Number, Formula}
use Rattle.text.specs.Reading.{Item, formula, part, number, claim, max_dim, run, read_formula, read_claim}
use Rattle.text.proofs.WholeLaws.{formula-part}
use Rattle.grammar.specs.Meeting.{Begins, Fine, no_text, at-token, heads, pairs, EndsIn, FormulaText, ManyNodes, ManySuccs, FormulaMet, NumberText, ClaimText, Front, of-first, of-second, InFace, LargeNumber, of-d, of-face, ClaimMet}
use Rattle.grammar.proofs.Accepting.{claimed, claim-follows, follows-claim}
use Rattle.grammar.proofs.Beginnings.{Splits, longer, shorter, splits, kept-none, Apart, Verdict, refuses, accepts, verdict-map, verdict-met, met-verdict, Same, begins-same, verdict-same}
use Rattle.grammar.proofs.Composing.{Past, Limit, within, beyond, front_same}
use Rattle.grammar.proofs.Walking.{Texts, completed, Judged}
use Rattle.grammar.proofs.Counting.{heads-append, ends-succ, succ-no-head, formula-walked, number-walked, claim-walked}

-- Where nothing is expected.
abbrev Never : List Token → Type 0
Never P = ⊥

none-fine : Fine (Texts []) Never Never []
none-fine = record { begins = completed []; few = λ e. e; small = λ e. e }

judged-none : Judged [] Never Never
unfolding run
judged-none n [] = accepts (kept-none none-fine) (record { value = tt; follows = refl })
judged-none n (x ∷ ts) = refuses (at-token [] x ts refl (kept-none none-fine) (no_text (λ b. cons≢nil b.whole.follows)))

-- A formula ---------------------------------------------------------------------------------------------

formula-there : (s : Sort) (P : List Token) → Texts (part s ∷ []) P → FormulaText s P
formula-there s P t = (t.value.0, subst (Formula s t.value.0 P) t.follows.second t.follows.first)

formula-back : (s : Sort) (P : List Token) → FormulaText s P → Texts (part s ∷ []) P
formula-back s P h = record { value = (h.0, tt); follows = record { behind = []; first = h.1; second = refl } }

judged-formula : (s : Sort) (K : List Item) {N D : List Token → Type 0} → Judged K N D → Judged (formula s ∷ K) (Limit (FormulaText s) (ManyNodes s) N) (Limit (FormulaText s) ManySuccs D)
judged-formula s K {N} {D} h n ts =
    subst
    (Verdict (Texts (formula s ∷ K)) (Limit (FormulaText s) (ManyNodes s) N) (Limit (FormulaText s) ManySuccs D) ts)
    (sym (formula-part ts n s K))
    (verdict-same (front_same (formula-there s) (formula-back s) (λ P t. record { value = t.value; follows = t.follows }) (λ P t. record { value = t.value; follows = t.follows })) (formula-walked s K h ts))

-- Behind it nothing is expected.
only-formula : (s : Sort) → Same (Texts (formula s ∷ [])) (Limit (FormulaText s) (ManyNodes s) Never) (Limit (FormulaText s) ManySuccs Never) (FormulaText s) (ManyNodes s) ManySuccs
only-formula s = record {
  there = there;
  back = λ P t. let h = formula-back s P t in record { value = h.value; follows = h.follows };
  many-there = λ P b m. inside m;
  many-back = λ P b m. within (begins-same there b) m;
  large-there = λ P b m. inside m;
  large-back = λ P b m. within (begins-same there b) m;
}
  where
    there : (P : List Token) → Texts (formula s ∷ []) P → FormulaText s P
    there P t = formula-there s P (record { value = t.value; follows = t.follows })

    inside : {M : List Token → Type 0} {P : List Token} → Limit (FormulaText s) M Never P → M P
    inside (within b m) = m
    inside (beyond p) = absurd p.such

-- A head is no s.
formula-apart : (s : Sort) → Apart (FormulaText s) (ManyNodes s) ManySuccs
formula-apart s P x f m e = omega (arith, heads-append s P (x ∷ []), f.few, m, succ-no-head s (ends-succ P x e))

formula-verdict : (s : Sort) (l : List ℕ) → Verdict (FormulaText s) (ManyNodes s) ManySuccs (tokens l) (read_formula s l)
unfolding read_formula
formula-verdict s l = verdict-map (λ v. v.0) (verdict-same (only-formula s) (judged-formula s [] judged-none 0 (tokens l)))

-- A text is refused as a formula exactly by what is met first in it.
pub formula-met : (s : Sort) (l : List ℕ) (e : Refusal) → read_formula s l ≡ Err e → FormulaMet s (tokens l) e
formula-met s l e p = verdict-met (formula-verdict s l) p

pub met-formula : (s : Sort) (l : List ℕ) (e : Refusal) → FormulaMet s (tokens l) e → read_formula s l ≡ Err e
met-formula s l e m = met-verdict (formula-apart s) (formula-verdict s l) m

-- A claim -----------------------------------------------------------------------------------------------

-- d in front.
number-there : (m : ℕ) (P : List Token) → Texts (number m ∷ []) P → NumberText P
number-there m P t = (t.value.0, subst (Number t.value.0 P) t.follows.second t.follows.first)

number-back : (m : ℕ) (P : List Token) → NumberText P → Texts (number m ∷ []) P
number-back m P h = record { value = (h.0, tt); follows = record { behind = []; first = h.1; second = refl } }

judged-number : (m : ℕ) (K : List Item) {N D : List Token → Type 0} → Judged K N D → Judged (number m ∷ K) (Limit NumberText Never N) (Limit NumberText (EndsIn (suc m)) D)
judged-number m K h n ts = verdict-same (front_same (number-there m) (number-back m) (λ P t. t) (λ P t. t)) (number-walked m K h n ts)

-- The word in front.
abbrev Entails : List Token → Type 0
Entails P = P ≡ word entails-word ∷ []

entails-there : (P : List Token) → Texts (claim ∷ []) P → Entails P
entails-there P t = t.follows.first ∙ ap (λ l. word entails-word ∷ l) t.follows.second

entails-back : (P : List Token) → Entails P → Texts (claim ∷ []) P
entails-back P e = record { value = tt; follows = record { behind = []; first = e; second = refl } }

judged-claim : (K : List Item) {N D : List Token → Type 0} → Judged K N D → Judged (claim ∷ K) (Limit Entails Never N) (Limit Entails Never D)
judged-claim K h n ts = verdict-same (front_same entails-there entails-back (λ P t. t) (λ P t. t)) (claim-walked K h n ts)

-- The limits of the faces, behind the word and d.
abbrev FaceLimits : (List Token → Type 0) → List Token → Type 0
FaceLimits T = Limit (FormulaText Faces) T (Limit (FormulaText Faces) T Never)

second-face : {T : List Token → Type 0} {P : List Token} (D F R : List Token) → P ≡ word entails-word ∷ D ++ (F ++ R) → NumberText D → FormulaText Faces F → Limit (FormulaText Faces) T Never R → InFace T P
second-face D F R e d f (within b m) = record { front = word entails-word ∷ D ++ F; face = R; is = e ∙ ap (λ l. word entails-word ∷ l) (sym (append_assoc D F R)); before = of-second d f; begins = b; such = m }
second-face D F R e d f (beyond p) = absurd p.such

face-there : {T : List Token → Type 0} {P : List Token} (D R : List Token) → P ≡ word entails-word ∷ D ++ R → NumberText D → FaceLimits T R → InFace T P
face-there D R e d (within b m) = record { front = word entails-word ∷ D; face = R; is = e; before = of-first d; begins = b; such = m }
face-there D R e d (beyond p) = second-face D p.front p.rest (e ∙ ap (λ l. word entails-word ∷ D ++ l) p.is) d p.before p.such

-- Behind the word and d, and behind the word.
behind-d : {T : List Token → Type 0} {P : List Token} (D R : List Token) → P ≡ word entails-word ∷ D ++ R → NumberText D → FaceLimits T R → Past Entails (Past NumberText (FaceLimits T)) P
behind-d D R e d m = record { front = word entails-word ∷ []; rest = D ++ R; is = e; before = refl; such = record { front = D; rest = R; is = refl; before = d; such = m } }

face-back : {T : List Token → Type 0} {P R : List Token} (A : List Token) → P ≡ A ++ R → Front A → Begins (FormulaText Faces) R → T R → Past Entails (Past NumberText (FaceLimits T)) P
face-back {R = R} A e (of-first {D} d) b m = behind-d D R e d (within b m)
face-back {R = R} A e (of-second {D} {F} d f) b m = behind-d D (F ++ R) (e ∙ ap (λ l. word entails-word ∷ l) (append_assoc D F R)) d (beyond (record { front = F; rest = R; is = refl; before = f; such = within b m }))

-- A limit is met in d or in a face.
abbrev ClaimLimits : (X T : List Token → Type 0) → List Token → Type 0
ClaimLimits X T = Limit Entails Never (Limit NumberText X (FaceLimits T))

in-number : {X T : List Token → Type 0} {P : List Token} {C : Type 0} (R : List Token) → P ≡ word entails-word ∷ R → ((R : List Token) → P ≡ word entails-word ∷ R → Begins NumberText R → X R → C) → (InFace T P → C) → Limit NumberText X (FaceLimits T) R → C
in-number R e c k (within b m) = c R e b m
in-number R e c k (beyond q) = k (face-there q.front q.rest (e ∙ ap (λ l. word entails-word ∷ l) q.is) q.before q.such)

limit-there : {X T : List Token → Type 0} {P : List Token} {C : Type 0} → ((R : List Token) → P ≡ word entails-word ∷ R → Begins NumberText R → X R → C) → (InFace T P → C) → ClaimLimits X T P → C
limit-there c k (within b m) = absurd m
limit-there c k (beyond p) = in-number p.rest (p.is ∙ ap (λ l. l ++ p.rest) p.before) c k p.such

limit-back : {X T : List Token → Type 0} {P : List Token} → InFace T P → ClaimLimits X T P
limit-back h = let p = face-back h.front h.is h.before h.begins h.such in beyond (record { front = p.front; rest = p.rest; is = p.is; before = p.before; such = beyond p.such })

large-back : {P : List Token} → LargeNumber P → ClaimLimits (EndsIn (suc max_bound)) ManySuccs P
large-back (of-d h) = beyond (record { front = word entails-word ∷ []; rest = h.number; is = h.is; before = refl; such = within h.begins h.such })
large-back (of-face h) = limit-back h

whole-claim : Same (Texts claimed) (ClaimLimits Never (ManyNodes Faces)) (ClaimLimits (EndsIn (suc max_bound)) ManySuccs) ClaimText (InFace (ManyNodes Faces)) LargeNumber
whole-claim = record {
  there = λ P t. let v = t.value in (v.0, v.1.0, v.1.1.0, follows-claim v t.follows);
  back = λ P c. record { value = (c.0, (c.1, (c.2, tt))); follows = claim-follows c.3 };
  many-there = λ P b. limit-there (λ R e b m. absurd m) (λ h. h);
  many-back = λ P b h. limit-back h;
  large-there = λ P b. limit-there (λ R e b m. of-d (record { number = R; is = e; begins = b; such = m })) of-face;
  large-back = λ P b h. large-back h;
}

-- The last token of a number beyond its limit is s.
large-succ : (P : List Token) (x : Token) → LargeNumber (P ++ x ∷ []) → x ≡ word succ-word
large-succ P x (of-d h) = let e = h.such in ends-succ {k = max_bound} P x (record { front = word entails-word ∷ e.front; is = h.is ∙ ap (λ l. word entails-word ∷ l) e.is })
large-succ P x (of-face h) = let e = h.such in ends-succ {k = max_dim} P x (record { front = h.front ++ e.front; is = h.is ∙ ap (λ l. h.front ++ l) e.is ∙ sym (append_assoc h.front e.front (pairs (suc max_dim))) })

-- Without a head at the end there were too many nodes before.
many-before : (P : List Token) (x : Token) → heads Faces (x ∷ []) ≡ 0 → InFace (ManyNodes Faces) (P ++ x ∷ []) → InFace (ManyNodes Faces) P
unfolding heads
many-before P x z h = from (splits h.front h.face P (x ∷ []) (sym h.is))
  where
    from : Splits h.front h.face P (x ∷ []) → InFace (ManyNodes Faces) P
    from (longer C p q) = record { front = h.front; face = C; is = p; before = h.before; begins = let b = subst (Begins (FormulaText Faces)) q h.begins in record { rest = x ∷ b.rest; whole = subst (FormulaText Faces) (append_assoc C (x ∷ []) b.rest) b.whole }; such = let c = ap (heads Faces) q in omega (arith, c, heads-append Faces C (x ∷ []), h.such, z) }
    from (shorter C p q) = absurd (let c = ap (heads Faces) q in omega (arith, c, heads-append Faces C h.face, h.such, z))

claim-apart : Apart ClaimText (InFace (ManyNodes Faces)) LargeNumber
claim-apart P x f m e = f.few (many-before P x (succ-no-head Faces (large-succ P x e)) m)

claim-verdict : (l : List ℕ) → Verdict ClaimText (InFace (ManyNodes Faces)) LargeNumber (tokens l) (read_claim l)
unfolding read_claim
claim-verdict l =
    verdict-map
    (λ v. record { dimensions = v.0; left = v.1.0; right = v.1.1.0 })
    (verdict-same whole-claim (judged-claim (number max_bound ∷ formula Faces ∷ formula Faces ∷ []) (judged-number max_bound (formula Faces ∷ formula Faces ∷ []) (judged-formula Faces (formula Faces ∷ []) (judged-formula Faces [] judged-none))) 0 (tokens l)))

-- A text is refused as a claim exactly by what is met first in it.
pub claim-met : (l : List ℕ) (e : Refusal) → read_claim l ≡ Err e → ClaimMet (tokens l) e
claim-met l e p = verdict-met (claim-verdict l) p

pub met-claim : (l : List ℕ) (e : Refusal) → ClaimMet (tokens l) e → read_claim l ≡ Err e
met-claim l e m = met-verdict claim-apart (claim-verdict l) m
