-- What is met first in one thing followed by another: in the first, or behind a text of it.
use mathlib.Core.Path.{◌≡◌, refl, sym, ap, ◌∙◌, subst}
use mathlib.Core.List.{List, [], ◌∷◌, ◌++◌, head-eq_of_cons-eq, append-nil, append_assoc}
use Rattle.refusals.specs.declared.Refusal.{Refusal}
use Rattle.refusals.specs.declared.Refusal.TheVariants.{TooManyNodes, LargeDimension, NotAccepted}
use Rattle.std.specs.Prelude.{Result}
use Rattle.text.specs.Tokens.{Token}
use Rattle.grammar.specs.Meeting.{Begins, Fine, Wrong, no_text, many, large, Kept, Met, at-token, at-end}
use Rattle.grammar.proofs.Beginnings.{Splits, longer, shorter, splits, front-empty, one_more, Verdict, refuses, accepts, Same, begins-same}

-- A text of the first, and such tokens behind it.
pub record Past (L T : List Token → Type 0) (P : List Token) : Type 0 where
  pub front : List Token
  pub rest : List Token
  pub is : P ≡ front ++ rest
  pub before : L front
  pub such : T rest

-- Tokens that begin the first and are such, or that go past it and are such there.
pub data Limit (L M N : List Token → Type 0) (P : List Token) : Type 0 where
  within : Begins L P → M P → Limit L M N P
  beyond : Past L N P → Limit L M N P

limit-same : {L M N K : List Token → Type 0} → ((P : List Token) → L P → K P) → {P : List Token} → Limit L M N P → Limit K M N P
limit-same h (within b x) = within (begins-same h b) x
limit-same h (beyond p) = beyond (record { front = p.front; rest = p.rest; is = p.is; before = h p.front p.before; such = p.such })

-- The texts of the first, and the whole ones, in other words.
pub front_same : {L K M N B D U W : List Token → Type 0} → ((P : List Token) → L P → K P) → ((P : List Token) → K P → L P) → ((P : List Token) → U P → W P) → ((P : List Token) → W P → U P) → Same U (Limit L M N) (Limit L B D) W (Limit K M N) (Limit K B D)
front_same f g u w = record { there = u; back = w; many-there = λ P b. limit-same f; many-back = λ P b. limit-same g; large-there = λ P b. limit-same f; large-back = λ P b. limit-same g }

-- No text goes on as a longer text.
abbrev pub Ending : (List Token → Type 0) → Type 0
Ending L = (A us : List Token) → L A → L (A ++ us) → us ≡ []

-- The whole texts are those of the first followed by those of the second.
pub record Joins (L W Whole : List Token → Type 0) : Type 0 where
  pub split : (ts : List Token) → Whole ts → Past L W ts
  pub join : (ts : List Token) → Past L W ts → Whole ts
  pub ending : Ending L

-- Nothing stands behind a text in what begins one.
ends_there : {L : List Token → Type 0} → Ending L → (A R : List Token) → L A → Begins L (A ++ R) → R ≡ []
ends_there {L} h A R a b = front-empty R b.rest (h A (R ++ b.rest) a (subst L (append_assoc A R b.rest) b.whole))

-- There is one way to take a text off the front.
same-front : {L : List Token → Type 0} → Ending L → (A Q C R : List Token) → L A → L C → A ++ Q ≡ C ++ R → (A ≡ C) × (Q ≡ R)
same-front {L} h A Q C R a c e = from (splits A Q C R e)
  where
    from : Splits A Q C R → (A ≡ C) × (Q ≡ R)
    from (longer D p q) = let z = h A D a (subst L p c) in (sym (p ∙ ap (λ l. A ++ l) z ∙ append-nil A), q ∙ ap (λ l. l ++ R) z)
    from (shorter D p q) = let z = h C D c (subst L p a) in (p ∙ ap (λ l. C ++ l) z ∙ append-nil C, sym (q ∙ ap (λ l. l ++ Q) z))

-- Limits in the first, and behind it.
limit-front : {L M N : List Token → Type 0} {P : List Token} → Ending L → (N [] → ⊥) → Begins L P → (M P → ⊥) → Limit L M N P → ⊥
limit-front h n b m (within c x) = m x
limit-front {L} {N = N} h n b m (beyond p) = n (subst N (ends_there h p.front p.rest p.before (subst (Begins L) p.is b)) p.such)

limit-behind : {L M N : List Token → Type 0} → Ending L → (A Q : List Token) → L A → (M A → ⊥) → (N Q → ⊥) → Limit L M N (A ++ Q) → ⊥
limit-behind {M = M} h A Q a m n (within b x) = m (subst M (ap (λ l. A ++ l) (ends_there h A Q a b) ∙ append-nil A) x)
limit-behind {N = N} h A Q a m n (beyond p) = n (subst N (sym (same-front h A Q p.front p.rest a p.before p.is).1) p.such)

limit-past : {L M N : List Token → Type 0} (A Q : List Token) → L A → N Q → Limit L M N (A ++ Q)
limit-past A Q a x = beyond (record { front = A; rest = Q; is = refl; before = a; such = x })

module _ {L W Whole : List Token → Type 0} (j : Joins L W Whole) where
  -- What begins the first begins the whole.
  begins-front : Begins W [] → (P : List Token) → Begins L P → Begins Whole P
  begins-front r P b =
      record { rest = b.rest ++ r.rest; whole = subst Whole (append_assoc P b.rest r.rest) (j.join ((P ++ b.rest) ++ r.rest) (record { front = P ++ b.rest; rest = r.rest; is = refl; before = b.whole; such = r.whole })) }

  -- What begins the second begins the whole behind a text of the first.
  begins-behind : (A Q : List Token) → L A → Begins W Q → Begins Whole (A ++ Q)
  begins-behind A Q a b = record { rest = b.rest; whole = j.join ((A ++ Q) ++ b.rest) (record { front = A; rest = Q ++ b.rest; is = append_assoc A Q b.rest; before = a; such = b.whole }) }

  behind-begins : (A Q : List Token) → L A → Begins Whole (A ++ Q) → Begins W Q
  behind-begins A Q a b =
      let p = j.split ((A ++ Q) ++ b.rest) b.whole in
      record { rest = b.rest; whole = subst W (sym (same-front j.ending A (Q ++ b.rest) p.front p.rest a p.before (sym (append_assoc A Q b.rest) ∙ p.is)).1) p.such }

module _ {L M B W N D Whole : List Token → Type 0} (j : Joins L W Whole) (none : Fine W N D []) where
  fine-front : (P : List Token) → Fine L M B P → Fine Whole (Limit L M N) (Limit L B D) P
  fine-front P f = record { begins = begins-front j none.begins P f.begins; few = limit-front j.ending none.few f.begins f.few; small = limit-front j.ending none.small f.begins f.small }

  kept-front : (P : List Token) → Kept L M B P → Kept Whole (Limit L M N) (Limit L B D) P
  kept-front P k Q us e = fine-front Q (k Q us e)

  fine-behind : (A Q : List Token) → L A → Fine L M B A → Fine W N D Q → Fine Whole (Limit L M N) (Limit L B D) (A ++ Q)
  fine-behind A Q a f g = record { begins = begins-behind j A Q a g.begins; few = limit-behind j.ending A Q a f.few g.few; small = limit-behind j.ending A Q a f.small g.small }

  kept-behind : (A P : List Token) → L A → Kept L M B A → Kept W N D P → Kept Whole (Limit L M N) (Limit L B D) (A ++ P)
  kept-behind A P a k l Q us e = from (splits A P Q us e)
    where
      from : Splits A P Q us → Fine Whole (Limit L M N) (Limit L B D) Q
      from (longer C p q) = subst (Fine Whole (Limit L M N) (Limit L B D)) (sym p) (fine-behind A C a (k A [] (sym (append-nil A))) (l C us q))
      from (shorter C p q) = fine-front Q (k Q C p)

  wrong-behind : (A P : List Token) {e : Refusal} → L A → Wrong W N D P e → Wrong Whole (Limit L M N) (Limit L B D) (A ++ P) e
  wrong-behind A P a (no_text n) = no_text (λ b. n (behind-begins j A P a b))
  wrong-behind A P a (many b m) = many (begins-behind j A P a b) (limit-past A P a m)
  wrong-behind A P a (large b m) = large (begins-behind j A P a b) (limit-past A P a m)

  met-behind : (A : List Token) {ts : List Token} {e : Refusal} → L A → Kept L M B A → Met W N D ts e → Met Whole (Limit L M N) (Limit L B D) (A ++ ts) e
  met-behind A {ts} {e} a k (at-token P x us p l w) =
      at-token
      (A ++ P)
      x
      us
      (ap (λ l. A ++ l) p ∙ sym (append_assoc A P (x ∷ us)))
      (kept-behind A P a k l)
      (subst (λ l. Wrong Whole (Limit L M N) (Limit L B D) l e) (sym (append_assoc A P (x ∷ []))) (wrong-behind A (P ++ x ∷ []) a w))
  met-behind A {ts} a k (at-end l n) = at-end (kept-behind A ts a k l) (λ h. let p = j.split (A ++ ts) h in n (subst W (sym (same-front j.ending A ts p.front p.rest a p.before p.is).1) p.such))

  -- The answer behind a text of the first.
  pub verdict-behind : (A : List Token) {ts : List Token} {C : Type 0} {o : Result C Refusal} → L A → Kept L M B A → Verdict W N D ts o → Verdict Whole (Limit L M N) (Limit L B D) (A ++ ts) o
  verdict-behind A a k (refuses m) = refuses (met-behind A a k m)
  verdict-behind A {ts} a k (accepts l h) = accepts (kept-behind A ts a k l) (j.join (A ++ ts) (record { front = A; rest = ts; is = refl; before = a; such = h }))

  -- A token that no text of the first has there, where the first is no text yet.
  pub stray-front : (P : List Token) (x : Token) (us : List Token) → Kept L M B P → (L P → ⊥) → (Begins L (P ++ x ∷ []) → ⊥) → Met Whole (Limit L M N) (Limit L B D) (P ++ x ∷ us) NotAccepted
  stray-front P x us k n m = at-token P x us refl (kept-front P k) (no_text none-begins)
    where
      last : (A R rest C : List Token) → L A → A ≡ P ++ C → x ∷ rest ≡ C ++ R → ⊥
      last A R rest [] a p c = n (subst L (p ∙ append-nil P) a)
      last A R rest (y ∷ C) a p c = m (record { rest = C; whole = subst L (p ∙ ap (λ z. P ++ z ∷ C) (sym (head-eq_of_cons-eq c)) ∙ sym (one_more P x C)) a })

      from : (A R rest : List Token) → L A → Splits P (x ∷ rest) A R → ⊥
      from A R rest a (longer C p c) = last A R rest C a p c
      from A R rest a (shorter C p c) = n (subst L (sym (p ∙ ap (λ l. A ++ l) (ends_there j.ending A C a (subst (Begins L) p (k P [] (sym (append-nil P))).begins)) ∙ append-nil A)) a)

      none-begins : Begins Whole (P ++ x ∷ []) → ⊥
      none-begins b = let p = j.split ((P ++ x ∷ []) ++ b.rest) b.whole in from p.front p.rest b.rest p.before (splits P (x ∷ b.rest) p.front p.rest (sym (one_more P x b.rest) ∙ p.is))

  -- The end inside the first.
  pub early-front : (P : List Token) → Kept L M B P → (L P → ⊥) → Met Whole (Limit L M N) (Limit L B D) P NotAccepted
  early-front P k n =
      at-end
      (kept-front P k)
      (λ h. let p = j.split P h in
      n (subst L (sym (p.is ∙ ap (λ l. p.front ++ l) (ends_there j.ending p.front p.rest p.before (subst (Begins L) p.is (k P [] (sym (append-nil P))).begins)) ∙ append-nil p.front)) p.before))

  -- The limits of the first.
  pub many-front : (P : List Token) (x : Token) (us : List Token) → Kept L M B P → Begins L (P ++ x ∷ []) → M (P ++ x ∷ []) → Met Whole (Limit L M N) (Limit L B D) (P ++ x ∷ us) TooManyNodes
  many-front P x us k b m = at-token P x us refl (kept-front P k) (many (begins-front j none.begins (P ++ x ∷ []) b) (within b m))

  pub large-front : (P : List Token) (x : Token) (us : List Token) → Kept L M B P → Begins L (P ++ x ∷ []) → B (P ++ x ∷ []) → Met Whole (Limit L M N) (Limit L B D) (P ++ x ∷ us) LargeDimension
  large-front P x us k b m = at-token P x us refl (kept-front P k) (large (begins-front j none.begins (P ++ x ∷ []) b) (within b m))
