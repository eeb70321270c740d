-- Beginnings of lists of tokens, and what is met first in them.
use Prim.Native.Nat.{ℕ}
use native.Mathlib.Omega.{arith}
use mathlib.Core.Path.{◌≡◌, refl, sym, ap, ◌∙◌, subst}
use mathlib.Core.List.{List, [], ◌∷◌, ◌++◌, head-eq_of_cons-eq, tail-eq_of_cons-eq, append-nil, append_assoc, append-eq-nil_iff}
use Rattle.refusals.specs.declared.Refusal.{Refusal}
use Rattle.refusals.specs.Refusals.{map}
use Rattle.std.specs.Prelude.{Result, Ok, Err}
use Rattle.text.specs.Tokens.{Token}
use Rattle.grammar.specs.Meeting.{Begins, Fine, Wrong, no_text, many, large, Kept, Met, at-token, at-end}

-- Of two beginnings of the same tokens one begins the other.
pub data Splits (A Q B R : List Token) : Type 0 where
  longer : (C : List Token) → B ≡ A ++ C → Q ≡ C ++ R → Splits A Q B R
  shorter : (C : List Token) → A ≡ B ++ C → R ≡ C ++ Q → Splits A Q B R

splits-on : {x y : Token} {A Q B R : List Token} → x ≡ y → Splits A Q B R → Splits (x ∷ A) Q (y ∷ B) R
splits-on p (longer C b q) = longer C (λ i. sym p i ∷ b i) q
splits-on p (shorter C a r) = shorter C (λ i. p i ∷ a i) r

pub splits : (A Q B R : List Token) → A ++ Q ≡ B ++ R → Splits A Q B R
splits [] Q B R e = longer B refl e
splits (x ∷ A) Q [] R e = shorter (x ∷ A) refl (sym e)
splits (x ∷ A) Q (y ∷ B) R e = splits-on (head-eq_of_cons-eq e) (splits A Q B R (tail-eq_of_cons-eq e))

-- A part of nothing is nothing.
pub front-empty : (A B : List Token) → A ++ B ≡ [] → A ≡ []
front-empty A B e = ((append-eq-nil_iff {p = A} {q = B}).0 e).0

-- A token more.
pub one_more : (P : List Token) (x : Token) (us : List Token) → (P ++ x ∷ []) ++ us ≡ P ++ x ∷ us
one_more P x us = append_assoc P (x ∷ []) us

-- The one beginning of nothing.
pub kept-none : {W M B : List Token → Type 0} → Fine W M B [] → Kept W M B []
kept-none {W} {M} {B} h Q us e = subst (Fine W M B) (sym (front-empty Q us (sym e))) h

-- The beginnings with a token more.
pub kept_more : {W M B : List Token → Type 0} (P : List Token) (x : Token) → Kept W M B P → Fine W M B (P ++ x ∷ []) → Kept W M B (P ++ x ∷ [])
kept_more {W} {M} {B} P x k h Q us e = from (splits P (x ∷ []) Q us e)
  where
    last : (C : List Token) → Q ≡ P ++ C → x ∷ [] ≡ C ++ us → Fine W M B Q
    last [] q c = subst (Fine W M B) (sym (q ∙ append-nil P)) (k P [] (sym (append-nil P)))
    last (y ∷ C) q c =
        let z : y ∷ C ≡ x ∷ [] = λ i. sym (head-eq_of_cons-eq c) i ∷ front-empty C us (sym (tail-eq_of_cons-eq c)) i in
        subst (Fine W M B) (sym (q ∙ ap (λ l. P ++ l) z)) h

    from : Splits P (x ∷ []) Q us → Fine W M B Q
    from (longer C q c) = last C q c
    from (shorter C p v) = k Q C p

-- What is met first is one thing -----------------------------------------------------------------------

wrong-fine : {W M B : List Token → Type 0} {P : List Token} {e : Refusal} → Wrong W M B P e → Fine W M B P → ⊥
wrong-fine (no_text n) f = n f.begins
wrong-fine (many b m) f = f.few m
wrong-fine (large b m) f = f.small m

wrong-one : {W M B : List Token → Type 0} {P : List Token} {e d : Refusal} → (M P → B P → ⊥) → Wrong W M B P e → Wrong W M B P d → e ≡ d
wrong-one h (no_text n) (no_text o) = refl
wrong-one h (no_text n) (many b m) = absurd (n b)
wrong-one h (no_text n) (large b m) = absurd (n b)
wrong-one h (many b m) (no_text o) = absurd (o b)
wrong-one h (many b m) (many c o) = refl
wrong-one h (many b m) (large c o) = absurd (h m o)
wrong-one h (large b m) (no_text o) = absurd (o b)
wrong-one h (large b m) (many c o) = absurd (h o m)
wrong-one h (large b m) (large c o) = refl

-- No one token goes beyond both limits.
abbrev pub Apart : (W M B : List Token → Type 0) → Type 0
Apart W M B = (P : List Token) (x : Token) → Fine W M B P → M (P ++ x ∷ []) → B (P ++ x ∷ []) → ⊥

-- Nothing is kept beyond what is wrong.
no-further : {W M B : List Token → Type 0} {e : Refusal} {P : List Token} {x y : Token} {us : List Token} (Q C vs : List Token) → Wrong W M B (P ++ x ∷ []) e → Kept W M B Q → Q ≡ P ++ C → x ∷ us ≡ C ++ y ∷ vs → (Q ≡ P) × (x ≡ y)
no-further {P = P} Q [] vs w k q c = (q ∙ append-nil P, head-eq_of_cons-eq c)
no-further {P = P} {x} Q (z ∷ C) vs w k q c = absurd (wrong-fine w (k (P ++ x ∷ []) C (q ∙ ap (λ t. P ++ t ∷ C) (sym (head-eq_of_cons-eq c)) ∙ sym (one_more P x C))))

pub met-one : {W M B : List Token → Type 0} {ts : List Token} {e d : Refusal} → Apart W M B → Met W M B ts e → Met W M B ts d → e ≡ d
met-one {W} {M} {B} {e = e} {d} h (at-token P x us p k w) (at-token Q y vs q l v) = from (splits P (x ∷ us) Q (y ∷ vs) (sym p ∙ q))
  where
    meet : (Q ≡ P) × (x ≡ y) → e ≡ d
    meet z = wrong-one (h P x (k P [] (sym (append-nil P)))) w (subst (λ l. Wrong W M B l d) (λ i. z.0 i ++ sym z.1 i ∷ []) v)

    from : Splits P (x ∷ us) Q (y ∷ vs) → e ≡ d
    from (longer C b c) = meet (no-further Q C vs w l b c)
    from (shorter C b c) = let z = no-further P C us v k b c in meet (sym z.0, sym z.1)
met-one h (at-token P x us p k w) (at-end l n) = absurd (wrong-fine w (l (P ++ x ∷ []) us (p ∙ sym (one_more P x us))))
met-one h (at-end k n) (at-token Q y vs q l v) = absurd (wrong-fine v (k (Q ++ y ∷ []) vs (q ∙ sym (one_more Q y vs))))
met-one h (at-end k n) (at-end l o) = refl

met-whole : {W M B : List Token → Type 0} {ts : List Token} {e : Refusal} → Met W M B ts e → Kept W M B ts → W ts → ⊥
met-whole (at-token P x us p k w) l h = wrong-fine w (l (P ++ x ∷ []) us (p ∙ sym (one_more P x us)))
met-whole (at-end k n) l h = n h

-- What an answer says of the tokens.
pub data Verdict (W M B : List Token → Type 0) (ts : List Token) {A : Type 0} : Result A Refusal → Type 0 where
  refuses : {e : Refusal} → Met W M B ts e → Verdict W M B ts (Err e)
  accepts : {v : A} → Kept W M B ts → W ts → Verdict W M B ts (Ok v)

pub verdict-map : {W M B : List Token → Type 0} {ts : List Token} {A C : Type 0} (f : A → C) {o : Result A Refusal} → Verdict W M B ts o → Verdict W M B ts (map f o)
verdict-map f (refuses h) = refuses h
verdict-map f (accepts k h) = accepts k h

refused-one : {A : Type 0} {e d : Refusal} → ◌≡◌ {A = Result A Refusal} (Err e) (Err d) → e ≡ d
refused-one p = cc

not-refused : {A C : Type 0} {v : A} {e : Refusal} → ◌≡◌ {A = Result A Refusal} (Ok v) (Err e) → C
not-refused p = absurd (let z : ◌≡◌ {A = ℕ} 0 1 = cc in omega arith)

pub verdict-met : {W M B : List Token → Type 0} {ts : List Token} {A : Type 0} {o : Result A Refusal} {e : Refusal} → Verdict W M B ts o → o ≡ Err e → Met W M B ts e
verdict-met {W} {M} {B} {ts} (refuses h) p = subst (Met W M B ts) (refused-one p) h
verdict-met (accepts k h) p = not-refused p

pub met-verdict : {W M B : List Token → Type 0} {ts : List Token} {A : Type 0} {o : Result A Refusal} {e : Refusal} → Apart W M B → Verdict W M B ts o → Met W M B ts e → o ≡ Err e
met-verdict h (refuses v) m = ap Err (met-one h v m)
met-verdict h (accepts k v) m = absurd (met-whole m k v)

-- Nothing is wrong with no tokens.
pub verdict-none : {W M B : List Token → Type 0} {ts : List Token} {A : Type 0} {o : Result A Refusal} → Verdict W M B ts o → Fine W M B []
verdict-none (refuses (at-token P x us p k w)) = k [] P refl
verdict-none {ts = ts} (refuses (at-end k n)) = k [] ts refl
verdict-none {ts = ts} (accepts k h) = k [] ts refl

-- The same texts and limits in other words -------------------------------------------------------------

-- Of what begins a text.
pub record Same (W M B W' M' B' : List Token → Type 0) : Type 0 where
  pub there : (P : List Token) → W P → W' P
  pub back : (P : List Token) → W' P → W P
  pub many-there : (P : List Token) → Begins W P → M P → M' P
  pub many-back : (P : List Token) → Begins W P → M' P → M P
  pub large-there : (P : List Token) → Begins W P → B P → B' P
  pub large-back : (P : List Token) → Begins W P → B' P → B P

pub begins-same : {W W' : List Token → Type 0} {P : List Token} → ((P : List Token) → W P → W' P) → Begins W P → Begins W' P
begins-same {P = P} h b = record { rest = b.rest; whole = h (P ++ b.rest) b.whole }

fine-same : {W M B W' M' B' : List Token → Type 0} → Same W M B W' M' B' → (P : List Token) → Fine W M B P → Fine W' M' B' P
fine-same s P f = record { begins = begins-same s.there f.begins; few = λ m. f.few (s.many-back P f.begins m); small = λ m. f.small (s.large-back P f.begins m) }

wrong-same : {W M B W' M' B' : List Token → Type 0} → Same W M B W' M' B' → (P : List Token) {e : Refusal} → Wrong W M B P e → Wrong W' M' B' P e
wrong-same s P (no_text n) = no_text (λ b. n (begins-same s.back b))
wrong-same s P (many b m) = many (begins-same s.there b) (s.many-there P b m)
wrong-same s P (large b m) = large (begins-same s.there b) (s.large-there P b m)

met-same : {W M B W' M' B' : List Token → Type 0} → Same W M B W' M' B' → {ts : List Token} {e : Refusal} → Met W M B ts e → Met W' M' B' ts e
met-same s (at-token P x us p k w) = at-token P x us p (λ Q us q. fine-same s Q (k Q us q)) (wrong-same s (P ++ x ∷ []) w)
met-same s {ts} (at-end k n) = at-end (λ Q us q. fine-same s Q (k Q us q)) (λ h. n (s.back ts h))

pub verdict-same : {W M B W' M' B' : List Token → Type 0} → Same W M B W' M' B' → {ts : List Token} {A : Type 0} {o : Result A Refusal} → Verdict W M B ts o → Verdict W' M' B' ts o
verdict-same s (refuses h) = refuses (met-same s h)
verdict-same s {ts} (accepts k h) = accepts (λ Q us q. fine-same s Q (k Q us q)) (s.there ts h)
