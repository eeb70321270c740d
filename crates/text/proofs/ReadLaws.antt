-- The reader of numbers, from a place of a text on.
use Prim.Native.Nat.{ℕ, zero, suc, ◌+◌, ◌-◌, ◌≤◌}
use native.Mathlib.Omega.{arith}
use mathlib.Core.Path.{◌≡◌, refl, ap, ◌∙◌}
use mathlib.Core.Bool.{Bool, true, false}
use mathlib.Core.List.{List, ◌∷◌}
use lib.ListN.{drop}
use Rattle.formula.specs.Answers.{pick, same_bytes}
use Rattle.refusals.specs.declared.Refusal.{Refusal}
use Rattle.refusals.specs.declared.Refusal.TheVariants.{NotAccepted}
use Rattle.refusals.specs.Refusals.{map}
use Rattle.std.specs.Prelude.{Result, Ok, Err}
use Rattle.text.specs.Tokens.{Token, tokens}
use Rattle.text.specs.Words.{zero_word, succ-word}
use Rattle.text.specs.Reading.{Item, number, number_list, close, run}
use Rattle.text.specs.Scanning.{between, Lexes, Closes, NumberReader, number_at, number_list_at, close_at, next_at, Numerals}
use Rattle.text.specs.declared.Token.{Token as Answered}
use Rattle.text.specs.declared.Token.TheVariants.{Open, Close, Word, End}
use Rattle.text.specs.declared.Numeral.{Numeral}

-- What is read goes through the functions that are put around it.
pub map-map : {A B C : Type 0} (f : B → C) (g : A → B) (o : Result A Refusal) → map f (map g o) ≡ map (λ x. f (g x)) o
map-map f g (Err e) = refl
map-map f g (Ok x) = refl

-- The end of a list.
pub closes-not : {l : List ℕ} {i : ℕ} (t : Answered) → Lexes l i t → ((e : ℕ) → t ≡ Close e → ⊥) → Closes l i (Err NotAccepted)
unfolding run
closes-not (Open e) h f = record { it = λ n K. ap (λ (ts : List Token). run ts n (close ∷ K)) h.it.0 }
closes-not (Close e) h f = absurd (f e refl)
closes-not (Word b e) h f = record { it = λ n K. ap (λ (ts : List Token). run ts n (close ∷ K)) h.it.0 }
closes-not End h f = record { it = λ n K. ap (λ (ts : List Token). run ts n (close ∷ K)) h.it }

pub closes-close : {l : List ℕ} {i e : ℕ} → Lexes l i (Close e) → Closes l i (Ok e)
unfolding run
closes-close h = record { it = (λ n K. ap (λ (ts : List Token). run ts n (close ∷ K)) h.it.0, h.it.1, h.it.2) }

-- Another reader that goes the same way, from a place before.
pub numerals-as : {F G : NumberReader} {l : List ℕ} {i j most : ℕ} {r : Result Numeral Refusal} → ((n : ℕ) (K : List Item) → F n K ≡ G n K) → i ≤ j → Numerals G l j most r → Numerals F l i most r
numerals-as {r = Ok m} p q h = let k = h.it in record { it = record { reads = λ n K. p n K ∙ k.reads n K; ahead = omega (arith, k.ahead, q); inside = k.inside; low = k.low } }
numerals-as {r = Err x} p q h = record { it = λ n K. p n K ∙ h.it n K }

-- A number: its list, z, and what is none.
pub number-open : {l : List ℕ} {i e most : ℕ} {r : Result Numeral Refusal} → Lexes l i (Open e) → Numerals (number_list_at l e most) l e most r → Numerals (number_at l i most) l i most r
unfolding run
number-open {most = most} h k = numerals-as (λ n K. ap (λ (ts : List Token). run ts n (number most ∷ K)) h.it.0) (omega (arith, h.it.1)) k

pub number-zero : {l : List ℕ} {i b e most : ℕ} → Lexes l i (Word b e) → same_bytes zero_word (between b e l) ≡ true → Numerals (number_at l i most) l i most (Ok (record { n = 0; end = e }))
unfolding run
number-zero {l} {i} {b} {e} {most} h z =
    record {
      it = record {
        reads = λ n K. ap (λ (ts : List Token). run ts n (number most ∷ K)) h.it.0 ∙ ap (λ (t : Bool). pick t (map (λ v. (0, v)) (run (tokens (drop e l)) n K)) (Err NotAccepted)) z;
        ahead = omega (arith, h.it.1, h.it.2);
        inside = h.it.3;
        low = omega arith;
      };
    }

pub number-other : {l : List ℕ} {i b e most : ℕ} → Lexes l i (Word b e) → same_bytes zero_word (between b e l) ≡ false → Numerals (number_at l i most) l i most (Err NotAccepted)
unfolding run
number-other {l} {e = e} {most} h z = record { it = λ n K. ap (λ (ts : List Token). run ts n (number most ∷ K)) h.it.0 ∙ ap (λ (t : Bool). pick t (map (λ v. (0, v)) (run (tokens (drop e l)) n K)) (Err NotAccepted)) z }

pub number-not : {l : List ℕ} {i most : ℕ} (t : Answered) → Lexes l i t → ((e : ℕ) → t ≡ Open e → ⊥) → ((b e : ℕ) → t ≡ Word b e → ⊥) → Numerals (number_at l i most) l i most (Err NotAccepted)
unfolding run
number-not (Open e) h f g = absurd (f e refl)
number-not {most = most} (Close e) h f g = record { it = λ n K. ap (λ (ts : List Token). run ts n (number most ∷ K)) h.it.0 }
number-not (Word b e) h f g = absurd (g b e refl)
number-not {most = most} End h f g = record { it = λ n K. ap (λ (ts : List Token). run ts n (number most ∷ K)) h.it }

-- The list of a number: z and its end, s and what follows, and what is none.
listed : {l : List ℕ} {i b e : ℕ} → Lexes l i (Word b e) → (most n : ℕ) (K : List Item)
    → number_list_at l i most n K ≡ pick (same_bytes zero_word (between b e l)) (close_at l e 0 n K) (pick (same_bytes succ-word (between b e l)) (next_at l e most n K) (Err NotAccepted))
unfolding run
listed h most n K = ap (λ (ts : List Token). run ts n (number_list most ∷ K)) h.it.0

pub list-zero : {l : List ℕ} {i b e most : ℕ} {r : Result Numeral Refusal} → Lexes l i (Word b e) → same_bytes zero_word (between b e l) ≡ true → Numerals (close_at l e 0) l e most r → Numerals (number_list_at l i most) l i most r
list-zero {l} {i} {b} {e} {most} h z k = numerals-as (λ n K. listed h most n K ∙ ap (λ (t : Bool). pick t (close_at l e 0 n K) (pick (same_bytes succ-word (between b e l)) (next_at l e most n K) (Err NotAccepted))) z) (omega (arith, h.it.1, h.it.2)) k

pub list-succ : {l : List ℕ} {i b e most : ℕ} {r : Result Numeral Refusal} → Lexes l i (Word b e) → same_bytes zero_word (between b e l) ≡ false → same_bytes succ-word (between b e l) ≡ true → Numerals (next_at l e most) l e most r → Numerals (number_list_at l i most) l i most r
list-succ {l} {i} {b} {e} {most} h z s k =
    numerals-as
    (λ n K. listed h most n K ∙ ap (λ (t : Bool). pick t (close_at l e 0 n K) (pick (same_bytes succ-word (between b e l)) (next_at l e most n K) (Err NotAccepted))) z ∙ ap (λ (t : Bool). pick t (next_at l e most n K) (Err NotAccepted)) s)
    (omega (arith, h.it.1, h.it.2))
    k

pub list-other : {l : List ℕ} {i b e most : ℕ} → Lexes l i (Word b e) → same_bytes zero_word (between b e l) ≡ false → same_bytes succ-word (between b e l) ≡ false → Numerals (number_list_at l i most) l i most (Err NotAccepted)
list-other {l} {i} {b} {e} {most} h z s = record { it = λ n K. listed h most n K ∙ ap (λ (t : Bool). pick t (close_at l e 0 n K) (pick (same_bytes succ-word (between b e l)) (next_at l e most n K) (Err NotAccepted))) z ∙ ap (λ (t : Bool). pick t (next_at l e most n K) (Err NotAccepted)) s }

pub list-not : {l : List ℕ} {i most : ℕ} (t : Answered) → Lexes l i t → ((b e : ℕ) → t ≡ Word b e → ⊥) → Numerals (number_list_at l i most) l i most (Err NotAccepted)
unfolding run
list-not {most = most} (Open e) h f = record { it = λ n K. ap (λ (ts : List Token). run ts n (number_list most ∷ K)) h.it.0 }
list-not {most = most} (Close e) h f = record { it = λ n K. ap (λ (ts : List Token). run ts n (number_list most ∷ K)) h.it.0 }
list-not (Word b e) h f = absurd (f b e refl)
list-not {most = most} End h f = record { it = λ n K. ap (λ (ts : List Token). run ts n (number_list most ∷ K)) h.it }

-- The end of a number's list.
pub closed-read : {l : List ℕ} {i e m most : ℕ} → Closes l i (Ok e) → m ≤ most → Numerals (close_at l i m) l i most (Ok (record { n = m; end = e }))
closed-read {m = m} h b = record { it = record { reads = λ n K. ap (map (λ v. (m, v))) (h.it.0 n K); ahead = h.it.1; inside = h.it.2; low = b } }

pub closed-missing : {l : List ℕ} {i most : ℕ} {q : Refusal} (m : ℕ) → Closes l i (Err q) → Numerals (close_at l i m) l i most (Err q)
closed-missing m h = record { it = λ n K. ap (map (λ v. (m, v))) (h.it n K) }

-- One s more.
nexts : (l : List ℕ) (i most : ℕ) → (most ≡ 0 → ⊥) → (n : ℕ) (K : List Item) → next_at l i most n K ≡ map (λ v. (suc v.0, v.1)) (number_at l i (most - 1) n (close ∷ K))
nexts l i zero z n K = absurd (z refl)
nexts l i (suc k) z n K = let p : k ≡ suc k - 1 = omega arith in ap (λ (k : ℕ). map (λ v. (suc v.0, v.1)) (number_at l i k n (close ∷ K))) p

pub next-read : {l : List ℕ} {i most : ℕ} {m : Numeral} {r : Result Numeral Refusal} → (most ≡ 0 → ⊥) → Numerals (number_at l i (most - 1)) l i (most - 1) (Ok m) → Numerals (close_at l m.end (m.n + 1)) l m.end most r → Numerals (next_at l i most) l i most r
next-read {l} {i} {most} {m} z h k =
    let p : suc m.n ≡ m.n + 1 = omega arith in
    numerals-as
    (λ n K. nexts l i most z n K ∙ ap (map (λ v. (suc v.0, v.1))) (h.it.reads n (close ∷ K)) ∙ map-map (λ v. (suc v.0, v.1)) (λ v. (m.n, v)) (run (tokens (drop m.end l)) n (close ∷ K)) ∙ ap (λ (x : ℕ). map (λ v. (x, v)) (run (tokens (drop m.end l)) n (close ∷ K))) p)
    (omega (arith, h.it.ahead))
    k

pub next-refused : {l : List ℕ} {i most : ℕ} {q : Refusal} → (most ≡ 0 → ⊥) → Numerals (number_at l i (most - 1)) l i (most - 1) (Err q) → Numerals (next_at l i most) l i most (Err q)
next-refused {l} {i} {most} z h = record { it = λ n K. nexts l i most z n K ∙ ap (map (λ v. (suc v.0, v.1))) (h.it n (close ∷ K)) }
