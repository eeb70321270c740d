-- For private contracts: tokens at places of a text, and the reader from a place on.
use Rattle.std.specs.Prelude.{ℕ, suc, ◌-◌, ◌≤◌, ◌<◌, ◌≡◌, Result, Ok, Err, List, [], ◌∷◌, eqb, length, take, drop}
use Rattle.formula.specs.Answers.{pick}
use Rattle.refusals.specs.declared.Refusal.{Refusal}
use Rattle.refusals.specs.Refusals.{map}
use Rattle.text.specs.Tokens.{opening, closing, word, class_of, tokens}
use Rattle.text.specs.Reading.{Item, number, number_list, close, Values, succeeded, run}
use Rattle.text.specs.declared.Token.{Token}
use Rattle.text.specs.declared.Token.TheVariants.{Open, Close, Word, End}
use Rattle.text.specs.declared.Numeral.{Numeral}
use Rattle.text.specs.declared.Class.{Class}
use Rattle.text.specs.declared.Class.TheVariants.{Opening, Closing, Separator, Spelling}

-- The classes of bytes as numbers.
abbrev pub class_number : Class → ℕ
class_number Opening = 0
class_number Closing = 1
class_number Separator = 2
class_number Spelling = 3

-- How many bytes of a class a list begins with.
unfoldable pub span_of : Class → List ℕ → ℕ
span_of c [] = 0
span_of c (b ∷ l) = pick (eqb (class_number (class_of b)) (class_number c)) (suc (span_of c l)) 0

-- The bytes of a list from one place to another.
abbrev pub between : ℕ → ℕ → List ℕ → List ℕ
between b e l = take (e - b) (drop b l)

-- The first token from place i on.
abbrev pub LexesAs : List ℕ → ℕ → Token → Type 0
LexesAs l i (Open e) = (tokens (drop i l) ≡ opening ∷ tokens (drop e l)) × (i < e) × (e ≤ length l)
LexesAs l i (Close e) = (tokens (drop i l) ≡ closing ∷ tokens (drop e l)) × (i < e) × (e ≤ length l)
LexesAs l i (Word b e) = (tokens (drop i l) ≡ word (between b e l) ∷ tokens (drop e l)) × (i ≤ b) × (b < e) × (e ≤ length l)
LexesAs l i End = tokens (drop i l) ≡ []

pub record Lexes (l : List ℕ) (i : ℕ) (r : Token) : Type 0 where
  pub it : LexesAs l i r

-- A closing parenthesis from place i on, where one is expected.
abbrev pub ClosesAs : List ℕ → ℕ → Result ℕ Refusal → Type 0
ClosesAs l i (Ok e) = ((n : ℕ) (K : List Item) → run (tokens (drop i l)) n (close ∷ K) ≡ run (tokens (drop e l)) n K) × (i < e) × (e ≤ length l)
ClosesAs l i (Err q) = (n : ℕ) (K : List Item) → run (tokens (drop i l)) n (close ∷ K) ≡ Err q

pub record Closes (l : List ℕ) (i : ℕ) (r : Result ℕ Refusal) : Type 0 where
  pub it : ClosesAs l i r

-- A reader of a number, with whatever is expected behind it.
abbrev pub NumberReader : Type 0
NumberReader = (n : ℕ) (K : List Item) → Result (ℕ × Values K) Refusal

-- A number from place i on; one whose list opened before; the end of the list of m; one more than the number from place i on.
abbrev pub number_at : List ℕ → ℕ → ℕ → NumberReader
number_at l i k n K = run (tokens (drop i l)) n (number k ∷ K)

abbrev pub number_list_at : List ℕ → ℕ → ℕ → NumberReader
number_list_at l i k n K = run (tokens (drop i l)) n (number_list k ∷ K)

abbrev pub close_at : List ℕ → ℕ → ℕ → NumberReader
close_at l i m n K = map (λ v. (m, v)) (run (tokens (drop i l)) n (close ∷ K))

abbrev pub next_at : List ℕ → ℕ → ℕ → NumberReader
next_at l i k n K = succeeded k n K (run (tokens (drop i l)))

-- The reader finds m, and goes on from place e.
pub record NumberRead (F : NumberReader) (l : List ℕ) (i most m e : ℕ) : Type 0 where
  pub reads : (n : ℕ) (K : List Item) → F n K ≡ map (λ v. (m, v)) (run (tokens (drop e l)) n K)
  pub ahead : i < e
  pub inside : e ≤ length l
  pub low : m ≤ most

-- What the reader of a number answers.
abbrev pub NumeralsAs : NumberReader → List ℕ → ℕ → ℕ → Result Numeral Refusal → Type 0
NumeralsAs F l i most (Ok m) = NumberRead F l i most m.n m.end
NumeralsAs F l i most (Err q) = (n : ℕ) (K : List Item) → F n K ≡ Err q

pub record Numerals (F : NumberReader) (l : List ℕ) (i most : ℕ) (r : Result Numeral Refusal) : Type 0 where
  pub it : NumeralsAs F l i most r
