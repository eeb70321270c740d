-- For private contracts and for the crates above: texts written at a place of an output, as far as it reaches.
use Rattle.std.specs.Prelude.{ℕ, zero, suc, ◌+◌, ◌-◌, ◌≤◌, ◌<◌, ◌≡◌, Result, List, [], ◌∷◌, ◌++◌, length, get_or, drop}
use Rattle.std.proofs.lemmas.List.Edits.{sets}
use Rattle.formula.specs.declared.Sort.{Sort}
use Rattle.formula.specs.Bytes.{Tree, Got, got, read}
use Rattle.text.specs.Words.{names, first_kind}
use Rattle.text.specs.Wholes.{Delivers}
use Rattle.refusals.specs.declared.Refusal.{Refusal}
use Rattle.writing.specs.Texts.{formula_text}
use Rattle.writing.specs.declared.Writer.{Writer}

-- A text from this place on ends at a number that can be computed.
pub record Room (to : ℕ) (x : List ℕ) : Type 0 where
  pub fits : to + length x ≤ 4611686018427387904

-- The text x stands in the output from `to` on, as far as the output reaches, and ends at r.
pub record Wrote (x out : List ℕ) (to r : ℕ) (out' : List ℕ) : Type 0 where
  pub end : r ≡ to + length x
  pub bytes : out' ≡ sets out to x

-- A writer wrote the text x, to the same output.
pub record Writes (x : List ℕ) (w w' : Writer) : Type 0 where
  pub wrote : Wrote x w.out.now w.to w'.to w'.out.now
  pub same : w'.out.ghost_name ≡ w.out.ghost_name

-- A text so many times.
unfoldable pub times : ℕ → List ℕ → List ℕ
times zero x = []
times (suc n) x = times n x ++ x

-- The name of a node.
abbrev pub node_name : Sort → ℕ → List ℕ
node_name s b = get_or (names s) (b - first_kind s) []

-- The byte begins a node.
pub record Names (s : Sort) (b : ℕ) : Type 0 where
  pub from : first_kind s ≤ b
  pub below : b < first_kind s + 6

-- The beginning of a node's list.
abbrev pub opened : Sort → ℕ → List ℕ
opened s b = 40 ∷ node_name s b ++ (32 ∷ [])

-- Behind what was read in the bytes, and behind its text in the output.
pub record Place : Type 0 where
  pub at : ℕ
  pub to : ℕ

-- Something is read in front of the bytes, and there is room for its text.
pub record Fronts {A : Type 0} (R : List ℕ → Got A) (T : A → List ℕ) (l : List ℕ) (to : ℕ) : Type 0 where
  pub value : A
  pub rest : List ℕ
  pub reads : R l ≡ got value rest
  pub room : Room to (T value)

-- Its text was written, and the bytes behind it are the rest.
pub record Printed {A : Type 0} (T : A → List ℕ) (l out : List ℕ) (to : ℕ) (r : Place) (out' : List ℕ) (x : A) (m : List ℕ) : Type 0 where
  pub rest : m ≡ drop r.at l
  pub inside : r.at ≤ length l
  pub wrote : Wrote (T x) out to r.to out'

pub record Prints {A : Type 0} (R : List ℕ → Got A) (T : A → List ℕ) (l out : List ℕ) (to : ℕ) (r : Place) (out' : List ℕ) : Type 0 where
  pub it : (x : A) (m : List ℕ) → R l ≡ got x m → Printed T l out to r out' x m

-- A formula in front of the bytes, with room for its text; and what was written of it.
abbrev pub FormulaFronts : Sort → List ℕ → ℕ → Type 0
FormulaFronts s l to = Fronts (read s) (formula_text s) l to

abbrev pub FormulaPrints : Sort → List ℕ → List ℕ → ℕ → Place → List ℕ → Type 0
FormulaPrints s l out to r out' = Prints (read s) (formula_text s) l out to r out'

-- A writer wrote what is read in front of the bytes, which takes n of them, to the same output.
pub record PrintsFor {A : Type 0} (R : List ℕ → Got A) (T : A → List ℕ) (l : List ℕ) (w : Writer) (n : ℕ) (w' : Writer) : Type 0 where
  pub prints : Prints R T l w.out.now w.to (record { at = n; to = w'.to }) w'.out.now
  pub same : w'.out.ghost_name ≡ w.out.ghost_name

abbrev pub FormulaWrites : Sort → List ℕ → Writer → ℕ → Writer → Type 0
FormulaWrites s l w n w' = PrintsFor (read s) (formula_text s) l w n w'

-- The text of the formula in front of the bytes was delivered.
pub record Delivered (s : Sort) (l out : List ℕ) (r : Result ℕ Refusal) (out' : List ℕ) : Type 0 where
  pub it : (t : Tree s) (m : List ℕ) → read s l ≡ got t m → Delivers (formula_text s t) out r out'
