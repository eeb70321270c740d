-- For private contracts and for the crates above: operands and lines, written at a place of an output.
use Rattle.std.specs.Prelude.{ℕ, zero, suc, ◌≡◌, List, [], ◌∷◌}
use Rattle.formula.specs.declared.Sort.TheVariants.{Faces, Intervals}
use Rattle.formula.specs.Bytes.{got, take_dim}
use Rattle.calculus.specs.Judgement.{Step}
use Rattle.calculus.specs.Record
use Rattle.calculus.specs.Record.{Values}
use Rattle.calculus.specs.Rules.{step_at}
use Rattle.calculus.specs.Parse.{read_field, read_faces, read_values}
use Rattle.kinds.specs.declared.Field.{Field}
use Rattle.kinds.specs.declared.Field.TheVariants.{Number, Index, Context, End, Face, Interval}
use Rattle.ledger.specs.Ledger.{steps_of, Points}
use Rattle.writing.specs.Texts.{items_text, unary_text}
use Rattle.writing.specs.Writing.{Place, Room, Wrote, Fronts, Prints, PrintsFor}
use Rattle.writing.specs.declared.Writer.{Writer}
use Rattle.listing.specs.Lines.{context_text, field_text, value_texts}

-- A number in front of the bytes, n faces, a context.
abbrev pub NumberFronts : List ℕ → ℕ → Type 0
NumberFronts l to = Fronts take_dim unary_text l to

abbrev pub NumberPrints : List ℕ → List ℕ → ℕ → Place → List ℕ → Type 0
NumberPrints l out to r out' = Prints take_dim unary_text l out to r out'

abbrev pub NumberWrites : List ℕ → Writer → ℕ → Writer → Type 0
NumberWrites l w n w' = PrintsFor take_dim unary_text l w n w'

abbrev pub FacesFront : ℕ → List ℕ → ℕ → Type 0
FacesFront n l to = Fronts (read_faces n) context_text l to

abbrev pub FacesPrint : ℕ → List ℕ → List ℕ → ℕ → Place → List ℕ → Type 0
FacesPrint n l out to r out' = Prints (read_faces n) context_text l out to r out'

abbrev pub FacesWrite : ℕ → List ℕ → Writer → ℕ → Writer → Type 0
FacesWrite n l w k w' = PrintsFor (read_faces n) context_text l w k w'

abbrev pub ContextFronts : List ℕ → ℕ → Type 0
ContextFronts l to = Fronts (read_field Record.context) context_text l to

abbrev pub ContextPrints : List ℕ → List ℕ → ℕ → Place → List ℕ → Type 0
ContextPrints l out to r out' = Prints (read_field Record.context) context_text l out to r out'

abbrev pub ContextWrites : List ℕ → Writer → ℕ → Writer → Type 0
ContextWrites l w n w' = PrintsFor (read_field Record.context) context_text l w n w'

-- The field that is told.
abbrev pub field_of : Field → Record.Field
field_of Number = Record.number
field_of Index = Record.index
field_of Context = Record.context
field_of End = Record.end
field_of Face = Record.formula Faces
field_of Interval = Record.formula Intervals

abbrev pub FieldFronts : Record.Field → List ℕ → ℕ → Type 0
FieldFronts c l to = Fronts (read_field c) (field_text c) l to

abbrev pub FieldPrints : Record.Field → List ℕ → List ℕ → ℕ → Place → List ℕ → Type 0
FieldPrints c l out to r out' = Prints (read_field c) (field_text c) l out to r out'

abbrev pub FieldWrites : Record.Field → List ℕ → Writer → ℕ → Writer → Type 0
FieldWrites c l w n w' = PrintsFor (read_field c) (field_text c) l w n w'

-- Values in front of the bytes, with room for their texts; and that these were written.
abbrev pub ValuesFront : List Record.Field → List ℕ → ℕ → Type 0
ValuesFront cs l to = Fronts (read_values cs) (λ xs. items_text (value_texts cs xs)) l to

pub record ValuesPrint (cs : List Record.Field) (l out : List ℕ) (to r : ℕ) (out' : List ℕ) : Type 0 where
  pub it : (xs : Values cs) (m : List ℕ) → read_values cs l ≡ got xs m → Wrote (items_text (value_texts cs xs)) out to r out'

pub record ValuesWrite (cs : List Record.Field) (l : List ℕ) (w w' : Writer) : Type 0 where
  pub prints : ValuesPrint cs l w.out.now w.to w'.to w'.out.now
  pub same : w'.out.ghost_name ≡ w.out.ghost_name

-- What stands in front of reference j.
abbrev pub comma_text : ℕ → List ℕ
comma_text zero = []
comma_text (suc j) = 44 ∷ []

-- The step that a cursor points at.
abbrev pub step_of : List ℕ → ℕ → Step
step_of l i = step_at (steps_of l) i

-- A step, with room for a text of it.
pub record Shows (l : List ℕ) (step at : ℕ) (T : Step → List ℕ) (to : ℕ) : Type 0 where
  pub points : Points l step at
  pub room : Room to (T (step_of l step))
