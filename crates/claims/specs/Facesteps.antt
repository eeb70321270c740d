-- What the program facesteps prints (document 01, "Text and listing"): the steps of a claim typed as a line, and the answer.
use Rattle.std.specs.Prelude.{ℕ, suc, List, [], ◌∷◌, ◌++◌, Result, Ok, Err, eqb, leb, length}
use Rattle.formula.specs.declared.Sort.TheVariants.{Faces}
use Rattle.formula.specs.Bytes.{encode}
use Rattle.formula.specs.Answers.{pick}
use Rattle.calculus.specs.Judgement.{Step}
use Rattle.calculus.specs.Table.{text_bytes}
use Rattle.refusals.specs.declared.Refusal.TheVariants.{NotAccepted}
use Rattle.refusals.specs.declared.Refusal.{Refusal}
use Rattle.refusals.specs.Refusals.{number}
use Rattle.calculus.specs.Door
use Rattle.calculus.specs.Door.{answered, entails, reply}
use Rattle.calculus.specs.Demand.{empty}
use Rattle.ledger.specs.Ledger.{steps_of}
use Rattle.text.specs.Reading.{Claimed, read_claim}
use Rattle.text.specs.Wholes.{Delivers}
use Rattle.writing.specs.Texts.{decimal_text}
use Rattle.listing.specs.Lines.{line_text}

-- The first line: what stands before byte 10, or all.
unfoldable pub first_line : List ℕ → List ℕ
first_line [] = []
first_line (b ∷ l) = pick (eqb b 10) [] (b ∷ first_line l)

-- The claim that a line is; 11 where it has over 4,096 bytes, before any token is read.
abbrev pub line_claim : List ℕ → Result Claimed Refusal
line_claim l = pick (leb (length l) 4096) (read_claim l) (Err NotAccepted)

-- The ledger that the program starts with.
abbrev pub blank : List ℕ
blank = empty 65536

-- An answer, and the ledger after it.
pub record Asked : Type 0 where
  pub answer : Door.Answer
  pub ledger : List ℕ

-- The claim is asked by entails; where the line is none, the ledger stays blank.
abbrev pub asked : Result Claimed Refusal → Asked
asked (Err e) = record { answer = Door.refused e; ledger = blank }
asked (Ok c) =
    let r = reply (entails c.dimensions (encode Faces c.left) (encode Faces c.right)) blank in
    record { answer = r.answer; ledger = r.ledger }

-- The lines of steps, numbered from i on.
unfoldable pub lines_from : ℕ → List Step → List ℕ
lines_from i [] = []
lines_from i (s ∷ L) = line_text i s ++ lines_from (suc i) L

-- The last line: yes and the number of the step, or refused and document 01's number.
abbrev pub verdict_text : Door.Answer → List ℕ
verdict_text (answered n ms) = text_bytes "yes " ++ (decimal_text n ++ (10 ∷ []))
verdict_text (Door.refused e) = text_bytes "refused " ++ (decimal_text (number e) ++ (10 ∷ []))

-- Every step of the ledger, and the answer.
abbrev pub printed : Asked → List ℕ
printed x = lines_from 0 (steps_of x.ledger) ++ verdict_text x.answer

-- All that the program prints for an input.
unfoldable pub facesteps : List ℕ → List ℕ
facesteps input = printed (asked (line_claim (first_line input)))

-- The answer and every byte of the output are those for what the program prints; 6 where it does not fit.
pub record PrintsInto (input out : List ℕ) (r : Result ℕ Refusal) (out' : List ℕ) : Type 0 where
  pub delivers : Delivers (facesteps input) out r out'
