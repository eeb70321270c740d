-- Texts measured first, and written where they fit.
use Prim.Native.Nat.{ℕ, ◌≤◌, ◌<◌}
use native.Mathlib.Omega.{arith}
use native.Mathlib.Nat.{zero-add}
use mathlib.Core.Path.{◌≡◌, refl, sym, ap, ◌∙◌}
use mathlib.Core.Bool.{Bool, true, false}
use mathlib.Core.List.{List, [], append-nil}
use borrow.Author.Tests.{le-leb, lt-leb}
use lib.Dec.{leb}
use lib.ListN.{length}
use lib.Seq.{sets}
use Rattle.formula.specs.declared.Sort.{Sort}
use Rattle.formula.specs.declared.Size.{Size}
use Rattle.formula.specs.Bytes.{encode, got, read}
use Rattle.formula.specs.Answers.{pick, size_of, operand}
use Rattle.formula.proofs.Reading.{read-encode}
use Rattle.formula.proofs.Operands.{Fitted, sized-fits, sized-refused, Opened, opened, opened-limits}
use Rattle.refusals.specs.declared.Refusal.{Refusal}
use Rattle.refusals.specs.declared.Refusal.TheVariants.{ShortOutput}
use Rattle.refusals.specs.Refusals.{map}
use Rattle.std.specs.Prelude.{Result, Ok, Err}
use Rattle.text.specs.Answers.{delivered}
use Rattle.text.specs.Wholes.{Delivers}
use Rattle.writing.specs.Texts.{formula_text}
use Rattle.writing.specs.Answers.{WritesInto}
use Rattle.writing.specs.Writing.{Place, Wrote, FormulaFronts, FormulaPrints, Delivered}
use Rattle.writing.proofs.TextLaws.{text-long}

-- A text that was measured and does not fit, or was written.
by-room : (x out : List ℕ) (t : Bool) → leb (length x) (length out) ≡ t
    → delivered (Ok x) out ≡ pick t (record { answer = Ok (length x); output = sets out 0 x }) (record { answer = Err ShortOutput; output = out })
by-room x out t e = ap (λ (t : Bool). pick t (record { answer = Ok (length x); output = sets out 0 x }) (record { answer = Err ShortOutput; output = out })) e

pub short-delivers : {x z z' out out' : List ℕ} {n : ℕ} → Wrote x z 0 n z' → length out < n → out' ≡ out → Delivers x out (Err ShortOutput) out'
short-delivers {x} {out = out} w h e =
    record { equal = by-room x out false (lt-leb (length x) (length out) (omega (arith, w.end))) ∙ ap (λ (o : List ℕ). record { answer = Err ShortOutput; output = o }) (sym e) }

-- What a writer wrote to the output, whose bytes are told by another name.
pub writes-deliver : {x z z' out out' o : List ℕ} {n m : ℕ} → Wrote x z 0 n z' → n ≤ length out → Wrote x out 0 m out' → o ≡ out' → Delivers x out (Ok m) o
writes-deliver {x} {out = out} {o = o} {m = m} w h v e =
    record {
      equal =
          by-room x out true (le-leb (length x) (length out) (omega (arith, w.end)))
          ∙ ap (λ (n : ℕ). record { answer = Ok n; output = sets out 0 x }) (sym (v.end ∙ zero-add (length x)))
          ∙ ap (λ (o : List ℕ). record { answer = Ok m; output = o }) (sym (e ∙ v.bytes));
    }

pub wrote-delivers : {x z z' out out' : List ℕ} {n m : ℕ} → Wrote x z 0 n z' → n ≤ length out → Wrote x out 0 m out' → Delivers x out (Ok m) out'
wrote-delivers w h v = writes-deliver w h v refl

-- The formula in front of the bytes.
pub sized-short : {s : Sort} {l z z' out : List ℕ} {p : Place} → FormulaPrints s l z 0 p z' → length out < p.to → Delivered s l out (Err ShortOutput) out
sized-short g h = record { it = λ t m r. short-delivers (g.it t m r).wrote h refl }

pub sized-wrote : {s : Sort} {l z z' out out' o : List ℕ} {p q : Place} → FormulaPrints s l z 0 p z' → p.to ≤ length out → FormulaPrints s l out 0 q out' → o ≡ out' → Delivered s l out (Ok q.to) o
sized-wrote g h k e = record { it = λ t m r. writes-deliver (g.it t m r).wrote h (k.it t m r).wrote e }

-- Nothing but a formula within the limits is written.
module _ (s : Sort) (f : List ℕ) {z : Size} (e : Ok z ≡ map (size_of s) (operand s f)) where
  abbrev h : Fitted s (operand s f) z
  h = sized-fits s (operand s f) e

  abbrev o : Opened s f h.tree
  o = opened s f h.tree h.is

  -- It stands in front of them, with nothing behind it.
  reads-front : read s f ≡ got h.tree []
  reads-front = ap (read s) (o.bytes ∙ sym (append-nil (encode s h.tree))) ∙ read-encode s h.tree []

  pub writes-front : FormulaFronts s f 0
  writes-front =
      let k = opened-limits s o in
      record {
        value = h.tree;
        rest = [];
        reads = reads-front;
        room = record { fits = omega (arith, text-long s h.tree (omega (arith, k.1)), k.0) };
      }

  pub writes-in : {out out' : List ℕ} {x : Result ℕ Refusal} → Delivered s f out x out' → WritesInto s f out x out'
  writes-in {out} d = record { equal = ap (λ x. delivered (map (formula_text s) x) out) h.is ∙ (d.it h.tree [] reads-front).equal }
