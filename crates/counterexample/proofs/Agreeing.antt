-- What is answered is fixed, what was admitted, and that an assignment is written exactly when entails answers 9.
use Prim.Native.Nat.{ℕ, ◌≤◌}
use native.Mathlib.Omega.{arith}
use mathlib.Core.Path.{◌≡◌, refl, sym, ap, ◌∙◌, subst}
use mathlib.Core.Logic.{◌↔◌}
use mathlib.Core.Bool.{Bool, true, false, ◌&&◌}
use mathlib.Core.Option.{Option, none, some}
use mathlib.Core.List.{List}
use lib.Dec.{leb}
use lib.ListN.{length}
use borrow.Author.Tests.{leb-true}
use Rattle.refusals.specs.declared.Refusal.TheVariants.{LargeDimension, ShortOutput, NotBelow, NotImplied}
use Rattle.std.specs.Prelude.{Result, Ok, Err}
use Rattle.refusals.specs.declared.Refusal.{Refusal}
use Rattle.refusals.specs.Refusals.{of_one, of_two}
use Rattle.formula.specs.Formula.{Face}
use Rattle.formula.specs.declared.Sort.TheVariants.{Faces}
use Rattle.formula.specs.Bytes.{bound_face, read_all, max_bound}
use Rattle.formula.specs.Answers.{pick, operand}
use Rattle.formula.proofs.Reading.{read_all-encode}
use Rattle.formula.proofs.Operands.{opened}
use Rattle.calculus.specs.Judgement.{Step}
use Rattle.calculus.specs.Parse.{read_ledger}
use Rattle.calculus.specs.Door
use Rattle.calculus.specs.Door.{entails, reply}
use Rattle.calculus.proofs.Doors.{NotRefusedTo7}
use Rattle.assignments.specs.Assignments.{Least}
use Rattle.assignments.proofs.Least.{least-one}
use Rattle.assignments.proofs.Entailing.{least-refuted, least-when-9}
use Rattle.counterexample.specs.Answers.{Claim, numbered, admitted, asked, Behind, Found, before, sought, Told, put, ShowsFor, Shows}

-- ---- what is answered is fixed

behind-one : (d : ℕ) (c : Claim) (x y : Option (List ℕ)) → Behind d c x → Behind d c y → x ≡ y
behind-one d c none none p q = refl
behind-one d c none (some m) p q = absurd (least-refuted q p)
behind-one d c (some l) none p q = absurd (least-refuted p q)
behind-one d c (some l) (some m) p q = ap some (least-one p q)

found-one : {d : ℕ} {x : Result Claim Refusal} {f g : Result (Option (List ℕ)) Refusal} → Found d x f → Found d x g → f ≡ g
found-one before before = refl
found-one {d} (sought {c} x p) (sought y q) = ap Ok (behind-one d c x y p q)

-- Two answers to one question are the same, and so is every byte of the output.
pub shows-one : {d : ℕ} {out : List ℕ} {x : Result Claim Refusal} {r s : Result ℕ Refusal} {o p : List ℕ} → ShowsFor d out x r o → ShowsFor d out x s p → (r ≡ s) × (o ≡ p)
shows-one {d} {out} {r = r} {s} {o} {p} f g = (ap (λ (t : Told). t.answer) same, ap (λ (t : Told). t.output) same)
  where
    same : ◌≡◌ {A = Told} (record { answer = r; output = o }) (record { answer = s; output = p })
    same = sym f.equal ∙ ap (put d out) (found-one f.is g.is) ∙ g.equal

-- ---- what was admitted

-- The operands are the faces of the claim, all dimensions are below d, and the output has d bytes.
pub record Admitted (d : ℕ) (a b out : List ℕ) (c : Claim) : Type 0 where
  pub left : read_all Faces a ≡ some c.left
  pub goal : read_all Faces b ≡ some c.goal
  pub low : bound_face c.left ≤ d
  pub high : bound_face c.goal ≤ d
  pub room : d ≤ length out

operand-reads : (l : List ℕ) (t : Face) → operand Faces l ≡ Ok t → read_all Faces l ≡ some t
operand-reads l t e = ap (read_all Faces) (opened Faces l t e).bytes ∙ read_all-encode Faces t

-- Questions 4, 6 and 8, by their tests.
admitted-by : (d : ℕ) (a b out : List ℕ) (k c : Claim) → read_all Faces a ≡ some k.left → read_all Faces b ≡ some k.goal → of_one (admitted d out) (numbered d k.left k.goal) ≡ Ok c → Admitted d a b out c
admitted-by d a b out k c i j e = first (leb d max_bound) e
  where
    then : (w x y : Bool) → leb d (length out) ≡ w → leb (bound_face k.left) d ≡ x → leb (bound_face k.goal) d ≡ y
        → pick w (pick (x && y) (Ok k) (Err NotBelow)) (Err ShortOutput) ≡ Ok c → Admitted d a b out c
    then true true true p q r e =
        subst (Admitted d a b out) (let h : k ≡ c = cc in h) (record {
          left = i;
          goal = j;
          low = leb-true (bound_face k.left) d q;
          high = leb-true (bound_face k.goal) d r;
          room = leb-true d (length out) p;
        })
    then true true false p q r e = absurd (let h : ◌≡◌ {A = ℕ} 0 1 = cc in omega arith)
    then true false y p q r e = absurd (let h : ◌≡◌ {A = ℕ} 0 1 = cc in omega arith)
    then false x y p q r e = absurd (let h : ◌≡◌ {A = ℕ} 0 1 = cc in omega arith)

    first : (v : Bool) → of_one (admitted d out) (pick v (Ok k) (Err LargeDimension)) ≡ Ok c → Admitted d a b out c
    first true e = then (leb d (length out)) (leb (bound_face k.left) d) (leb (bound_face k.goal) d) refl refl refl e
    first false e = absurd (let h : ◌≡◌ {A = ℕ} 0 1 = cc in omega arith)

-- What it means that every question before the search is kept.
pub asked-admitted : (d : ℕ) (a b out : List ℕ) (c : Claim) → asked d a b out ≡ Ok c → Admitted d a b out c
asked-admitted d a b out c e = go (operand Faces a) (operand Faces b) refl refl e
  where
    go : (x y : Result Face Refusal) → operand Faces a ≡ x → operand Faces b ≡ y → of_one (admitted d out) (of_two (numbered d) x y) ≡ Ok c → Admitted d a b out c
    go (Err p) (Err q) i j e = absurd (let h : ◌≡◌ {A = ℕ} 0 1 = cc in omega arith)
    go (Err p) (Ok β) i j e = absurd (let h : ◌≡◌ {A = ℕ} 0 1 = cc in omega arith)
    go (Ok α) (Err q) i j e = absurd (let h : ◌≡◌ {A = ℕ} 0 1 = cc in omega arith)
    go (Ok α) (Ok β) i j e = admitted-by d a b out (record { left = α; goal = β }) c (operand-reads a α i) (operand-reads b β j) e

-- ---- at the door

-- An assignment is written exactly when there is a least.
written-least : (d : ℕ) (out : List ℕ) (c : Claim) {r : Result ℕ Refusal} {out' : List ℕ} → ShowsFor d out (Ok c) r out' → (r ≡ Ok d) ↔ ((m : List ℕ) × Least d c.left c.goal m)
written-least d out c {r} s = go s.is (ap (λ (t : Told). t.answer) s.equal)
  where
    go : {f : Result (Option (List ℕ)) Refusal} → Found d (Ok c) f → (put d out f).answer ≡ r → (r ≡ Ok d) ↔ ((m : List ℕ) × Least d c.left c.goal m)
    go (sought none p) e = (λ h. absurd (let k : ◌≡◌ {A = ℕ} 0 1 = cc in omega arith), λ x. absurd (least-refuted x.1 p))
    go (sought (some l) p) e = (λ h. (l, p), λ x. sym e)

-- Where every question before the search is kept, and entails is not refused by 1 to 7, an assignment is written exactly when entails is refused by 9.
pub written-when-9 : (d : ℕ) (a b out : List ℕ) (c : Claim) → asked d a b out ≡ Ok c → {r : Result ℕ Refusal} {out' : List ℕ} → Shows d a b out r out'
    → (l : List ℕ) (L : List Step) → read_ledger l ≡ some L → NotRefusedTo7 (reply (entails d a b) l).answer
    → (r ≡ Ok d) ↔ ((reply (entails d a b) l).answer ≡ Door.refused NotImplied)
written-when-9 d a b out c k {r} {out'} s l L e u =
    let A = asked-admitted d a b out c k in
    let w = written-least d out c (subst (λ x. ShowsFor d out x r out') k s) in
    let n = least-when-9 d a b c.left c.goal A.left A.goal A.low A.high l L e u in
    (λ h. n.0 (w.0 h), λ h. w.1 (n.1 h))
