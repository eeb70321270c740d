-- The first line of an input, and the claim that it is, asked.
use Prim.Native.Nat.{ℕ, suc, ◌+◌, ◌≤◌, ◌<◌}
use native.Mathlib.Omega.{arith}
use mathlib.Core.Path.{◌≡◌, refl, sym, ap, ap₂, ◌∙◌, subst}
use mathlib.Core.Bool.{Bool, true, false, ◌&&◌}
use mathlib.Core.List.{List, [], ◌∷◌}
use borrow.Author.Tests.{le-leb, lt-leb}
use lib.Dec.{eqb, leb}
use lib.ListN.{length, take}
use lib.Seq.{sets, length-sets}
use Rattle.formula.specs.declared.Sort.TheVariants.{Faces}
use Rattle.formula.specs.Formula.{Face, ff}
use Rattle.formula.specs.Bytes.{encode, nodes, max_nodes}
use Rattle.formula.specs.Answers.{pick}
use Rattle.formula.proofs.Nodes.{len_short}
use Rattle.calculus.specs.Record.{max_ledger}
use Rattle.refusals.specs.declared.Refusal.{Refusal}
use Rattle.refusals.specs.declared.Refusal.TheVariants.{ShortOutput, NotAccepted}
use Rattle.std.specs.Prelude.{Result, Ok, Err, Some, None, cond, nat_lt, unwrap_or, position}
use Rattle.std.specs.List.{position_or_len}
use Rattle.std.proofs.lemmas.List.Recursion.{is_position_or_len}
use Rattle.calculus.specs.Door
use Rattle.calculus.specs.Door.{answered, entails, reply}
use Rattle.calculus.proofs.Demands.{empty_holds}
use Rattle.calculus.proofs.Doors.{call-keeps}
use Rattle.ledger.specs.Ledger.{Led}
use Rattle.ledger.proofs.LedgerLaws.{holds-led, many, place-next, place_end}
use Rattle.text.specs.Reading.{Claimed, read_claim}
use Rattle.text.specs.Answers.{both_delivered, ReadsClaim, BothDelivered}
use Rattle.text.specs.declared.Claim.{Claim}
use Rattle.text.proofs.WholeLaws.{made-front}
use Rattle.grammar.proofs.Accepting.{ClaimWithin, claim-read}
use Rattle.replies.specs.Replying.{said, Replies}
use Rattle.claims.specs.Facesteps.{first_line, line_claim, blank, asked}
use Rattle.claims.specs.Printing.{Asks}

-- The first line ---------------------------------------------------------------------------------------

-- It ends at the first byte 10.
line-long : (l : List ℕ) → length (first_line l) ≡ position_or_len (λ b. eqb b 10) l
unfolding first_line
line-long l = is_position_or_len (λ l. length (first_line l)) (λ b. eqb b 10) refl (λ b m. go (eqb b 10) b (first_line m)) l
  where
    go : (t : Bool) (b : ℕ) (m : List ℕ) → length (pick t [] (b ∷ m)) ≡ cond t 0 (1 + length m)
    go true b m = refl
    go false b m = omega arith

pub line-found : (l : List ℕ) {n : ℕ} → position (λ b. eqb b 10) l ≡ Some n → n ≡ length (first_line l)
line-found l {n} e = go (nat_lt (position_or_len (λ b. eqb b 10) l) (length l)) e
  where
    go : (t : Bool) → cond t (Some (position_or_len (λ b. eqb b 10) l)) None ≡ Some n → n ≡ length (first_line l)
    go true p = sym (ap (λ o. unwrap_or o 0) p) ∙ sym (line-long l)
    go false p = cc

-- The line is the front of the input.
pub line-front : (l : List ℕ) → take (length (first_line l)) l ≡ first_line l
unfolding first_line
line-front [] = refl
line-front (b ∷ l) = by (eqb b 10) (line-front l)
  where
    by : (t : Bool) → take (length (first_line l)) l ≡ first_line l → take (length (pick t [] (b ∷ first_line l))) (b ∷ l) ≡ pick t [] (b ∷ first_line l)
    by true h = refl
    by false h = ap (λ (m : List ℕ). b ∷ m) h

pub line-short : (l : List ℕ) → length (first_line l) ≤ length l
unfolding first_line
line-short [] = omega arith
line-short (b ∷ l) = by (eqb b 10) (line-short l)
  where
    by : (t : Bool) → length (first_line l) ≤ length l → length (pick t [] (b ∷ first_line l)) ≤ suc (length l)
    by true h = omega arith
    by false h = omega arith

pub line-none : (l : List ℕ) → position (λ b. eqb b 10) l ≡ None → length l ≡ length (first_line l)
line-none l e = go (nat_lt (position_or_len (λ b. eqb b 10) l) (length l)) refl e
  where
    go : (t : Bool) → nat_lt (position_or_len (λ b. eqb b 10) l) (length l) ≡ t → cond t (Some (position_or_len (λ b. eqb b 10) l)) None ≡ None → length l ≡ length (first_line l)
    go true p q = cc
    go false p q = let k = line-long l in let h = line-short l in grind (arith, p, k, h)

-- What was read ----------------------------------------------------------------------------------------

-- The claim of a text, its faces in front of scratch bytes.
pub record Got (text : List ℕ) (d x y : ℕ) (a b : List ℕ) : Type 0 where
  pub claim : Claimed
  pub reads : read_claim text ≡ Ok claim
  pub dimensions : d ≡ claim.dimensions
  pub left : take x a ≡ encode Faces claim.left
  pub right : take y b ≡ encode Faces claim.right
  pub fits-left : x ≤ length a
  pub fits-right : y ≤ length b

abbrev pub ReadAs : List ℕ → Result Claim Refusal → List ℕ → List ℕ → Type 0
ReadAs text (Ok c) a b = Got text c.d c.left c.right a b
ReadAs text (Err q) a b = read_claim text ≡ Err q

-- A face within the limits fits into the scratch bytes.
face-fits : (f : Face) → nodes Faces f ≤ max_nodes → length (encode Faces f) ≤ 1022
face-fits f h = omega (arith, len_short Faces f)

put_all : (c : Claimed) (a b : List ℕ) → length a ≡ 1024 → length b ≡ 1024 → ClaimWithin c
    → both_delivered (Ok c) a b ≡ record { answer = Ok (record { d = c.dimensions; left = length (encode Faces c.left); right = length (encode Faces c.right) }); left = sets a 0 (encode Faces c.left); right = sets b 0 (encode Faces c.right) }
put_all c a b h k w =
    let x = encode Faces c.left in
    let y = encode Faces c.right in
    let p : leb (length x) (length a) ≡ true = le-leb (length x) (length a) (omega (arith, face-fits c.left w.1.0, h)) in
    let q : leb (length y) (length b) ≡ true = le-leb (length y) (length b) (omega (arith, face-fits c.right w.2.0, k)) in
    ap₂ (λ (s t : Bool). pick (s && t) (record { answer = Ok (record { d = c.dimensions; left = length x; right = length y }); left = sets a 0 x; right = sets b 0 y }) (record { answer = Err ShortOutput; left = a; right = b })) p q

not_done : {A B : Type 0} {e : _} {x : A} → ◌≡◌ {A = Result A Refusal} (Err e) (Ok x) → B
not_done p = absurd (let z : ◌≡◌ {A = ℕ} 0 1 = cc in omega arith)

-- The refusal of one reading, as that of another.
again : {A B : Type 0} → B → Result A Refusal → Result B Refusal
again b (Err e) = Err e
again b (Ok v) = Ok b

any_claim : Claimed
any_claim = record { dimensions = 0; left = ff; right = ff }

lengths_in : Result Claim Refusal → Claim
lengths_in (Err e) = record { d = 0; left = 0; right = 0 }
lengths_in (Ok v) = v

pub read_as : (text : List ℕ) {a b a' b' : List ℕ} {r : Result Claim Refusal} → length a ≡ 1024 → length b ≡ 1024 → ReadsClaim text a b r a' b' → ReadAs text r a' b'
unfolding again lengths_in
read_as text {a} {b} {a'} {b'} {r} h k e = by r (read_claim text) refl e.equal
  where
    by : (r : Result Claim Refusal) (o : Result Claimed Refusal) → read_claim text ≡ o → both_delivered o a b ≡ record { answer = r; left = a'; right = b' } → ReadAs text r a' b'
    by (Err q) (Err x) i j = i ∙ ap (λ (d : BothDelivered). again any_claim d.answer) j
    by (Ok v) (Err z) i j = not_done (ap (λ (d : BothDelivered). d.answer) j)
    by (Err q) (Ok c) i j = not_done (sym (ap (λ (d : BothDelivered). d.answer) (sym (put_all c a b h k (claim-read text c i).1) ∙ j)))
    by (Ok m) (Ok c) i j =
        let w = (claim-read text c i).1 in
        let v = sym (put_all c a b h k w) ∙ j in
        let p = ap (λ (z : BothDelivered). lengths_in z.answer) v in
        let dx : c.dimensions ≡ m.d = ap (λ (z : Claim). z.d) p in
        let lx : length (encode Faces c.left) ≡ m.left = ap (λ (z : Claim). z.left) p in
        let ly : length (encode Faces c.right) ≡ m.right = ap (λ (z : Claim). z.right) p in
        record {
          claim = c;
          reads = i;
          dimensions = sym dx;
          left = ap (take m.left) (sym (ap (λ (z : BothDelivered). z.left) v)) ∙ made-front (encode Faces c.left) a (sym lx) (omega (arith, face-fits c.left w.1.0, h));
          right = ap (take m.right) (sym (ap (λ (z : BothDelivered). z.right) v)) ∙ made-front (encode Faces c.right) b (sym ly) (omega (arith, face-fits c.right w.2.0, k));
          fits-left = omega (arith, face-fits c.left w.1.0, lx, h, length-sets a 0 (encode Faces c.left), ap (λ (z : BothDelivered). length z.left) v);
          fits-right = omega (arith, face-fits c.right w.2.0, ly, k, length-sets b 0 (encode Faces c.right), ap (λ (z : BothDelivered). length z.right) v);
        }

-- What was asked ---------------------------------------------------------------------------------------

blank-led : Led blank
blank-led = holds-led (empty_holds 65536 (omega arith) (omega arith))

no_step : {e : Refusal} (n : ℕ) → ◌≡◌ {A = Result ℕ Refusal} (Err e) (Ok n) → n < max_ledger
no_step n p = absurd (let w : ◌≡◌ {A = ℕ} 0 1 = cc in omega arith)

pub asks-long : (input : List ℕ) {l : List ℕ} → l ≡ blank → 4096 < length (first_line input) → Asks input (Err NotAccepted) l
asks-long input {l} e h =
    let m = first_line input in
    record {
      equal = ap (λ (t : Bool). asked (pick t (read_claim m) (Err NotAccepted))) (lt-leb (length m) 4096 h) ∙ ap (λ (l : List ℕ). record { answer = Door.refused NotAccepted; ledger = l }) (sym e);
      led = subst Led (sym e) blank-led;
      small = no_step;
    }

module _ (input : List ℕ) (h : length (first_line input) ≤ 4096) {text : List ℕ} (t : text ≡ first_line input) where
  claimed : (o : Result Claimed Refusal) → read_claim text ≡ o → asked (line_claim (first_line input)) ≡ asked o
  claimed o e =
      let m = first_line input in
      ap (λ (t : Bool). asked (pick t (read_claim m) (Err NotAccepted))) (le-leb (length m) 4096 h) ∙ ap (λ (m : List ℕ). asked (read_claim m)) (sym t) ∙ ap asked e

  pub asks_none : {l : List ℕ} {q : Refusal} → l ≡ blank → read_claim text ≡ Err q → Asks input (Err q) l
  asks_none {q = q} e i =
      record {
        equal = claimed (Err q) i ∙ ap (λ (l : List ℕ). record { answer = Door.refused q; ledger = l }) (sym e);
        led = subst Led (sym e) blank-led;
        small = no_step;
      }

  module _ {d x y : ℕ} {a b l l' : List ℕ} (r : Result ℕ Refusal) (e : l ≡ blank) (g : Got text d x y a b) (p : Replies (entails d (take x a) (take y b)) l (said r) l' []) where
    same-call : entails d (take x a) (take y b) ≡ entails g.claim.dimensions (encode Faces g.claim.left) (encode Faces g.claim.right)
    same-call = ap₂ (λ (u v : List ℕ). entails d u v) g.left g.right ∙ ap (λ (d : ℕ). entails d (encode Faces g.claim.left) (encode Faces g.claim.right)) g.dimensions

    replied : reply (entails g.claim.dimensions (encode Faces g.claim.left) (encode Faces g.claim.right)) blank ≡ record { answer = said r; ledger = l'; outputs = [] }
    replied = sym (ap₂ reply same-call e) ∙ p.equal

    pub asks-claim : Asks input r l'
    asks-claim =
        let keeps = call-keeps (entails g.claim.dimensions (encode Faces g.claim.left) (encode Faces g.claim.right)) blank [] (empty_holds 65536 (omega arith) (omega arith)) in
        record {
          equal = claimed (Ok g.claim) g.reads ∙ ap (λ (x : Door.Reply). record { answer = x.answer; ledger = x.ledger }) replied;
          led = subst Led (ap (λ (x : Door.Reply). x.ledger) replied) (holds-led keeps.holds);
          small = λ n q.
              let o = keeps.own n [] (ap (λ (x : Door.Reply). x.answer) replied ∙ ap said q) in
              let L = keeps.steps in
              omega (arith, many L n o.2.inside, place-next L n o.2.inside, place_end L n o.2.inside, keeps.holds.fits, keeps.holds.small);
        }
