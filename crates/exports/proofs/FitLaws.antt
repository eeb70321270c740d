-- Answers as one number: they fit, and they are those of the calculus' replies.
use Rattle.std.specs.Prelude.{Result, Ok, Err}
use Rattle.refusals.specs.declared.Refusal.{Refusal}
use mathlib.Core.Path.{◌≡◌, refl, sym, ap, ◌∙◌, subst}
use mathlib.Core.Option.{Option, none, some}
use mathlib.Core.List.{List, [], ◌∷◌, map}
use mathlib.Core.Bool.{Bool, true, false, ◌&&◌}
use Prim.Native.Nat.{ℕ, ◌≤◌, ◌<◌}
use native.Mathlib.Omega.{arith}
use lib.Dec.{leb}
use lib.ListN.{length}
use lib.Seq.{sets}
use Rattle.formula.specs.declared.Sort.{Sort}
use Rattle.formula.specs.declared.Sort.TheVariants.{Faces, Intervals}
use Rattle.formula.specs.Bytes.{Tree, encode, nodes, max_nodes, read_all}
use Rattle.formula.specs.Answers.{pick}
use Rattle.formula.proofs.Nodes.{len_short}
use Rattle.refusals.specs.declared.Refusal.TheVariants.{ShortOutput}
use Rattle.calculus.specs.Judgement.{Step}
use Rattle.calculus.specs.Rules.{AllBelow, pass, fail}
use Rattle.calculus.specs.Record.{max_ledger, Holds}
use Rattle.calculus.specs.Parse.{read_ledger}
use Rattle.calculus.specs.Emit.{Outcome, done, stopped, full, within, run}
use Rattle.calculus.specs.Door
use Rattle.calculus.specs.Door.{Call, Task, task_of, outputs_of, Measure, measure, answered, Reply, concluded, reply}
use Rattle.calculus.specs.Desk.{DeskAnswer, unreadable, judged, DeskGives}
use Rattle.calculus.proofs.Doors
use Rattle.calculus.proofs.Doors.{ItemsKeep, Each, each-some, each-bind, each_of, Passage, turned, ran, passage, answer-no-refusal, call-keeps}
use Rattle.calculus.proofs.Records.{ledger-read}
use Rattle.ledger.proofs.LedgerLaws.{many, place-next, place_end}
use Rattle.desk.specs.Verdicts.{answer_as}
use Rattle.desk.specs.declared.Verdict.{Verdict}
use Rattle.desk.proofs.Verdicts.{fails-lowest}
use Rattle.replies.specs.declared.Made.{Made}
use Rattle.replies.specs.Replying.{said_one, said_both, Replies}
use Rattle.text.specs.Reading.{Claimed, read_claim}
use Rattle.text.specs.Answers.{Delivered, BothDelivered, both_delivered, ReadsClaim}
use Rattle.text.specs.declared.Claim.{Claim}
use Rattle.grammar.proofs.Accepting.{ClaimWithin, claim-read}
use Rattle.numbers.specs.Answers.{desk_number, reply_number, count_number, claim_number, Reads, ReadsBoth, Numbers, Exhibits}
use Rattle.counterexample.specs.Answers.{Told, Shows}
use Rattle.numbers.specs.Packing.{Packs, ClaimFits, Low, verdict_number}

-- A ledger has fewer steps than bytes.
pub step-low : {l : List ℕ} {L : List Step} → Holds l L → {n : ℕ} → n < length L → n < max_ledger
step-low {L} h {n} b = omega (arith, many L n b, place-next L n b, place_end L n b, h.fits, h.small)

-- Results within the limits have at most 1,022 bytes.
abbrev pub Short : List Measure → Type 0
Short [] = Unit {0}
Short (m ∷ ms) = (m.bytes ≤ 1022) × Short ms

tree-short : (s : Sort) (t : Tree s) → nodes s t ≤ max_nodes → length (encode s t) ≤ 1022
tree-short s t h = omega (arith, len_short s t)

results-short : (c : Call) → Each (λ (t : Task). ItemsKeep t.results → Short (map measure t.results)) (task_of c)
results-short (Door.face d f) = each-bind (read_all Faces f) (λ φ e. each-some (λ q. tt))
results-short (Door.interval d r) = each-bind (read_all Intervals r) (λ ρ e. each-some (λ q. tt))
results-short (Door.boundary r out₀ out₁) = each-bind (read_all Intervals r) (λ ρ e. each-some (λ q. (tree-short Faces _ q.0.0, (tree-short Faces _ q.1.0.0, tt))))
results-short (Door.endpoint d phi r one) = each-bind (read_all Faces phi) (λ φ e. each-bind (read_all Intervals r) (λ ρ i. each-some (λ q. tt)))
results-short (Door.forall f k out) = each-bind (read_all Faces f) (λ φ e. each-some (λ q. (tree-short Faces _ q.0.0, tt)))
results-short (Door.shift s t k out) = each-bind (read_all s t) (λ τ e. each-some (λ q. (tree-short s _ q.0.0, tt)))
results-short (Door.substitute s t k r out) = each-bind (read_all s t) (λ τ e. each-bind (read_all Intervals r) (λ ρ i. each-some (λ q. (tree-short s _ q.0.0, tt))))
results-short (Door.entails d a b) = each-bind (read_all Faces a) (λ α e. each-bind (read_all Faces b) (λ β i. each-some (λ q. tt)))

passage-short : {c : Call} {l : List ℕ} {L : List Step} {r : Reply} → Passage c l L r → {n : ℕ} {ms : List Measure} → r.answer ≡ answered n ms → Short ms
passage-short (turned x b) p = answer-no-refusal (sym p)
passage-short {c} {l} {L} (ran t e f i q) {n} {ms} p = go (run (within (length l)) t.program L) p
  where
    go : (o : Outcome) → (concluded l (outputs_of c) t.results o).answer ≡ answered n ms → Short ms
    go (done m M) p = let s : map measure t.results ≡ ms = cc in subst Short s (each_of (results-short c) e q)
    go (stopped x M) p = answer-no-refusal (sym p)
    go full p = answer-no-refusal (sym p)

-- A step number is below 2^20, and results are short.
pub answer-fits : {c : Call} {l l' : List ℕ} {a : Door.Answer} {outs : List (List ℕ)} → AllBelow 256 l → Replies c l a l' outs → {n : ℕ} {ms : List Measure} → a ≡ answered n ms → (n < max_ledger) × Short ms
answer-fits {c} {l} b h {n} {ms} e = go (read_ledger l) refl
  where
    is : (reply c l).answer ≡ answered n ms
    is = ap (λ (r : Reply). r.answer) h.equal ∙ e

    go : (o : Option (List Step)) → read_ledger l ≡ o → (n < max_ledger) × Short ms
    go none i = answer-no-refusal (sym is ∙ ap (λ (r : Reply). r.answer) (Doors.unreadable c l i))
    go (some L) i =
        let k = call-keeps c l L (ledger-read l L b i) in
        let o = k.own n ms is in
        (step-low k.holds o.2.inside, passage-short (passage c l L i) is)

module _ {c : Call} {l l' : List ℕ} {a : Result Made Refusal} {outs : List (List ℕ)} (b : AllBelow 256 l) where
  pub packs-one : Replies c l (said_one a) l' outs → Packs a
  packs-one h = record { fits = λ m e. let x = answer-fits b h (ap said_one e) in (omega (arith, x.0), omega (arith, x.1.0)) }

  pub packs-both : Replies c l (said_both a) l' outs → Packs a
  packs-both h = record { fits = λ m e. let x = answer-fits b h (ap said_both e) in (omega (arith, x.0), omega (arith, x.1.0)) }

-- The step that does not follow is one of the ledger's.
pub desk-low : (l : List ℕ) → AllBelow 256 l → {v : Verdict} → DeskGives answer_as l v → Low v
desk-low l b h = record { fits = λ n e. let k = fails-lowest l h e in omega (arith, step-low (ledger-read l k.steps b k.reads) k.inside) }

-- The number of what a call says is that of the calculus' reply.
pub numbers : {c : Call} {l l' : List ℕ} {a : Door.Answer} {outs : List (List ℕ)} {r : ℕ} → Replies c l a l' outs → r ≡ reply_number a → Numbers (reply c l) r l' outs
numbers h e = record {
  numbered = e ∙ sym (ap (λ (x : Reply). reply_number x.answer) h.equal);
  ledger = sym (ap (λ (x : Reply). x.ledger) h.equal);
  outputs = sym (ap (λ (x : Reply). x.outputs) h.equal);
}

as-desk : (a : DeskAnswer) → verdict_number (answer_as a) ≡ desk_number a
as-desk unreadable = refl
as-desk (judged (pass n)) = refl
as-desk (judged (fail n)) = refl

pub desk-number : {l : List ℕ} {v : Verdict} {r : ℕ} → DeskGives answer_as l v → r ≡ verdict_number v → DeskGives desk_number l r
desk-number h e = record { answer = h.answer; says = h.says; given = e ∙ ap verdict_number h.given ∙ as-desk h.answer }

-- Readers and writers ------------------------------------------------------------------------------------

pub delivered-number : {d : Delivered} {out' : List ℕ} {r : ℕ} (a : Result ℕ Refusal) → d ≡ record { answer = a; output = out' } → r ≡ count_number a → Reads d r out'
delivered-number a h e = record { numbered = e ∙ ap (λ (x : Delivered). count_number x.answer) (sym h); output = ap (λ (x : Delivered). x.output) (sym h) }

pub claim-number : {l a b a' b' : List ℕ} {c : Result Claim Refusal} {r : ℕ} → ReadsClaim l a b c a' b' → r ≡ claim_number c → ReadsBoth (both_delivered (read_claim l) a b) r a' b'
claim-number h e = record { numbered = e ∙ ap (λ (x : BothDelivered). claim_number x.answer) (sym h.equal); left = ap (λ (x : BothDelivered). x.left) (sym h.equal); right = ap (λ (x : BothDelivered). x.right) (sym h.equal) }

-- A claim within the limits fits into one number.
record Bounded (n : Claim) : Type 0 where
  dimensions : n.d < 65536
  left : n.left < 65536
  right : n.right < 65536

BoundedAnswer : Result Claim Refusal → Type 0
BoundedAnswer (Ok n) = Bounded n
BoundedAnswer (Err e) = Unit {0}

bounded-put : (t : Bool) (c : Claimed) (a b : List ℕ) → ClaimWithin c
    → BoundedAnswer (pick {A = BothDelivered} t (record { answer = Ok (record { d = c.dimensions; left = length (encode Faces c.left); right = length (encode Faces c.right) }); left = sets a 0 (encode Faces c.left); right = sets b 0 (encode Faces c.right) }) (record { answer = Err ShortOutput; left = a; right = b })).answer
unfolding BoundedAnswer
bounded-put true c a b h = record { dimensions = omega (arith, h.0); left = omega (arith, tree-short Faces c.left h.1.0); right = omega (arith, tree-short Faces c.right h.2.0) }
bounded-put false c a b h = tt

bounded-claim : (l a b : List ℕ) (o : Result Claimed Refusal) → read_claim l ≡ o → BoundedAnswer (both_delivered o a b).answer
unfolding BoundedAnswer
bounded-claim l a b (Err e) p = tt
bounded-claim l a b (Ok c) p = bounded-put (leb (length (encode Faces c.left)) (length a) && leb (length (encode Faces c.right)) (length b)) c a b (claim-read l c p).1

pub claim-fits : {l a b a' b' : List ℕ} {r : Result Claim Refusal} → ReadsClaim l a b r a' b' → ClaimFits r
unfolding BoundedAnswer
claim-fits {l} {a} {b} h =
    record {
      fits = λ x e.
          let k : BoundedAnswer (Ok x) = subst BoundedAnswer (ap (λ (z : BothDelivered). z.answer) h.equal ∙ e) (bounded-claim l a b (read_claim l) refl) in
          (k.dimensions, k.left, k.right);
    }

-- A counterexample as one number.
pub shown-number : {d : ℕ} {a b out : List ℕ} {s : Result ℕ Refusal} {out' : List ℕ} {r : ℕ} → Shows d a b out s out' → r ≡ count_number s → Exhibits d a b out r out'
shown-number h e = record {
  found = h.found;
  is = h.is;
  numbered = e ∙ ap (λ (t : Told). count_number t.answer) (sym h.equal);
  output = ap (λ (t : Told). t.output) (sym h.equal);
}
