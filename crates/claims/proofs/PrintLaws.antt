-- Lines of steps, one after another.
use Prim.Native.Nat.{ℕ, zero, suc, ◌+◌, ◌-◌, ◌*◌, ◌≤◌, ◌<◌}
use native.Mathlib.Omega.{arith}
use native.Mathlib.Nat.{add-zero, add-suc, suc-add, eq-or-lt_of_le}
use mathlib.Core.Logic.{⊎_elim}
use mathlib.Core.Path.{◌≡◌, refl, sym, ap, ◌∙◌, subst}
use mathlib.Core.List.{List, [], ◌∷◌, ◌++◌, append-nil, append_assoc}
use lib.ListN.{length, take, drop, length-append, length-drop}
use lib.Seq.{get_or-drop, take_all, drop-drop}
use Rattle.calculus.specs.Judgement.{Step}
use Rattle.calculus.specs.Rules.{step_at}
use Rattle.calculus.specs.Record.{max_ledger, size}
use Rattle.refusals.specs.Refusals.{number}
use Rattle.refusals.proofs.Numbers.{number-range}
use Rattle.replies.specs.Replying.{said}
use Rattle.std.specs.Prelude.{Result, Ok, Err}
use Rattle.refusals.specs.declared.Refusal.{Refusal}
use Rattle.calculus.specs.Table.{text_bytes}
use Rattle.ledger.specs.Ledger.{steps_of, place_of, Led, Points}
use Rattle.ledger.proofs.LedgerLaws.{many, place-next, place_end}
use Rattle.ledger.proofs.PointLaws.{Walks, walks-start, walks-points, walks-end, walks_next, walks-forward}
use Rattle.writing.specs.Texts.{decimal_text}
use Rattle.writing.specs.Writing.{Room, Wrote, Writes}
use Rattle.writing.specs.declared.Writer.{Writer}
use Rattle.claims.specs.declared.Page.{Page}
use Rattle.writing.proofs.WriteLaws.{wrote-next, wrote_as, wrote_none, wrote-length, wrote-to, room_as, writes-as}
use Rattle.listing.specs.Lines.{line_text}
use Rattle.listing.specs.Writing.{step_of, Shows}
use Rattle.listing.proofs.LineLaws.{line-short, decimal-short}
use Rattle.claims.specs.Facesteps.{lines_from, verdict_text, printed, facesteps}
use Rattle.claims.specs.Printing.{Asks, listed, Among, Pages, lines_to}

-- A line more.
lines_snoc : (i : ℕ) (M : List Step) (n : ℕ) → n < length M → lines_from i (take (suc n) M) ≡ lines_from i (take n M) ++ line_text (i + n) (step_at M n)
unfolding lines_from
lines_snoc i [] n h = absurd (omega arith)
lines_snoc i (s ∷ M) zero h = append-nil (line_text i s) ∙ ap (λ (k : ℕ). line_text k s) (sym (add-zero i))
lines_snoc i (s ∷ M) (suc n) h =
    ap (λ (l : List ℕ). line_text i s ++ l) (lines_snoc (suc i) M n (omega arith)) ∙ sym (append_assoc (line_text i s) (lines_from (suc i) (take n M)) (line_text (suc i + n) (step_at M n)))
    ∙ ap (λ (k : ℕ). (line_text i s ++ lines_from (suc i) (take n M)) ++ line_text k (step_at M n)) (suc-add i n ∙ sym (add-suc i n))

-- The lines up to a step, and its own.
pub lines_next : (l : List ℕ) (i k : ℕ) → i ≤ k → k < length (steps_of l) → lines_to l i (suc k) ≡ lines_to l i k ++ line_text k (step_at (steps_of l) k)
lines_next l i k h b =
    let L = steps_of l in
    let e : suc k - i ≡ suc (k - i) = omega arith in
    let f : i + (k - i) ≡ k = omega arith in
    ap (λ (n : ℕ). lines_from i (take n (drop i L))) e ∙ lines_snoc i (drop i L) (k - i) (omega (arith, length-drop i L))
    ∙ ap (λ (s : Step). lines_from i (take (k - i) (drop i L)) ++ line_text (i + (k - i)) s) (get_or-drop i L (k - i) _)
    ∙ ap (λ (n : ℕ). lines_from i (take (k - i) (drop i L)) ++ line_text n (step_at L n)) f

pub lines_none : (l : List ℕ) (i : ℕ) → lines_to l i i ≡ []
unfolding lines_from
lines_none l i = ap (λ (n : ℕ). lines_from i (take n (drop i (steps_of l)))) (let e : i - i ≡ 0 = omega arith in e) ∙ none (drop i (steps_of l))
  where
    none : (M : List Step) → lines_from i (take 0 M) ≡ []
    none [] = refl
    none (s ∷ M) = refl

pub lines-all : (l : List ℕ) (k : ℕ) → k ≡ length (steps_of l) → lines_to l 0 k ≡ lines_from 0 (steps_of l)
lines-all l k e =
    ap (lines_from 0) (take_all (k - 0) (drop 0 (steps_of l)) (omega (arith, e, length-drop 0 (steps_of l))) ∙ zero-drop (steps_of l))
  where
    zero-drop : (M : List Step) → drop 0 M ≡ M
    zero-drop [] = refl
    zero-drop (s ∷ M) = refl

-- How long the lines can be ----------------------------------------------------------------------------

lines-upto : {l : List ℕ} → Led l → (i n : ℕ) → i + n ≤ length (steps_of l) → length (lines_to l i (i + n)) ≤ 6400000 * n
lines-upto {l} h i zero b = omega (arith, ap length (ap (lines_to l i) (add-zero i) ∙ lines_none l i))
lines-upto {l} h i (suc n) b =
    let p : Points l (i + n) (place_of (steps_of l) (i + n)) = record { led = h; inside = omega arith; place = refl } in
    let e = ap (lines_to l i) (add-suc i n) ∙ lines_next l i (i + n) (omega arith) (omega arith) in
    omega (arith, ap length e, length-append (lines_to l i (i + n)) (line_text (i + n) (step_at (steps_of l) (i + n))), lines-upto h i n (omega arith), line-short p, h.small)

lines-short : {l : List ℕ} → Led l → (i k : ℕ) → i ≤ k → k ≤ length (steps_of l) → length (lines_to l i k) ≤ 6400000 * k
lines-short {l} h i k a b =
    let e : i + (k - i) ≡ k = omega arith in
    omega (arith, lines-upto h i (k - i) (omega arith), ap (λ (n : ℕ). length (lines_to l i n)) e)

-- A ledger has no more steps than bytes.
few-steps : {l : List ℕ} → Led l → length (steps_of l) ≤ max_ledger
few-steps {l} h = by (length (steps_of l)) refl
  where
    by : (n : ℕ) → length (steps_of l) ≡ n → n ≤ max_ledger
    by zero e = omega arith
    by (suc n) e = let L = steps_of l in let b : n < length L = omega arith in omega (arith, many L n b, place-next L n b, place_end L n b, h.fits, h.small)

-- Lines written so far ---------------------------------------------------------------------------------

pub record Listing (l : List ℕ) (from : ℕ) (out₀ : List ℕ) (step at to : ℕ) (out : List ℕ) : Type 0 where
  pub walks : Walks l step at
  pub forward : from ≤ step
  pub wrote : Wrote (lines_to l from step) out₀ 0 to out

-- The first line, written from the output's front.
pub listing-begin : {l out : List ℕ} {step at to : ℕ} → Led l → step ≡ 0 → at ≡ 4 → to ≡ 0 → Listing l 0 out step at to out
listing-begin {l} {out} {step} {at} h e f g =
    record {
      walks = subst (λ s. Walks l s at) (sym e) (subst (Walks l 0) (sym f) (walks-start h));
      forward = omega arith;
      wrote = wrote_as (sym (ap (lines_to l 0) e ∙ lines_none l 0)) (wrote-to (sym g) wrote_none);
    }

pub listing_start : {l out : List ℕ} {from at : ℕ} → Walks l from at → Listing l from out from at 0 out
listing_start {l} {from = from} w = record { walks = w; forward = omega arith; wrote = wrote_as (sym (lines_none l from)) wrote_none }

module _ {l out₀ out : List ℕ} {from step at to end : ℕ} (h : Listing l from out₀ step at to out) (e : end ≡ size (steps_of l)) (b : at < end) where
  pub listing-points : Points l step at
  listing-points = walks-points h.walks (omega (arith, e))

  pub listing-shows : Shows l step at (line_text step) to
  listing-shows =
      let w = h.walks in
      record { points = listing-points; room = record { fits = omega (arith, h.wrote.end, lines-short w.led from step h.forward w.among, few-steps w.led, line-short listing-points, w.led.small, w.among) } }

  pub listing-next : {step' at' to' : ℕ} {out' : List ℕ} → Wrote (line_text step (step_of l step)) out to to' out' → (step' ≡ suc step) × (at' ≡ place_of (steps_of l) (suc step)) → Listing l from out₀ step' at' to' out'
  listing-next v n =
      record {
        walks = walks_next listing-points n;
        forward = omega (arith, h.forward, n.0);
        wrote = wrote_as (sym (ap (lines_to l from) n.0 ∙ lines_next l from step h.forward listing-points.inside)) (wrote-next h.wrote v);
      }

pub listing-all : {l out₀ out : List ℕ} {step at to end : ℕ} → Listing l 0 out₀ step at to out → end ≡ size (steps_of l) → end ≤ at → Wrote (lines_from 0 (steps_of l)) out₀ 0 to out
listing-all {l} {step = step} h e b = wrote_as (lines-all l step (walks-end h.walks (omega (arith, e)))) h.wrote

-- What is left falls.
pub listing-less : {l : List ℕ} {step at at' end : ℕ} → Points l step at → at' ≡ place_of (steps_of l) (suc step) → end ≡ size (steps_of l) → end - at' < end - at
listing-less {l} {step} p f e = omega (arith, (walks-forward p f).0, f, e, place_end (steps_of l) step p.inside)

-- Pages ------------------------------------------------------------------------------------------------

pub walks-among : {l : List ℕ} {step at : ℕ} → Among l step at → Walks l step at
walks-among a = record { led = a.led; among = a.inside; place = a.place }

-- A line of a small ledger.
pub page-fits : {l out out' : List ℕ} {step at to to' : ℕ} → Points l step at → length l ≤ 65536 → to < 65536 → Wrote (line_text step (step_of l step)) out to to' out' → to' ≤ 2600000
page-fits p h b w = omega (arith, line-short p, w.end)

module _ {l out₀ out : List ℕ} {from step at to : ℕ} (h : Listing l from out₀ step at to out) (f : to ≤ 2600000) (b : 2600000 ≤ length out₀) where
  page : (from < length (steps_of l) → from < step) → Pages l from out₀ (record { step = step; at = at; len = to }) out
  page g =
      record {
        among = record { led = h.walks.led; inside = h.walks.among; place = h.walks.place };
        forward = h.forward;
        further = g;
        wrote = h.wrote;
        fits = omega arith;
      }

  pub page-full : 65536 ≤ to → Pages l from out₀ (record { step = step; at = at; len = to }) out
  page-full k = page (λ i. ⊎_elim (λ e. absurd (omega (arith, h.wrote.end, ap length (ap (lines_to l from) (sym e) ∙ lines_none l from)))) (λ j. j) (eq-or-lt_of_le h.forward))

  pub page-last : {end : ℕ} → end ≡ size (steps_of l) → end ≤ at → Pages l from out₀ (record { step = step; at = at; len = to }) out
  page-last e k = page (λ i. omega (arith, walks-end h.walks (omega (arith, e)), i))

-- The output's bytes, told by another name.
pub wrote-same : {x out out' o : List ℕ} {to r : ℕ} → o ≡ out' → Wrote x out to r out' → Wrote x out to r o
wrote-same e w = record { end = w.end; bytes = e ∙ w.bytes }

pub pages-same : {l out out' o : List ℕ} {step : ℕ} {p : Page} → o ≡ out' → Pages l step out p out' → Pages l step out p o
pages-same {l} {out} {step = step} {p} e h = subst (Pages l step out p) (sym e) h

-- All lines, from a place that is the front.
pub lines-writes : (l : List ℕ) {w w' : Writer} → w.to ≡ 0 → Wrote (lines_from 0 (steps_of l)) w.out.now 0 w'.to w'.out.now → w'.out.ghost_name ≡ w.out.ghost_name → Writes (lines_from 0 (steps_of l)) w w'
lines-writes l {w} {w'} e h s = record { wrote = subst (λ k. Wrote (lines_from 0 (steps_of l)) w.out.now k w'.to w'.out.now) (sym e) h; same = s }

-- The last line ----------------------------------------------------------------------------------------

pub verdict-room : {a b : Result ℕ Refusal} {to : ℕ} → a ≡ b → Room to (verdict_text (said a)) → Room to (verdict_text (said b))
verdict-room e h = room_as (ap (λ (a : Result ℕ Refusal). verdict_text (said a)) e) h

pub verdict-writes : {a b : Result ℕ Refusal} {w w' : Writer} → a ≡ b → Writes (verdict_text (said b)) w w' → Writes (verdict_text (said a)) w w'
verdict-writes e w = writes-as (ap (λ (a : Result ℕ Refusal). verdict_text (said a)) (sym e)) w

pub verdict-short : (a : Result ℕ Refusal) → ((n : ℕ) → a ≡ Ok n → n < max_ledger) → length (verdict_text (said a)) ≤ 1048600
unfolding text_bytes
verdict-short (Ok n) h = omega (arith, h n refl, decimal-short n, length-append (decimal_text n) (10 ∷ []))
verdict-short (Err e) h = let n = number e in omega (arith, number-range e, decimal-short n, length-append (decimal_text n) (10 ∷ []))

-- What was asked, printed ------------------------------------------------------------------------------

module _ {input l : List ℕ} {a : Result ℕ Refusal} (h : Asks input a l) where
  pub listed-room : Room 0 (listed l a)
  listed-room =
      let n = length (steps_of l) in
      record {
        fits = omega (
          arith,
          length-append (lines_from 0 (steps_of l)) (verdict_text (said a)),
          ap length (lines-all l n refl),
          lines-short h.led 0 n (omega arith) (omega arith),
          few-steps h.led,
          verdict-short a h.small,
        );
      }

  pub verdict-asked : Room 0 (verdict_text (said a))
  verdict-asked = record { fits = omega (arith, verdict-short a h.small) }

  pub prints : listed l a ≡ facesteps input
  unfolding facesteps
  prints = sym (ap printed h.equal)

-- Lines cut behind some of the steps.
lines_cut : (i : ℕ) (M : List Step) (n : ℕ) → lines_from i M ≡ lines_from i (take n M) ++ lines_from (i + n) (drop n M)
unfolding lines_from
lines_cut i [] zero = refl
lines_cut i [] (suc n) = refl
lines_cut i (s ∷ M) zero = ap (λ (k : ℕ). lines_from k (s ∷ M)) (sym (add-zero i))
lines_cut i (s ∷ M) (suc n) =
    ap (λ (l : List ℕ). line_text i s ++ l) (lines_cut (suc i) M n) ∙ sym (append_assoc (line_text i s) (lines_from (suc i) (take n M)) (lines_from (suc i + n) (drop n M)))
    ∙ ap (λ (k : ℕ). (line_text i s ++ lines_from (suc i) (take n M)) ++ lines_from k (drop n M)) (suc-add i n ∙ sym (add-suc i n))

-- Nothing is lost between pages: the lines from a step on are those up to another and those from there on.
pub pages-all : (l : List ℕ) (i k : ℕ) → i ≤ k → lines_from i (drop i (steps_of l)) ≡ lines_to l i k ++ lines_from k (drop k (steps_of l))
pages-all l i k h =
    let L = steps_of l in
    let e : i + (k - i) ≡ k = omega arith in
    lines_cut i (drop i L) (k - i) ∙ ap (λ (M : List Step). lines_to l i k ++ lines_from (i + (k - i)) M) (drop-drop (k - i) i L) ∙ ap (λ (n : ℕ). lines_to l i k ++ lines_from n (drop n L)) e

-- The first page.
pub among-start : {l : List ℕ} → Led l → Among l 0 4
among-start h = let w = walks-start h in record { led = w.led; inside = w.among; place = w.place }

-- The last line fits into the room for a page.
pub verdict-fits : {input l out out' : List ℕ} {a : Result ℕ Refusal} {r : ℕ} → Asks input a l → Wrote (verdict_text (said a)) out 0 r out' → 1048600 ≤ length out → r ≤ length out'
verdict-fits {a = a} h w b = omega (arith, verdict-short a h.small, w.end, wrote-length w)
