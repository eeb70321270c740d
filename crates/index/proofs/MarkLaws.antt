-- Finished searches, and the marks that say so.
use Prim.Native.Nat.{ℕ, ◌+◌, ◌%◌, ◌≤◌, ◌<◌}
use native.Mathlib.Omega.{arith}
use native.Mathlib.Decide.{ℕ_discrete}
use mathlib.Core.Path.{◌≡◌, refl, sym, ap, ◌∙◌, subst}
use mathlib.Core.Bool.{Bool}
use mathlib.Core.Option.{some}
use mathlib.Core.List.{List, ◌++◌}
use lib.ListN.{length, get_or, set, length-set, get_or-append}
use lib.Seq.{get_or-set_same, get_or-set_other, drop-set-lt}
use Rattle.formula.specs.Formula.{Face}
use Rattle.calculus.specs.Judgement.{Step, cover}
use Rattle.calculus.specs.Rules.{judgement_at}
use Rattle.calculus.specs.Emit.{find, done, run}
use Rattle.calculus.specs.Calls.{emit_cover}
use Rattle.calculus.proofs.Finding.{find-lowest}
use Rattle.calculus.proofs.Growing.{extends-refl}
use Rattle.calculus.proofs.Repeating.{done-again}
use Rattle.ledger.specs.Ledger.{steps_of}
use Rattle.ledger.specs.Noting.{Noted}
use Rattle.std.specs.Prelude.{Result, Ok, Err, IsErr}
use Rattle.index.specs.Finding.{find_bytes, found_as}
use Rattle.index.specs.Index.{last, bucket_at, heads_of, places_from, Finished, mark, IndexedTo, Indexed, marked, Knows}
use Rattle.index.proofs.RoomLaws.{slot-low, same_shape}
use Rattle.index.proofs.SameLaws.{find-same, found_some}

-- A search that is finished stays so when steps are appended: made again, it appends nothing and answers the same (theorem 6 of the calculus).
pub finished-more : (L M : List Step) (i : ℕ) → i < length L → Finished L i → Finished (L ++ M) i
finished-more L M i h f G g e room =
    let k : judgement_at L i ≡ cover G g = ap (λ (s : Step). s.judgement) (sym (get_or-append L M _ i h)) ∙ e in
    done-again room room (emit_cover G g) L L (L ++ M) i (f G g k room) (record { more = M; whole = refl })

-- A search that was done is finished.
pub finished-done : (room : List Step → Bool) (L M : List Step) (i : ℕ) (G : List Face) (g : Face) → run room (emit_cover G g) L ≡ done i M → judgement_at M i ≡ cover G g → Finished M i
finished-done room L M i G g d e K k q room₂ =
    let a : cover G g ≡ cover K k = sym e ∙ q in
    let c : G ≡ K = cc in
    let b : g ≡ k = cc in
    rw (sym c, sym b) (done-again room room₂ (emit_cover G g) L M M i d (extends-refl M))

-- A mark more.
module _ {H P : ℕ} {L : List Step} {x : List ℕ} {n : ℕ} (e : IndexedTo H P L x n) (i : ℕ) (inside : i < n) (low : 1 + H + i < P) (room : P ≤ length x) (f : Finished L i) where
  abbrev place : ℕ
  place = 1 + H + i

  abbrev after : List ℕ
  after = set x place (get_or x place 0 + mark)

  other : (k : ℕ) → (k ≡ place → ⊥) → get_or after k 0 ≡ get_or x k 0
  other k h = get_or-set_other x place k (get_or x place 0 + mark) 0 h

  here : get_or after place 0 ≡ get_or x place 0 + mark
  here = get_or-set_same x place (get_or x place 0 + mark) 0 (omega arith)

  links : (k : ℕ) → k < n → get_or after (1 + H + k) 0 % mark ≡ last H L (bucket_at H L k) k
  links k h = go (ℕ_discrete k i)
    where
      go : Dec (k ≡ i) → get_or after (1 + H + k) 0 % mark ≡ last H L (bucket_at H L k) k
      go (yes q) = let z : 1 + H + k ≡ place = omega arith in ap (λ (m : ℕ). get_or after m 0 % mark) z ∙ ap (λ (v : ℕ). v % mark) here ∙ omega (arith, e.link k h, ap (λ (m : ℕ). get_or x m 0) z)
      go (no q) = ap (λ (v : ℕ). v % mark) (other (1 + H + k) (λ z. q (omega arith))) ∙ e.link k h

  marks-more : (k : ℕ) → k < n → mark ≤ get_or after (1 + H + k) 0 → Finished L k
  marks-more k h m = go (ℕ_discrete k i)
    where
      go : Dec (k ≡ i) → Finished L k
      go (yes q) = subst (Finished L) (sym q) f
      go (no q) = e.marks k h (subst (λ (v : ℕ). mark ≤ v) (other (1 + H + k) (λ z. q (omega arith))) m)

  indexed-marked : IndexedTo H P L (marked H x i) n
  unfolding marked
  indexed-marked = record {
    count = other 0 (λ z. omega arith) ∙ e.count;
    head = λ b h. other (1 + b) (λ z. omega arith) ∙ e.head b h;
    link = links;
    marks = marks-more;
    places = subst (Noted L n) (sym (drop-set-lt P x place (get_or x place 0 + mark) low)) e.places;
  }

pub finish-kept : {l x : List ℕ} → Indexed l x → (i : ℕ) → i < length (steps_of l) → Finished (steps_of l) i → {x' : List ℕ} → x' ≡ marked (heads_of x) x i → Indexed l x'
unfolding marked
finish-kept {l} {x} e i h f {x'} k =
    let n : length x' ≡ length x = ap length k ∙ length-set x (1 + heads_of x + i) (get_or x (1 + heads_of x + i) 0 + mark) in
    same_shape x e.led e.room n (subst (λ (z : List ℕ). IndexedTo (heads_of x) (places_from x) (steps_of l) z (length (steps_of l))) (sym k) (indexed-marked e.steps i h (slot-low e i h) (omega arith) f))

-- Nothing is known where nothing was found.
pub knows-none : (L : List Step) (o : List ℕ) (r : Result ℕ ℕ) → IsErr r → Knows L o r
knows-none L o (Err n) h = tt
knows-none L o (Ok i) h = absurd (let q : ◌≡◌ {A = ℕ} 0 1 = cc in omega arith)

-- The lowest cover step with these operands is that of the judgement; where it is marked, its search is finished.
pub knows-marked : {l x : List ℕ} → Indexed l x → (o : List ℕ) (i : ℕ) → Ok i ≡ found_as (find_bytes 6 o (steps_of l)) (length (steps_of l)) → mark ≤ get_or x (1 + heads_of x + i) 0 → Knows (steps_of l) o (Ok i)
knows-marked {l} {x} e o i h m G g a b room =
    let s : find_bytes 6 o (steps_of l) ≡ some i = found_some (find_bytes 6 o (steps_of l)) (length (steps_of l)) i h in
    let t : find (cover G g) (steps_of l) ≡ some i = sym (find-same (cover G g) a 0 (steps_of l) e.led.formed) ∙ ap (λ (y : List ℕ). find_bytes 6 y (steps_of l)) b ∙ s in
    let w = find-lowest (cover G g) (steps_of l) i t in
    e.steps.marks i w.inside m G g w.same room
