-- Finished searches: one that was done is finished, and one that is finished need not be made again.
use Prim.Native.Nat.{ℕ, ◌<◌}
use mathlib.Core.Path.{◌≡◌, refl, sym, subst}
use mathlib.Core.Bool.{true}
use mathlib.Core.List.{List}
use lib.ListN.{length}
use Rattle.formula.specs.declared.Sort.TheVariants.{Faces}
use Rattle.formula.specs.Formula.{Face}
use Rattle.calculus.specs.Judgement.{Step, cover}
use Rattle.calculus.specs.Rules.{judgement_at}
use Rattle.calculus.specs.Emit.{Program, Outcome, done, stopped, full, within, run}
use Rattle.calculus.specs.Calls.{emit_cover}
use Rattle.calculus.proofs.Finding.{find-lowest}
use Rattle.calculus.proofs.Growing.{Good, claims, leaves, no_room}
use Rattle.calculus.proofs.Emitting.{cover-good}
use Rattle.ledger.specs.Ledger.{steps_of}
use Rattle.index.specs.Index.{Indexed, Finished}
use Rattle.index.proofs.MarkLaws.{finished-done}
use Rattle.std.specs.Prelude.{Result, Ok}
use Rattle.steps.specs.Running.{Ran, Book, book, Kept, done_by, step_by, Ends, Runs}
use Rattle.steps.specs.Trees.{Is}
use Rattle.steps.proofs.RunLaws.{runs-below, runs_done}
use Rattle.contexts.specs.Contexts.{Are}
use Rattle.contexts.specs.Moves.{Settled}

-- The step of a search that was done has its judgement.
judges : (G : List Face) (g : Face) (L M : List Step) (n : ℕ) (o : Outcome) → Good (cover G g) L o → o ≡ done n M → judgement_at M n ≡ cover G g
judges G g L M n o (claims {n = i} {M = N} w f) e =
    let a : i ≡ n = cc in
    let b : N ≡ M = cc in
    rw (sym a, sym b) (find-lowest (cover G g) N i f).same
judges G g L M n o (leaves w) e = cc
judges G g L M n o no_room e = cc

-- A search that is done is finished.
pub ended : {G : List Face} {g : Face} {n : ℕ} {b k : List ℕ} → Are G n b → Is Faces g k → {l l' : Book} {r : Ran} → Runs l (emit_cover G g) r l' → done_by r ≡ true → (step_by r < length (steps_of l'.bytes)) × Finished (steps_of l'.bytes) (step_by r)
ended {G} {g} w a {l} {l'} {r} h d =
    let L = steps_of l.bytes in
    let M = steps_of l'.bytes in (
      runs-below h d,
      finished-done (within (length l.bytes)) L M (step_by r) G g (runs_done h d)
          (judges G g L M (step_by r) (run (within (length l.bytes)) (emit_cover G g) L) (cover-good (within (length l.bytes)) G g w.few w.low a.few a.low L) (runs_done h d)),
    )

-- The same ledger with another index of it.
module _ (l : Book) (m x y : List ℕ) (k : Indexed m y) (r : Ran) where
  reindexed : (o : Outcome) → Ends l o r (book m x) → Ends l o r (book m y)
  reindexed (done n M) e = (e.0, record { long = e.1.long; holds = e.1.holds; kept = k })
  reindexed (stopped f M) e = (e.0, record { long = e.1.long; holds = e.1.holds; kept = k })
  reindexed full e = (e.0, record { more = e.1.more; leaves = record { long = e.1.leaves.long; holds = e.1.leaves.holds; kept = k } })

pub marked-runs : {l : Book} {p : Program} {m x y : List ℕ} {r : Ran} → Runs l p r (book m x) → Indexed m y → Runs l p r (book m y)
marked-runs {l} {p} {m} {x} {y} {r} h k = record { ends = reindexed l m x y k r (run (within (length l.bytes)) p (steps_of l.bytes)) h.ends }

-- A search that is finished: nothing is appended.
pub settled-runs : {l : Book} → Kept l → (G : List Face) (g : Face) {f : Result ℕ ℕ} {i : ℕ} → f ≡ Ok i → Settled (steps_of l.bytes) G g f → Runs l (emit_cover G g) (Ok i) l
settled-runs {l} k G g {i = i} e s =
    let w : Settled (steps_of l.bytes) G g (Ok i) = subst (λ (q : Result ℕ ℕ). Settled (steps_of l.bytes) G g q) e s in
    record { ends = subst (λ (o : Outcome). Ends l o (Ok i) l) (sym (w (within (length l.bytes)))) (refl, record { long = refl; holds = k.led; kept = k }) }
