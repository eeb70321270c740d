-- One run after another on a ledger's bytes.
use Prim.Native.Nat.{ℕ, ◌≤◌, ◌<◌}
use native.Mathlib.Omega.{arith}
use mathlib.Core.Path.{◌≡◌, refl, sym, ap, ◌∙◌, subst, subst₂}
use mathlib.Core.Bool.{Bool, true, false}
use mathlib.Core.Option.{Option, none, some}
use mathlib.Core.List.{List, [], ◌∷◌, ◌++◌, append_assoc}
use lib.ListN.{length, take, length-append}
use Rattle.calculus.specs.Judgement.{Judgement, Step}
use Rattle.calculus.specs.Table.{predicate, Listed}
use Rattle.calculus.specs.Rules.{Rule, AllBelow}
use Rattle.calculus.specs.Record.{operand_bytes, Holds}
use Rattle.calculus.specs.Emit.{Failure, not-below, not-implied, Program, stop, emit, ◌>>=◌, attempt, Outcome, done, stopped, full, next, instead, append, emitted, find, within, run}
use Rattle.calculus.proofs.Tables.{rule-listed}
use Rattle.calculus.proofs.Finding.{find-lowest}
use Rattle.calculus.proofs.Growing.{Limited, limited-allowed}
use Rattle.calculus.proofs.Repeating.{Longer, done-longer, stopped-longer, is-full, run-longer}
use Rattle.ledger.specs.Ledger.{steps_of}
use Rattle.ledger.proofs.LedgerLaws.{holds-steps}
use Rattle.std.specs.Prelude.{Err}
use Rattle.steps.specs.declared.Stop.TheVariants.{Full}
use Rattle.steps.specs.Running.{Ran, Book, Kept, done_by, step_by, failed_by, Leaves, Grew, Ends, Runs, Emits}

pub true-false : {A : Type 0} → true ≡ false → A
true-false e = absurd (let z : ◌≡◌ {A = ℕ} 0 1 = cc in omega arith)

-- How a run ended, by what was answered ---------------------------------------------------------

record IsDone (l : Book) (o : Outcome) (r : Ran) (l' : Book) : Type 0 where
  steps : List Step
  ends : o ≡ done (step_by r) steps
  leaves : Leaves l steps l'

done-of : (l l' : Book) (r : Ran) (o : Outcome) → Ends l o r l' → done_by r ≡ true → IsDone l o r l'
done-of l l' r (done n M) e h = record { steps = M; ends = ap (λ (x : Ran). done (step_by x) M) (sym e.0); leaves = e.1 }
done-of l l' r (stopped not-below M) e h = true-false (sym h ∙ ap done_by e.0)
done-of l l' r (stopped not-implied M) e h = true-false (sym h ∙ ap done_by e.0)
done-of l l' r full e h = true-false (sym h ∙ ap done_by e.0)

-- The ledger after a run is one as long, and holds what was there and more.
grew : (l l' : Book) (r : Ran) (o : Outcome) → Longer (steps_of l.bytes) o → Ends l o r l' → Grew l l'
grew l l' r (done n M) (done-longer x) e = record { more = x.more; leaves = subst (λ (N : List Step). Leaves l N l') x.whole e.1 }
grew l l' r (stopped f M) (stopped-longer x) e = record { more = x.more; leaves = subst (λ (N : List Step). Leaves l N l') x.whole e.1 }
grew l l' r full is-full e = e.1

module _ {l l₁ : Book} {p : Program} {r : Ran} (h : Runs l p r l₁) where
  pub runs-grew : Grew l l₁
  runs-grew = grew l l₁ r (run (within (length l.bytes)) p (steps_of l.bytes)) (run-longer (within (length l.bytes)) p (steps_of l.bytes)) h.ends

  -- A run that is done, over the steps that it left.
  pub runs_done : done_by r ≡ true → run (within (length l.bytes)) p (steps_of l.bytes) ≡ done (step_by r) (steps_of l₁.bytes)
  runs_done d = let i = done-of l l₁ r (run (within (length l.bytes)) p (steps_of l.bytes)) h.ends d in i.ends ∙ ap (done (step_by r)) (sym (holds-steps i.leaves.holds))

  pub runs-led : Kept l₁
  runs-led = runs-grew.leaves.kept

  pub runs-long : length l₁.bytes ≡ length l.bytes
  runs-long = runs-grew.leaves.long

  pub runs-more : length (steps_of l.bytes) ≤ length (steps_of l₁.bytes)
  runs-more = omega (arith, ap length (holds-steps runs-grew.leaves.holds), length-append (steps_of l.bytes) runs-grew.more)

-- One after another -----------------------------------------------------------------------------

grew_trans : (l l₁ l₂ : Book) → Grew l l₁ → Grew l₁ l₂ → Grew l l₂
grew_trans l l₁ l₂ g k =
    let e : steps_of l₁.bytes ++ k.more ≡ steps_of l.bytes ++ (g.more ++ k.more) = ap (λ (M : List Step). M ++ k.more) (holds-steps g.leaves.holds) ∙ append_assoc (steps_of l.bytes) g.more k.more in
    record { more = g.more ++ k.more; leaves = record { long = k.leaves.long ∙ g.leaves.long; holds = subst (λ (M : List Step). Holds l₂.bytes M) e k.leaves.holds; kept = k.leaves.kept } }

farther : (l l₁ l₂ : Book) (s : Ran) → Grew l l₁ → (o : Outcome) → Ends l₁ o s l₂ → Ends l o s l₂
farther l l₁ l₂ s g (done n M) e = (e.0, record { long = e.1.long ∙ g.leaves.long; holds = e.1.holds; kept = e.1.kept })
farther l l₁ l₂ s g (stopped f M) e = (e.0, record { long = e.1.long ∙ g.leaves.long; holds = e.1.holds; kept = e.1.kept })
farther l l₁ l₂ s g full e = (e.0, grew_trans l l₁ l₂ g e.1)

-- The run of q on the ledger that holds M is its run on M.
on-steps : (l l₁ l₂ : Book) (s : Ran) (M : List Step) (q : Program) → Leaves l M l₁ → Grew l l₁ → Runs l₁ q s l₂ → Ends l (run (within (length l.bytes)) q M) s l₂
on-steps l l₁ l₂ s M q v g h =
    farther l l₁ l₂ s g (run (within (length l.bytes)) q M) (subst₂ (λ (n : ℕ) (N : List Step). Ends l₁ (run (within n) q N) s l₂) v.long (holds-steps v.holds) h.ends)

-- A program after one that is done.
pub runs-next : {l l₁ l₂ : Book} {p : Program} {r s : Ran} (q : ℕ → Program) → Runs l p r l₁ → done_by r ≡ true → Runs l₁ (q (step_by r)) s l₂ → Runs l (p >>= q) s l₂
unfolding run
runs-next {l} {l₁} {l₂} {p} {r} {s} q h d k =
    let i = done-of l l₁ r (run (within (length l.bytes)) p (steps_of l.bytes)) h.ends d in
    record { ends = rw i.ends (on-steps l l₁ l₂ s i.steps (q (step_by r)) i.leaves (runs-grew h) k) }

-- Where the first is not done, nothing follows it.
ends-stop : (l l₁ : Book) (r : Ran) (k : ℕ → List Step → Outcome) (o : Outcome) → Ends l o r l₁ → done_by r ≡ false → Ends l (next o k) r l₁
ends-stop l l₁ r k (done n M) e d = true-false (sym (ap done_by e.0) ∙ d)
ends-stop l l₁ r k (stopped f M) e d = e
ends-stop l l₁ r k full e d = e

pub runs-stop : {l l₁ : Book} {p : Program} {r : Ran} (q : ℕ → Program) → Runs l p r l₁ → done_by r ≡ false → Runs l (p >>= q) r l₁
unfolding run
runs-stop {l} {l₁} {p} {r} q h d = record { ends = ends-stop l l₁ r (λ n. run (within (length l.bytes)) (q n)) (run (within (length l.bytes)) p (steps_of l.bytes)) h.ends d }

-- A number that is answered is that of a step -----------------------------------------------------

abbrev Below : Outcome → Type 0
Below (done n M) = n < length M
Below (stopped f M) = Unit {0}
Below full = Unit {0}

emitted-below : (room : List Step → Bool) (L : List Step) (s : Step) (o : Option ℕ) → find s.judgement L ≡ o → Below (emitted room L s o)
emitted-below room L s (some n) e = (find-lowest s.judgement L n e).inside
emitted-below room L s none e = go (room (L ++ s ∷ []))
  where
    go : (b : Bool) → Below (append b L s)
    go true = omega (arith, length-append L (s ∷ []))
    go false = tt

next-below : (o : Outcome) (k : ℕ → List Step → Outcome) → ((n : ℕ) (M : List Step) → Below (k n M)) → Below (next o k)
next-below (done n M) k h = h n M
next-below (stopped f M) k h = tt
next-below full k h = tt

instead-below : (o : Outcome) (k : ℕ → List Step → Outcome) (j : List Step → Outcome) → ((n : ℕ) (M : List Step) → Below (k n M)) → ((M : List Step) → Below (j M)) → Below (instead o k j)
instead-below (done n M) k j h g = h n M
instead-below (stopped f M) k j h g = g M
instead-below full k j h g = tt

run-below : (room : List Step → Bool) (p : Program) (L : List Step) → Below (run room p L)
unfolding run
run-below room (stop f) L = tt
run-below room (emit k is j) L = emitted-below room L (record { kind = k; references = is; judgement = j }) (find j L) refl
run-below room (p >>= q) L = next-below (run room p L) (λ n. run room (q n)) (λ n M. run-below room (q n) M)
run-below room (attempt p q t) L = instead-below (run room p L) (λ n. run room (q n)) (run room t) (λ n M. run-below room (q n) M) (run-below room t)

pub runs-below : {l l₁ : Book} {p : Program} {r : Ran} → Runs l p r l₁ → done_by r ≡ true → step_by r < length (steps_of l₁.bytes)
runs-below {l} {l₁} {p} {r} h d =
    let i = done-of l l₁ r (run (within (length l.bytes)) p (steps_of l.bytes)) h.ends d in
    omega (arith, subst Below i.ends (run-below (within (length l.bytes)) p (steps_of l.bytes)), ap length (holds-steps i.leaves.holds))

-- One program, and another where it stops -----------------------------------------------------------

abbrev pub Failed : Ran → Type 0
Failed r = (done_by r ≡ false) × (r ≡ Err Full → ⊥)

pub attempt-done : {l l₁ l₂ : Book} {p : Program} {r s : Ran} (q : ℕ → Program) (t : Program) → Runs l p r l₁ → done_by r ≡ true → Runs l₁ (q (step_by r)) s l₂ → Runs l (attempt p q t) s l₂
unfolding run
attempt-done {l} {l₁} {l₂} {p} {r} {s} q t h d k =
    let i = done-of l l₁ r (run (within (length l.bytes)) p (steps_of l.bytes)) h.ends d in
    record { ends = rw i.ends (on-steps l l₁ l₂ s i.steps (q (step_by r)) i.leaves (runs-grew h) k) }

pub attempt-failed : {l l₁ l₂ : Book} {p : Program} {r s : Ran} (q : ℕ → Program) (t : Program) → Runs l p r l₁ → Failed r → Runs l₁ t s l₂ → Runs l (attempt p q t) s l₂
unfolding run
attempt-failed {l} {l₁} {l₂} {p} {r} {s} q t h f k = record { ends = go (run (within (length l.bytes)) p (steps_of l.bytes)) h.ends }
  where
    go : (o : Outcome) → Ends l o r l₁ → Ends l (instead o (λ n. run (within (length l.bytes)) (q n)) (run (within (length l.bytes)) t)) s l₂
    go (done n M) e = true-false (sym (ap done_by e.0) ∙ f.0)
    go (stopped x M) e = on-steps l l₁ l₂ s M t e.1 (runs-grew h) k
    go full e = absurd (f.1 e.0)

pub attempt-full : {l l₁ : Book} {p : Program} (q : ℕ → Program) (t : Program) → Runs l p (Err Full) l₁ → Runs l (attempt p q t) (Err Full) l₁
unfolding run
attempt-full {l} {l₁} {p} q t h = record { ends = go (run (within (length l.bytes)) p (steps_of l.bytes)) h.ends }
  where
    go : (o : Outcome) → Ends l o (Err Full) l₁ → Ends l (instead o (λ n. run (within (length l.bytes)) (q n)) (run (within (length l.bytes)) t)) (Err Full) l₁
    go (done n M) e = absurd (let z : ◌≡◌ {A = ℕ} 0 1 = cc in omega arith)
    go (stopped not-below M) e = absurd (let z : ◌≡◌ {A = ℕ} 0 1 = cc in omega arith)
    go (stopped not-implied M) e = absurd (let z : ◌≡◌ {A = ℕ} 0 1 = cc in omega arith)
    go full e = e

-- Stopping, and emitting a step ---------------------------------------------------------------------

pub runs-failure : {l : Book} → Kept l → (f : Failure) → Runs l (stop f) (failed_by f) l
unfolding run
runs-failure h f = record { ends = (refl, record { long = refl; holds = h.led; kept = h }) }

-- The step of a judgement that keeps the limits, from references that are there.
pub emits-as : {l l' : Book} {kind : ℕ} {references operands : List ℕ} {r : Ran} → Emits l kind references operands r l'
    → (is : List ℕ) (j : Judgement) → Listed kind (length is) (predicate j) → AllBelow (length (steps_of l.bytes)) is → Limited j → take (length is) references ≡ is → operand_bytes j ≡ operands
    → Runs l (emit kind is j) r l'
emits-as {kind} h is j k b m t e =
    h.rule (record { kind = kind; references = is; judgement = j }) (record { listed = k; earlier = b; limits = limited-allowed j m }) (record { kinds = refl; refers = sym t; judges = e })

pub emits-same : {l l' : Book} {kind : ℕ} {references x y : List ℕ} {r : Ran} → x ≡ y → Emits l kind references x r l' → Emits l kind references y r l'
emits-same {l} {l'} {kind} {references} {r} e h = subst (λ (z : List ℕ). Emits l kind references z r l') e h

-- By a rule from judgements as many as the references.
pub emits-by : {l l' : Book} {kind : ℕ} {references operands : List ℕ} {r : Ran} → Emits l kind references operands r l'
    → {ps : List Judgement} {j : Judgement} → Rule kind ps j → (is : List ℕ) → length is ≡ length ps → AllBelow (length (steps_of l.bytes)) is → Limited j → take (length is) references ≡ is → operand_bytes j ≡ operands
    → Runs l (emit kind is j) r l'
emits-by {kind} h {j} q is n b m t e = emits-as h is j (subst (λ (k : ℕ). Listed kind k (predicate j)) (sym n) (rule-listed q)) b m t e

pub emits-kind : {l l' : Book} {kind k : ℕ} {references x : List ℕ} {r : Ran} → kind ≡ k → Emits l kind references x r l' → Emits l k references x r l'
emits-kind {l} {l'} {references = references} {x} {r} e h = subst (λ (n : ℕ). Emits l n references x r l') e h

-- A step after one run, from the step of that run.
pub runs-emit : {l l₁ l₂ : Book} {x : List ℕ} {p : Program} {r c : Ran} {kind i j z : ℕ} → Runs l p r l₁ → done_by r ≡ true → i ≡ step_by r → Emits l₁ kind (i ∷ j ∷ z ∷ []) x c l₂
    → {q t : Judgement} → Rule kind (q ∷ []) t → Limited t → operand_bytes t ≡ x → Runs l (p >>= λ n. emit kind (n ∷ []) t) c l₂
runs-emit {l₁ = l₁} {l₂} {x} {r = r} {c} {kind} {j = j} {z} h d e w {t = t} rule m o =
    let w' : Emits l₁ kind (step_by r ∷ j ∷ z ∷ []) x c l₂ = subst (λ (n : ℕ). Emits l₁ kind (n ∷ j ∷ z ∷ []) x c l₂) e w in
    runs-next (λ n. emit kind (n ∷ []) t) h d (emits-by w' rule (step_by r ∷ []) refl (runs-below h d, tt) m refl o)
