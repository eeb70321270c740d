-- Every marked example of document 01 is right: the call answers so, and that is what the meaning says.
use mathlib.Core.Path.{◌≡◌, refl, sym, ◌∙◌}
use mathlib.Core.Bool.{Bool, true, false, true≢false, ◌&&◌, and-true, and-eq-true_iff}
use mathlib.Core.Option.{some}
use mathlib.Core.List.{List, [], ◌∷◌}
use Prim.Native.Nat.{ℕ, ◌≤◌, ◌<◌}
use native.Mathlib.Omega.{arith}
use borrow.Author.Tests.{leb-true, le-leb, lt-leb}
use lib.Dec.{leb}
use lib.ListN.{length}
use Rattle.formula.specs.declared.Sort.TheVariants.{Faces, Intervals}
use Rattle.formula.specs.Formula.{lo, hi, Face, at, Interval, vu, Assignment, holds}
use Rattle.formula.specs.Operations
use Rattle.formula.specs.Operations.{ftransform}
use Rattle.formula.specs.Bytes.{encode, nodes_face, nodes_interval, bound_face, bound_interval, max_nodes, max_bound}
use Rattle.formula.specs.Answers.{size_of, keeps, operand}
use Rattle.formula.proofs.Meaning.{boundary-holds, forall-holds, ftransform-holds}
use Rattle.formula.proofs.Reading.{read_all-encode}
use Rattle.calculus.specs.Judgement
use Rattle.calculus.specs.Search.{search, search_in}
use Rattle.calculus.specs.Record.{number, index, formula}
use Rattle.calculus.specs.Emit
use Rattle.calculus.specs.Emit.{Outcome}
use Rattle.calculus.specs.Calls.{emit_interval, emit_entails, bounds, emit_boundary, foralls, emit_forall}
use Rattle.refusals.specs.declared.Refusal.TheVariants.{TooManyNodes, LargeResult}
use Rattle.calculus.specs.Door
use Rattle.calculus.specs.Door.{Call, item, Task, transform_task, task_of}
use Rattle.calculus.proofs.Searching.{search-entails}
use Rattle.calculus.proofs.Verdicts.{Says, says-yes, says-no, says-full, interval-says, Decides, holds-so, not-below-so, not-implied-so, no-room-so, entails-decides}
use Rattle.calculus.proofs.CallExamples.{model}
use Rattle.clauses.specs.Normal
use Rattle.clauses.specs.Normal.{Clause, dnf, disjunction}
use Rattle.clauses.specs.Shape.{All, each, nothing}
use Rattle.clauses.proofs.Meaning.{normal-holds}
use Rattle.clauses.proofs.Shaping.{normal-shape}
use Rattle.marked.specs.Marked.{Expected, yes-with, refusal, Row, ◌gives◌, entails, normal, forall, boundary, shift, substitute, interval-of, marked, items, OnLedgers, forms, Means, implied, not-below, not-implied, equivalent, at-undetermined, at-ends, shifted, substituted, too_large, few-nodes, many-nodes, Right}
use Rattle.marked.proofs.Replying.{Ends, ends-yes, ends-refused, ends-full, small, replies, turned}
use Rattle.marked.proofs.Steady.{Steady, steady-ends, boundary-steady, forall-steady, faces-steady}
use Rattle.marked.proofs.Sizes.{interval-takes}
use Rattle.marked.proofs.Reaching.{reaches}

-- Entailments ---------------------------------------------------------------------------------

module _ (d : ℕ) (a b : Face) where
  abbrev entailing : Task
  entailing = record {
    operands = item number d ∷ item (formula Faces) a ∷ item (formula Faces) b ∷ [];
    results = [];
    own = Judgement.entails d a b;
    program = emit_entails d a b;
  }

  -- The run ends as the meaning says.
  ends : {x : Expected} → Means (entails d a b gives x) → {o : Outcome} → Decides d a b o → Ends [] x o
  ends (implied m) (holds-so t) = ends-yes refl
  ends (implied m) (not-below-so t) = absurd (t m.left m.right)
  ends (implied m) (not-implied-so p q t) = absurd (t m.implied)
  ends (not-below h) (holds-so t) = absurd (omega (arith, t.left, t.right))
  ends (not-below h) (not-below-so t) = ends-refused Emit.not-below refl
  ends (not-below h) (not-implied-so p q t) = absurd (omega arith)
  ends (not-implied p q σ h k) (holds-so t) = absurd (true≢false (sym (t.implied σ h) ∙ k))
  ends (not-implied p q σ h k) (not-below-so t) = absurd (t p q)
  ends (not-implied p q σ h k) (not-implied-so u v t) = ends-refused Emit.not-implied refl
  ends m no-room-so = ends-full

  -- What the meaning says is what is answered.
  entailed : {x : Expected} → Means (entails d a b gives x) → small 1000 entailing ≡ true → Right (entails d a b gives x)
  entailed {x} m s = record {
    answers = replies 1000 (Door.entails d (encode Faces a) (encode Faces b)) entailing x (omega arith) (rw (read_all-encode Faces a, read_all-encode Faces b)) s (λ h. refl) (λ room L. ends m (entails-decides room d a b L));
    means = m;
  }

  -- Yes, by the search.
  by-search : leb (bound_face a) d ≡ true → leb (bound_face b) d ≡ true → search (a ∷ []) b ≡ true → Means (entails d a b gives yes-with [])
  by-search p q h = implied (record { left = leb-true (bound_face a) d p; right = leb-true (bound_face b) d q; implied = (search-entails a b).0 h })

  -- 9, by an assignment.
  by-assignment : (σ : Assignment) → leb (bound_face a) d ≡ true → leb (bound_face b) d ≡ true → holds a σ ≡ true → holds b σ ≡ false → Means (entails d a b gives refusal 9)
  by-assignment σ p q h k = not-implied (leb-true (bound_face a) d p) (leb-true (bound_face b) d q) σ h k

-- Normal forms --------------------------------------------------------------------------------

normalised : (f g : Face) (l : List Clause) → dnf f ≡ some l → disjunction l ≡ g → (leb (nodes_face f) max_nodes && (leb (bound_face f) max_bound && keeps (size_of Faces g))) ≡ true
    → Right (normal f gives yes-with (g ∷ []))
unfolding Normal.normal operand
normalised f g l e i s =
    let n : Normal.normal f ≡ some g = rw (e, i) in
    let p = (and-eq-true_iff (leb (nodes_face f) max_nodes) (leb (bound_face f) max_bound && keeps (size_of Faces g))).0 s in
    let q = (and-eq-true_iff (leb (bound_face f) max_bound) (keeps (size_of Faces g))).0 p.1 in
    record {
      answers = λ out h.
          let fits : leb (length (encode Faces g)) (length out) ≡ true = sym (and-true (leb (length (encode Faces g)) (length out))) ∙ h in
          rw (read_all-encode Faces f, p.0, q.0, n, q.1, fits) forms;
      means = equivalent l i (normal-shape f l e) (normal-holds f g n);
    }

-- Results -------------------------------------------------------------------------------------

-- A face that is equal to one of which something is known.
same-holds : {f g : Face} → f ≡ g → {P : Assignment → Bool} → ((σ : Assignment) → holds f σ ≡ P σ) → (σ : Assignment) → holds g σ ≡ P σ
same-holds e h σ = rw e at (h σ)

-- A call whose program only emits, with results that are these.
made : (c : Call) (t : Task) (gs : List Face) → task_of c ≡ some t → t.results ≡ items gs → small 1000 t ≡ true → Steady t.program → OnLedgers 1000 c (yes-with gs)
made c t gs e i s p = replies 1000 c t (yes-with gs) (omega arith) e s (λ h. rw i h) (steady-ends i t.program p)

module _ (k : ℕ) (f : Face) where
  abbrev forall-task : Task
  forall-task = record { operands = item (formula Faces) f ∷ item index k ∷ []; results = item (formula Faces) (Operations.forall k f) ∷ []; own = foralls k f; program = emit_forall k f }

  forall-made : (g : Face) → Operations.forall k f ≡ g → small 1000 forall-task ≡ true → Right (forall k f gives yes-with (g ∷ []))
  forall-made g e s = record {
    answers = λ out. made (Door.forall (encode Faces f) k out) forall-task (g ∷ []) (rw (read_all-encode Faces f)) (rw e) s (forall-steady k f);
    means = at-undetermined (same-holds e (forall-holds k f));
  }

module _ (r : Interval) where
  abbrev boundary-task : Task
  boundary-task = record {
    operands = item (formula Intervals) r ∷ [];
    results = item (formula Faces) (Operations.boundary lo r) ∷ item (formula Faces) (Operations.boundary hi r) ∷ [];
    own = bounds r;
    program = emit_boundary r;
  }

  boundary-made : (a b : Face) → Operations.boundary lo r ≡ a → Operations.boundary hi r ≡ b → small 1000 boundary-task ≡ true → Right (boundary r gives yes-with (a ∷ b ∷ []))
  boundary-made a b e i s = record {
    answers = λ out₀ out₁. made (Door.boundary (encode Intervals r) out₀ out₁) boundary-task (a ∷ b ∷ []) (rw (read_all-encode Intervals r)) (rw (e, i)) s (boundary-steady r);
    means = at-ends (record { at_zero = same-holds e (boundary-holds lo r); at_one = same-holds i (boundary-holds hi r) });
  }

-- Shift and substitution.
shift-task : ℕ → Face → Task
shift-task k f = transform_task Faces (item index k ∷ []) (Operations.shift k) f

shift_made : (k : ℕ) (f g : Face) → ftransform (Operations.shift k) f ≡ g → small 1000 (shift-task k f) ≡ true → Right (shift k f gives yes-with (g ∷ []))
unfolding shift-task
shift_made k f g e s = record {
  answers = λ out. made (Door.shift Faces (encode Faces f) k out) (shift-task k f) (g ∷ []) (rw (read_all-encode Faces f)) (rw e) s (faces-steady (Operations.shift k) f);
  means = shifted (same-holds e (ftransform-holds (Operations.shift k) f));
}

substitute-task : Interval → ℕ → Face → Task
substitute-task r k f = transform_task Faces (item index k ∷ item (formula Intervals) r ∷ []) (Operations.subst k r) f

substitute-made : (r : Interval) (k : ℕ) (f g : Face) → ftransform (Operations.subst k r) f ≡ g → small 1000 (substitute-task r k f) ≡ true → Right (substitute r k f gives yes-with (g ∷ []))
unfolding substitute-task
substitute-made r k f g e s = record {
  answers = λ out.
      made (Door.substitute Faces (encode Faces f) k (encode Intervals r) out) (substitute-task r k f) (g ∷ []) (rw (read_all-encode Faces f, read_all-encode Intervals r)) (rw e) s (faces-steady (Operations.subst k r) f);
  means = substituted (same-holds e (ftransform-holds (Operations.subst k r) f));
}

-- Limits --------------------------------------------------------------------------------------

shift-large : Right (shift 0 (at lo 254) gives refusal 5)
unfolding shift-task model holds
shift-large = record {
  answers = λ out. turned 1000 (Door.shift Faces (encode Faces (at lo 254)) 0 out) (shift-task 0 (at lo 254)) LargeResult (omega arith) refl refl;
  means = too_large {k = 0} {f = at lo 254} (reaches lo 255);
}

module _ (d : ℕ) (r : Interval) where
  abbrev interval-task : Task
  interval-task = record { operands = item number d ∷ item (formula Intervals) r ∷ []; results = []; own = Judgement.interval d r; program = emit_interval d r }

  interval-few : nodes_interval r ≤ max_nodes → bound_interval r ≤ d → d ≤ max_bound → OnLedgers 1000000 (Door.interval d (encode Intervals r)) (yes-with [])
  interval-few p q w =
      let b : bound_interval r ≤ max_bound = omega arith in
      replies 1000000 (Door.interval d (encode Intervals r)) interval-task (yes-with []) (omega arith) (rw (read_all-encode Intervals r))
      (rw (le-leb (nodes_interval r) max_nodes p, le-leb d max_bound w, le-leb (bound_interval r) max_bound b, interval-takes d r p b))
      (λ h. refl) (λ room L. go (interval-says room d r L))
    where
      go : {o : Outcome} → Says (leb (bound_interval r) d) Emit.not-below o → Ends [] (yes-with []) o
      go (says-yes h) = ends-yes refl
      go (says-no h) = absurd (true≢false (sym (le-leb (bound_interval r) d q) ∙ h))
      go says-full = ends-full

  interval-many : max_nodes < nodes_interval r → OnLedgers 1000000 (Door.interval d (encode Intervals r)) (refusal 3)
  interval-many h = turned 1000000 (Door.interval d (encode Intervals r)) interval-task TooManyNodes (omega arith) (rw (read_all-encode Intervals r)) (rw (lt-leb (nodes_interval r) max_nodes h))

intervals : (n : ℕ) {x : Expected} → Means (interval-of n gives x) → Right (interval-of n gives x)
intervals n (few-nodes h) = record { answers = λ d r e. interval-few d r (omega arith); means = few-nodes h }
intervals n (many-nodes h) = record { answers = λ d r e p q. interval-many d r (omega arith); means = many-nodes h }

-- The table -----------------------------------------------------------------------------------

-- What a proof for each row gives.
abbrev FromRows : List Row → Type 0 → Type 0
FromRows [] P = P
FromRows (r ∷ l) P = Right r → FromRows l P

from-rows : {P Q : Type 0} (l : List Row) → (P → Q) → FromRows l P → FromRows l Q
from-rows [] f p = f p
from-rows (r ∷ l) f p = λ h. from-rows l f (p h)

all_right : (l : List Row) → FromRows l (All Right l)
all_right [] = nothing
all_right (r ∷ l) = λ h. from-rows l (each h) (all_right l)

pub marked-right : All Right marked
unfolding marked model search search_in holds shift-task substitute-task dnf Normal.clauses Normal.pairs Normal.pairs_with Normal.opposed Normal.any Normal.opposite disjunction Normal.prune Normal.minimal Normal.entered Normal.enter Normal.lex Normal.properly Normal.inside Normal.ors Normal.conjunction Normal.ands Normal.literal Normal.union
marked-right =
    all_right marked
    (entailed _ _ _ (by-search _ _ _ refl refl refl) refl)
    (entailed _ _ _ (by-search _ _ _ refl refl refl) refl)
    (entailed _ _ _ (by-assignment _ _ _ (λ n. vu) refl refl refl refl) refl)
    (entailed _ _ _ (not-below (leb-true _ _ refl)) refl)
    (entailed _ _ _ (by-search _ _ _ refl refl refl) refl)
    (normalised _ _ [] refl refl refl)
    (normalised _ _ ((0 ∷ []) ∷ (1 ∷ []) ∷ []) refl refl refl)
    (normalised _ _ ((1 ∷ []) ∷ []) refl refl refl)
    (forall-made _ _ _ refl refl)
    (boundary-made _ _ _ refl refl refl)
    (shift_made _ _ _ refl refl)
    (shift_made _ _ _ refl refl)
    shift-large
    (substitute-made _ _ _ _ refl refl)
    (intervals _ (few-nodes (leb-true _ _ refl)))
    (intervals _ (many-nodes (leb-true _ _ refl)))
