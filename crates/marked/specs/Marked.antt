-- The marked examples of document 01 as one table: what is asked, what is answered, and when a row is right.
use Rattle.std.specs.Prelude.{◌≡◌, true, false, ◌⊎◌, List, [], ◌∷◌, map, ℕ, ◌≤◌, ◌<◌, max, Ok}
use Rattle.std.proofs.Math.Option.{some}
use Rattle.std.proofs.lemmas.List.Edits.{sets}
use Rattle.formula.specs.declared.Sort.TheVariants.{Faces, Intervals}
use Rattle.formula.specs.Formula.{lo, hi, Face, ff, ft, at, fand, for, Interval, i0, dim, neg, meet, join, Assignment, holds}
use Rattle.formula.specs.Bytes.{encode, nodes_interval, bound_face, bound_interval, max_nodes, max_bound}
use Rattle.formula.specs.Answers.{size_of}
use Rattle.calculus.specs.Judgement
use Rattle.calculus.specs.Judgement.{Step}
use Rattle.calculus.specs.Truth.{EntailsBelow, True}
use Rattle.calculus.specs.Record.{formula, max_ledger}
use Rattle.calculus.specs.Parse.{read_ledger}
use Rattle.refusals.specs.declared.Refusal.{Refusal}
use Rattle.refusals.specs.Refusals.{number}
use Rattle.calculus.specs.Door
use Rattle.calculus.specs.Door.{Call, Item, item, outputs_of, measure, answered, refused, Reply, long_enough, written, reply}
use Rattle.calculus.specs.Demand.{empty}
use Rattle.clauses.specs.Normal.{Clause, disjunction}
use Rattle.clauses.specs.Shape.{Irredundant}
use Rattle.normal.specs.Answers.{normal_of, Formed, put}

-- The table ---------------------------------------------------------------------------------

-- What is asked. The last is asked of every interval of n nodes.
pub data Asked : Type 0 where
  entails : (d : ℕ) (a b : Face) → Asked
  normal : (f : Face) → Asked
  forall : (k : ℕ) (f : Face) → Asked
  boundary : (r : Interval) → Asked
  shift : (k : ℕ) (f : Face) → Asked
  substitute : (r : Interval) (k : ℕ) (f : Face) → Asked
  interval-of : (n : ℕ) → Asked

-- What is answered: yes, with these faces as results, or the refusal with this number.
pub data Expected : Type 0 where
  yes-with : List Face → Expected
  refusal : ℕ → Expected

-- A row: what is asked, and what is answered.
infix 70 ◌gives◌
pub data Row : Type 0 where
  ◌gives◌ : Asked → Expected → Row

-- Document 01's n and n'.
abbrev pub at0 : ℕ → Face
at0 n = at lo n

abbrev pub at1 : ℕ → Face
at1 n = at hi n

-- The marked examples, in document 01's order and words.
unfoldable pub marked : List Row
marked =
    -- 0 fand (1 for 1') entails (0 fand 1) for (0 fand 1'), d 2: yes.
    entails 2 (fand (at0 0) (for (at0 1) (at1 1))) (for (fand (at0 0) (at0 1)) (fand (at0 0) (at1 1))) gives yes-with [] ∷
    -- 0 fand 0' entails ff, d 1: yes.
    entails 1 (fand (at0 0) (at1 0)) ff gives yes-with [] ∷
    -- ft entails 0 for 0', d 1: 9.
    entails 1 ft (for (at0 0) (at1 0)) gives refusal 9 ∷
    -- ff entails 0, d 0: 8.
    entails 0 ff (at0 0) gives refusal 8 ∷
    -- ff entails ff, d 0: yes.
    entails 0 ff ff gives yes-with [] ∷
    -- normal: 0 fand 0' is ff;
    normal (fand (at0 0) (at1 0)) gives yes-with (ff ∷ []) ∷
    -- 0 for 0' is itself;
    normal (for (at0 0) (at1 0)) gives yes-with (for (at0 0) (at1 0) ∷ []) ∷
    -- 0' for (0' fand 1) is 0'.
    normal (for (at1 0) (fand (at1 0) (at0 1))) gives yes-with (at1 0 ∷ []) ∷
    -- forall 1 of 0 for (1' fand 2) is 0 for (ff fand 1).
    forall 1 (for (at0 0) (fand (at1 1) (at0 2))) gives yes-with (for (at0 0) (fand ff (at0 1)) ∷ []) ∷
    -- boundary of meet (dim 0) (neg (dim 0)) is 0 for 0', 0' fand 0.
    boundary (meet (dim 0) (neg (dim 0))) gives yes-with (for (at0 0) (at1 0) ∷ fand (at1 0) (at0 0) ∷ []) ∷
    -- shift at 1: 1 becomes 2,
    shift 1 (at0 1) gives yes-with (at0 2 ∷ []) ∷
    -- 0 stays;
    shift 1 (at0 0) gives yes-with (at0 0 ∷ []) ∷
    -- at 0: 254 gives 5.
    shift 0 (at0 254) gives refusal 5 ∷
    -- substitute join (dim 3) i0 for 0 in 0': 3' for ff.
    substitute (join (dim 3) i0) 0 (at1 0) gives yes-with (for (at1 3) ff ∷ []) ∷
    -- An interval of 511 nodes passes,
    interval-of 511 gives yes-with [] ∷
    -- of 512 gives 3.
    interval-of 512 gives refusal 3 ∷
    []

-- What the calls answer -----------------------------------------------------------------------

-- Results, in the terms of the calls.
abbrev pub items : List Face → List Item
items gs = map (item (formula Faces)) gs

-- The output slices are long enough for the results, if there are any.
abbrev pub Fits : Expected → List (List ℕ) → Type 0
Fits (yes-with gs) outs = long_enough (items gs) outs ≡ true
Fits (refusal q) outs = Unit {0}

-- The reply to a call with these output slices says so: a step's number, with the results in front of the slices, or the refusal with this number, with the slices as they were.
abbrev pub Says : Expected → List (List ℕ) → Reply → Type 0
Says (yes-with gs) outs r = (n : ℕ) × (r.answer ≡ answered n (map measure (items gs))) × (r.outputs ≡ written (items gs) outs)
Says (refusal q) outs r = (e : Refusal) × (number e ≡ q) × (r.answer ≡ refused e) × (r.outputs ≡ outs)

-- A call whose output slices are long enough answers so on every well-formed ledger, or 7 for want of room, and not 7 on an empty one of m bytes or more.
pub record OnLedgers (m : ℕ) (c : Call) (x : Expected) : Type 0 where
  pub everywhere : Fits x (outputs_of c) → (l : List ℕ) (L : List Step) → read_ledger l ≡ some L → Says x (outputs_of c) (reply c l) ⊎ Says (refusal 7) (outputs_of c) (reply c l)
  pub with-room : Fits x (outputs_of c) → (n : ℕ) → m ≤ n → n ≤ max_ledger → Says x (outputs_of c) (reply c (empty n))

-- The answer for a normal form, with this output slice, says so: its size, with its bytes in front of the slice.
pub data Forms (out : List ℕ) : Expected → Formed → Type 0 where
  forms : {g : Face} → Forms out (yes-with (g ∷ [])) (record { answer = Ok (size_of Faces g); output = sets out 0 (encode Faces g) })

-- The call answers so, as its contract has it, with the formulas' bytes as operands and any output slices. 1,000 bytes have room for its steps, and 1,000,000 for those of any interval of 511 nodes.
abbrev pub Answers : Row → Type 0
Answers (entails d a b gives x) = OnLedgers 1000 (Door.entails d (encode Faces a) (encode Faces b)) x
Answers (normal f gives x) = (out : List ℕ) → Fits x (out ∷ []) → Forms out x (put (normal_of (encode Faces f)) out)
Answers (forall k f gives x) = (out : List ℕ) → OnLedgers 1000 (Door.forall (encode Faces f) k out) x
Answers (boundary r gives x) = (out₀ out₁ : List ℕ) → OnLedgers 1000 (Door.boundary (encode Intervals r) out₀ out₁) x
Answers (shift k f gives x) = (out : List ℕ) → OnLedgers 1000 (Door.shift Faces (encode Faces f) k out) x
Answers (substitute r k f gives x) = (out : List ℕ) → OnLedgers 1000 (Door.substitute Faces (encode Faces f) k (encode Intervals r) out) x
Answers (interval-of n gives x) = (d : ℕ) (r : Interval) → nodes_interval r ≡ n → bound_interval r ≤ d → d ≤ max_bound → OnLedgers 1000000 (Door.interval d (encode Intervals r)) x

-- What the meaning says -------------------------------------------------------------------------

-- What is answered is what the meaning says.
pub data Means : Row → Type 0 where
  -- Yes: all dimensions are below d, and every assignment that satisfies a satisfies b.
  implied : {d : ℕ} {a b : Face} → EntailsBelow d a b → Means (entails d a b gives yes-with [])
  -- 8: a dimension is not below d.
  not-below : {d : ℕ} {a b : Face} → d < max (bound_face a) (bound_face b) → Means (entails d a b gives refusal 8)
  -- 9: all dimensions are below d, and this assignment satisfies a and not b.
  not-implied : {d : ℕ} {a b : Face} → bound_face a ≤ d → bound_face b ≤ d → (σ : Assignment) → holds a σ ≡ true → holds b σ ≡ false → Means (entails d a b gives refusal 9)
  -- The normal form holds exactly where the face does, and is made of sorted clauses of which none contains another.
  equivalent : {f : Face} (l : List Clause) {g : Face} → disjunction l ≡ g → Irredundant l → ((σ : Assignment) → holds g σ ≡ holds f σ) → Means (normal f gives yes-with (g ∷ []))
  -- The judgement with these results is true.
  at-undetermined : {k : ℕ} {f g : Face} → True (Judgement.fforall f k g) → Means (forall k f gives yes-with (g ∷ []))
  at-ends : {r : Interval} {a b : Face} → True (Judgement.boundary r a b) → Means (boundary r gives yes-with (a ∷ b ∷ []))
  shifted : {k : ℕ} {f g : Face} → True (Judgement.fshift f k g) → Means (shift k f gives yes-with (g ∷ []))
  substituted : {r : Interval} {k : ℕ} {f g : Face} → True (Judgement.fsubst f k r g) → Means (substitute r k f gives yes-with (g ∷ []))
  -- 5: every result with which the judgement is true has a dimension above 254.
  too_large : {k : ℕ} {f : Face} → ((g : Face) → True (Judgement.fshift f k g) → max_bound < bound_face g) → Means (shift k f gives refusal 5)
  -- At most 511 nodes pass, and more are 3.
  few-nodes : {n : ℕ} → n ≤ max_nodes → Means (interval-of n gives yes-with [])
  many-nodes : {n : ℕ} → max_nodes < n → Means (interval-of n gives refusal 3)

-- A row is right: the call answers so, and that is what the meaning says.
pub record Right (r : Row) : Type 0 where
  pub answers : Answers r
  pub means : Means r
