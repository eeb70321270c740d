-- The rules as rows of data: patterns over numbered variables. The instances of row k are exactly the rule of kind k, so that a rule can be decided.
use mathlib.Core.Path.{◌≡◌, refl, subst₂}
use mathlib.Core.Bool.{cond}
use mathlib.Core.List.{List, [], ◌∷◌, map}
use Prim.Native.Nat.{ℕ, zero, suc, pred, ◌+◌, ◌<◌}
use native.Mathlib.Omega.{arith}
use native.Mathlib.Decide.{dec_lt}
use lib.Dec.{eqb}
use lib.ListN.{length, get_or}
use Rattle.formula.specs.Formula.{End, lo, hi, Face, ff, ft, at, fand, for, Interval, i0, i1, dim, neg, meet, join}
use Rattle.calculus.specs.Judgement.{Judgement, lt, le, interval, face, member, take, cover, entails, boundary, local, fforall, ishift, isubst, fshift, fsubst, same_list, same_judgement}
use Rattle.calculus.specs.Rules
use Rattle.calculus.specs.Rules.{Rule}
use Rattle.calculus.proofs.Tables.{rule-listed, listed-range}

-- Patterns of numbers (zero, a variable, its successor), faces, intervals, contexts and judgements ------

pub data NumP : Type 0 where
  nz : NumP
  nv ns : ℕ → NumP

pub data FaceP : Type 0 where
  fv : ℕ → FaceP
  Ff Ft : FaceP
  At : End → NumP → FaceP
  And Or : FaceP → FaceP → FaceP

pub data IntP : Type 0 where
  iv : ℕ → IntP
  I0 I1 : IntP
  Dim : NumP → IntP
  Neg : IntP → IntP
  Meet Join : IntP → IntP → IntP

infixr 30 ◌◂◌
pub data CtxP : Type 0 where
  cv : ℕ → CtxP
  Nil : CtxP
  ◌◂◌ : FaceP → CtxP → CtxP

pub data JudP : Type 0 where
  Lt Le : NumP → NumP → JudP
  Int : NumP → IntP → JudP
  Fac : NumP → FaceP → JudP
  Mem : FaceP → CtxP → JudP
  Tak : CtxP → FaceP → CtxP → JudP
  Cov : CtxP → FaceP → JudP
  Ent : NumP → FaceP → FaceP → JudP
  Bnd : IntP → FaceP → FaceP → JudP
  Loc : NumP → FaceP → IntP → IntP → JudP
  All : FaceP → NumP → FaceP → JudP
  Ish : IntP → NumP → IntP → JudP
  Isu : IntP → NumP → IntP → IntP → JudP
  Fsh : FaceP → NumP → FaceP → JudP
  Fsu : FaceP → NumP → IntP → FaceP → JudP

-- A row: conclusion and premises.
pub data Row : Type 0 where
  row : JudP → List JudP → Row

abbrev pub conclusion : Row → JudP
conclusion (row c ps) = c

abbrev pub premises : Row → List JudP
premises (row c ps) = ps

-- The rows of the kinds 1 to 75.
unfoldable pub rows : List Row
rows =
    row (Lt nz (ns 0)) [] ∷
    row (Lt (ns 0) (ns 1)) (Lt (nv 0) (nv 1) ∷ []) ∷
    row (Le nz (nv 0)) [] ∷
    row (Le (ns 0) (ns 1)) (Le (nv 0) (nv 1) ∷ []) ∷
    row (Int (nv 0) I0) [] ∷
    row (Int (nv 0) I1) [] ∷
    row (Int (nv 0) (Dim (nv 1))) (Lt (nv 1) (nv 0) ∷ []) ∷
    row (Int (nv 0) (Neg (iv 1))) (Int (nv 0) (iv 1) ∷ []) ∷
    row (Int (nv 0) (Meet (iv 1) (iv 2))) (Int (nv 0) (iv 1) ∷ Int (nv 0) (iv 2) ∷ []) ∷
    row (Int (nv 0) (Join (iv 1) (iv 2))) (Int (nv 0) (iv 1) ∷ Int (nv 0) (iv 2) ∷ []) ∷
    row (Fac (nv 0) Ff) [] ∷
    row (Fac (nv 0) Ft) [] ∷
    row (Fac (nv 0) (At lo (nv 1))) (Int (nv 0) (Dim (nv 1)) ∷ []) ∷
    row (Fac (nv 0) (At hi (nv 1))) (Int (nv 0) (Dim (nv 1)) ∷ []) ∷
    row (Fac (nv 0) (And (fv 1) (fv 2))) (Fac (nv 0) (fv 1) ∷ Fac (nv 0) (fv 2) ∷ []) ∷
    row (Fac (nv 0) (Or (fv 1) (fv 2))) (Fac (nv 0) (fv 1) ∷ Fac (nv 0) (fv 2) ∷ []) ∷
    row (Mem (fv 0) (fv 0 ◂ cv 1)) [] ∷
    row (Mem (fv 0) (fv 1 ◂ cv 2)) (Mem (fv 0) (cv 2) ∷ []) ∷
    row (Tak (fv 0 ◂ cv 1) (fv 0) (cv 1)) [] ∷
    row (Tak (fv 0 ◂ cv 1) (fv 2) (fv 0 ◂ cv 3)) (Tak (cv 1) (fv 2) (cv 3) ∷ []) ∷
    row (Cov (cv 0) Ft) [] ∷
    row (Cov (cv 0) (fv 1)) (Mem (fv 1) (cv 0) ∷ []) ∷
    row (Cov (cv 0) (fv 1)) (Mem Ff (cv 0) ∷ []) ∷
    row (Cov (cv 0) (fv 1)) (Mem (At lo (nv 2)) (cv 0) ∷ Mem (At hi (nv 2)) (cv 0) ∷ []) ∷
    row (Cov (cv 0) (fv 1)) (Tak (cv 0) (And (fv 2) (fv 3)) (cv 4) ∷ Cov (fv 2 ◂ fv 3 ◂ cv 4) (fv 1) ∷ []) ∷
    row (Cov (cv 0) (fv 1)) (Tak (cv 0) (Or (fv 2) (fv 3)) (cv 4) ∷ Cov (fv 2 ◂ cv 4) (fv 1) ∷ Cov (fv 3 ◂ cv 4) (fv 1) ∷ []) ∷
    row (Cov (cv 0) (And (fv 1) (fv 2))) (Cov (cv 0) (fv 1) ∷ Cov (cv 0) (fv 2) ∷ []) ∷
    row (Cov (cv 0) (Or (fv 1) (fv 2))) (Cov (cv 0) (fv 1) ∷ []) ∷
    row (Cov (cv 0) (Or (fv 1) (fv 2))) (Cov (cv 0) (fv 2) ∷ []) ∷
    row (Ent (nv 0) (fv 1) (fv 2)) (Fac (nv 0) (fv 1) ∷ Fac (nv 0) (fv 2) ∷ Cov (fv 1 ◂ Nil) (fv 2) ∷ []) ∷
    row (Bnd I0 Ft Ff) [] ∷
    row (Bnd I1 Ff Ft) [] ∷
    row (Bnd (Dim (nv 0)) (At lo (nv 0)) (At hi (nv 0))) [] ∷
    row (Bnd (Neg (iv 0)) (fv 1) (fv 2)) (Bnd (iv 0) (fv 2) (fv 1) ∷ []) ∷
    row (Bnd (Meet (iv 0) (iv 1)) (Or (fv 2) (fv 3)) (And (fv 4) (fv 5))) (Bnd (iv 0) (fv 2) (fv 4) ∷ Bnd (iv 1) (fv 3) (fv 5) ∷ []) ∷
    row (Bnd (Join (iv 0) (iv 1)) (And (fv 2) (fv 3)) (Or (fv 4) (fv 5))) (Bnd (iv 0) (fv 2) (fv 4) ∷ Bnd (iv 1) (fv 3) (fv 5) ∷ []) ∷
    row (Loc (nv 0) (fv 1) (iv 2) I0) (Int (nv 0) (iv 2) ∷ Bnd (iv 2) (fv 3) (fv 4) ∷ Ent (nv 0) (fv 1) (fv 3) ∷ []) ∷
    row (Loc (nv 0) (fv 1) (iv 2) I1) (Int (nv 0) (iv 2) ∷ Bnd (iv 2) (fv 3) (fv 4) ∷ Ent (nv 0) (fv 1) (fv 4) ∷ []) ∷
    row (All Ff (nv 0) Ff) [] ∷
    row (All Ft (nv 0) Ft) [] ∷
    row (All (At lo (nv 0)) (nv 0) Ff) [] ∷
    row (All (At lo (nv 0)) (nv 1) (At lo (nv 0))) (Lt (nv 0) (nv 1) ∷ []) ∷
    row (All (At lo (ns 0)) (nv 1) (At lo (nv 0))) (Lt (nv 1) (ns 0) ∷ []) ∷
    row (All (At hi (nv 0)) (nv 0) Ff) [] ∷
    row (All (At hi (nv 0)) (nv 1) (At hi (nv 0))) (Lt (nv 0) (nv 1) ∷ []) ∷
    row (All (At hi (ns 0)) (nv 1) (At hi (nv 0))) (Lt (nv 1) (ns 0) ∷ []) ∷
    row (All (And (fv 0) (fv 1)) (nv 2) (And (fv 3) (fv 4))) (All (fv 0) (nv 2) (fv 3) ∷ All (fv 1) (nv 2) (fv 4) ∷ []) ∷
    row (All (Or (fv 0) (fv 1)) (nv 2) (Or (fv 3) (fv 4))) (All (fv 0) (nv 2) (fv 3) ∷ All (fv 1) (nv 2) (fv 4) ∷ []) ∷
    row (Ish I0 (nv 0) I0) [] ∷
    row (Ish I1 (nv 0) I1) [] ∷
    row (Ish (Dim (nv 0)) (nv 1) (Dim (nv 0))) (Lt (nv 0) (nv 1) ∷ []) ∷
    row (Ish (Dim (nv 0)) (nv 1) (Dim (ns 0))) (Le (nv 1) (nv 0) ∷ []) ∷
    row (Ish (Neg (iv 0)) (nv 1) (Neg (iv 2))) (Ish (iv 0) (nv 1) (iv 2) ∷ []) ∷
    row (Ish (Meet (iv 0) (iv 1)) (nv 2) (Meet (iv 3) (iv 4))) (Ish (iv 0) (nv 2) (iv 3) ∷ Ish (iv 1) (nv 2) (iv 4) ∷ []) ∷
    row (Ish (Join (iv 0) (iv 1)) (nv 2) (Join (iv 3) (iv 4))) (Ish (iv 0) (nv 2) (iv 3) ∷ Ish (iv 1) (nv 2) (iv 4) ∷ []) ∷
    row (Isu I0 (nv 0) (iv 1) I0) [] ∷
    row (Isu I1 (nv 0) (iv 1) I1) [] ∷
    row (Isu (Dim (nv 0)) (nv 1) (iv 2) (Dim (nv 0))) (Lt (nv 0) (nv 1) ∷ []) ∷
    row (Isu (Dim (nv 0)) (nv 0) (iv 1) (iv 1)) [] ∷
    row (Isu (Dim (ns 0)) (nv 1) (iv 2) (Dim (nv 0))) (Lt (nv 1) (ns 0) ∷ []) ∷
    row (Isu (Neg (iv 0)) (nv 1) (iv 2) (Neg (iv 3))) (Isu (iv 0) (nv 1) (iv 2) (iv 3) ∷ []) ∷
    row (Isu (Meet (iv 0) (iv 1)) (nv 2) (iv 3) (Meet (iv 4) (iv 5))) (Isu (iv 0) (nv 2) (iv 3) (iv 4) ∷ Isu (iv 1) (nv 2) (iv 3) (iv 5) ∷ []) ∷
    row (Isu (Join (iv 0) (iv 1)) (nv 2) (iv 3) (Join (iv 4) (iv 5))) (Isu (iv 0) (nv 2) (iv 3) (iv 4) ∷ Isu (iv 1) (nv 2) (iv 3) (iv 5) ∷ []) ∷
    row (Fsh Ff (nv 0) Ff) [] ∷
    row (Fsh Ft (nv 0) Ft) [] ∷
    row (Fsh (At lo (nv 0)) (nv 1) (At lo (nv 2))) (Ish (Dim (nv 0)) (nv 1) (Dim (nv 2)) ∷ []) ∷
    row (Fsh (At hi (nv 0)) (nv 1) (At hi (nv 2))) (Ish (Dim (nv 0)) (nv 1) (Dim (nv 2)) ∷ []) ∷
    row (Fsh (And (fv 0) (fv 1)) (nv 2) (And (fv 3) (fv 4))) (Fsh (fv 0) (nv 2) (fv 3) ∷ Fsh (fv 1) (nv 2) (fv 4) ∷ []) ∷
    row (Fsh (Or (fv 0) (fv 1)) (nv 2) (Or (fv 3) (fv 4))) (Fsh (fv 0) (nv 2) (fv 3) ∷ Fsh (fv 1) (nv 2) (fv 4) ∷ []) ∷
    row (Fsu Ff (nv 0) (iv 1) Ff) [] ∷
    row (Fsu Ft (nv 0) (iv 1) Ft) [] ∷
    row (Fsu (At lo (nv 0)) (nv 1) (iv 2) (fv 3)) (Isu (Dim (nv 0)) (nv 1) (iv 2) (iv 4) ∷ Bnd (iv 4) (fv 3) (fv 5) ∷ []) ∷
    row (Fsu (At hi (nv 0)) (nv 1) (iv 2) (fv 3)) (Isu (Dim (nv 0)) (nv 1) (iv 2) (iv 4) ∷ Bnd (iv 4) (fv 5) (fv 3) ∷ []) ∷
    row (Fsu (And (fv 0) (fv 1)) (nv 2) (iv 3) (And (fv 4) (fv 5))) (Fsu (fv 0) (nv 2) (iv 3) (fv 4) ∷ Fsu (fv 1) (nv 2) (iv 3) (fv 5) ∷ []) ∷
    row (Fsu (Or (fv 0) (fv 1)) (nv 2) (iv 3) (Or (fv 4) (fv 5))) (Fsu (fv 0) (nv 2) (iv 3) (fv 4) ∷ Fsu (fv 1) (nv 2) (iv 3) (fv 5) ∷ []) ∷
    []

-- The row of kind suc i.
abbrev pub row_at : ℕ → Row
row_at i = get_or rows i (row (Lt nz nz) [])

-- What the variables stand for, and the instance of a pattern --------------------------

pub record Env : Type 0 where
  pub num : ℕ → ℕ
  pub fac : ℕ → Face
  pub itv : ℕ → Interval
  pub ctx : ℕ → List Face

abbrev pub inst_n : Env → NumP → ℕ
inst_n E nz = 0
inst_n E (nv i) = E.num i
inst_n E (ns i) = suc (E.num i)

abbrev pub inst_f : Env → FaceP → Face
inst_f E (fv i) = E.fac i
inst_f E Ff = ff
inst_f E Ft = ft
inst_f E (At e n) = at e (inst_n E n)
inst_f E (And p q) = fand (inst_f E p) (inst_f E q)
inst_f E (Or p q) = for (inst_f E p) (inst_f E q)

abbrev pub inst_i : Env → IntP → Interval
inst_i E (iv i) = E.itv i
inst_i E I0 = i0
inst_i E I1 = i1
inst_i E (Dim n) = dim (inst_n E n)
inst_i E (Neg p) = neg (inst_i E p)
inst_i E (Meet p q) = meet (inst_i E p) (inst_i E q)
inst_i E (Join p q) = join (inst_i E p) (inst_i E q)

abbrev pub inst_c : Env → CtxP → List Face
inst_c E (cv i) = E.ctx i
inst_c E Nil = []
inst_c E (p ◂ c) = inst_f E p ∷ inst_c E c

abbrev pub inst : Env → JudP → Judgement
inst E (Lt m n) = lt (inst_n E m) (inst_n E n)
inst E (Le m n) = le (inst_n E m) (inst_n E n)
inst E (Int d r) = interval (inst_n E d) (inst_i E r)
inst E (Fac d f) = face (inst_n E d) (inst_f E f)
inst E (Mem f G) = member (inst_f E f) (inst_c E G)
inst E (Tak G f D) = take (inst_c E G) (inst_f E f) (inst_c E D)
inst E (Cov G g) = cover (inst_c E G) (inst_f E g)
inst E (Ent d a b) = entails (inst_n E d) (inst_f E a) (inst_f E b)
inst E (Bnd r a b) = boundary (inst_i E r) (inst_f E a) (inst_f E b)
inst E (Loc d p r e) = local (inst_n E d) (inst_f E p) (inst_i E r) (inst_i E e)
inst E (All f k o) = fforall (inst_f E f) (inst_n E k) (inst_f E o)
inst E (Ish r k o) = ishift (inst_i E r) (inst_n E k) (inst_i E o)
inst E (Isu r k s o) = isubst (inst_i E r) (inst_n E k) (inst_i E s) (inst_i E o)
inst E (Fsh f k o) = fshift (inst_f E f) (inst_n E k) (inst_f E o)
inst E (Fsu f k s o) = fsubst (inst_f E f) (inst_n E k) (inst_i E s) (inst_f E o)

-- Each instance of a row is its rule ----------------------------------------------------

infixr 30 ◌also◌
data Sound : ℕ → List Row → Type 0 where
  none : {k : ℕ} → Sound k []
  ◌also◌ : {k : ℕ} {r : Row} {rs : List Row} → ((E : Env) → Rule k (map (inst E) (premises r)) (inst E (conclusion r))) → Sound (suc k) rs → Sound k (r ∷ rs)

rows-sound : Sound 1 rows
unfolding rows
rows-sound =
    (λ E. Rules.lt-z) also
    (λ E. Rules.lt-s) also
    (λ E. Rules.le-z) also
    (λ E. Rules.le_s) also
    (λ E. Rules.interval-0) also
    (λ E. Rules.interval-1) also
    (λ E. Rules.interval-dim) also
    (λ E. Rules.interval-neg) also
    (λ E. Rules.interval-meet) also
    (λ E. Rules.interval-join) also
    (λ E. Rules.face-ff) also
    (λ E. Rules.face-ft) also
    (λ E. Rules.face-0) also
    (λ E. Rules.face-1) also
    (λ E. Rules.face-and) also
    (λ E. Rules.face-or) also
    (λ E. Rules.member-here) also
    (λ E. Rules.member-there) also
    (λ E. Rules.take-here) also
    (λ E. Rules.take-there) also
    (λ E. Rules.cover-top) also
    (λ E. Rules.cover-hit) also
    (λ E. Rules.cover-absurd) also
    (λ E. Rules.cover-clash) also
    (λ E. Rules.cover-and-left) also
    (λ E. Rules.cover-or-left) also
    (λ E. Rules.cover-and-right) also
    (λ E. Rules.cover-or-right0) also
    (λ E. Rules.cover-or-right1) also
    (λ E. Rules.entails-checked) also
    (λ E. Rules.boundary-0) also
    (λ E. Rules.boundary-1) also
    (λ E. Rules.boundary-dim) also
    (λ E. Rules.boundary-neg) also
    (λ E. Rules.boundary-meet) also
    (λ E. Rules.boundary-join) also
    (λ E. Rules.local-0) also
    (λ E. Rules.local-1) also
    (λ E. Rules.fforall-ff) also
    (λ E. Rules.fforall-ft) also
    (λ E. Rules.fforall-0-hit) also
    (λ E. Rules.fforall-0-lt) also
    (λ E. Rules.fforall-0-gt) also
    (λ E. Rules.fforall-1-hit) also
    (λ E. Rules.fforall-1-lt) also
    (λ E. Rules.fforall-1-gt) also
    (λ E. Rules.fforall-and) also
    (λ E. Rules.fforall-or) also
    (λ E. Rules.ishift-0) also
    (λ E. Rules.ishift-1) also
    (λ E. Rules.ishift-dim-lt) also
    (λ E. Rules.ishift-dim-ge) also
    (λ E. Rules.ishift-neg) also
    (λ E. Rules.ishift-meet) also
    (λ E. Rules.ishift-join) also
    (λ E. Rules.isubst-0) also
    (λ E. Rules.isubst-1) also
    (λ E. Rules.isubst-dim-lt) also
    (λ E. Rules.isubst-dim-hit) also
    (λ E. Rules.isubst-dim-gt) also
    (λ E. Rules.isubst-neg) also
    (λ E. Rules.isubst-meet) also
    (λ E. Rules.isubst-join) also
    (λ E. Rules.fshift-ff) also
    (λ E. Rules.fshift-ft) also
    (λ E. Rules.fshift-0) also
    (λ E. Rules.fshift-1) also
    (λ E. Rules.fshift-and) also
    (λ E. Rules.fshift-or) also
    (λ E. Rules.fsubst-ff) also
    (λ E. Rules.fsubst-ft) also
    (λ E. Rules.fsubst-0) also
    (λ E. Rules.fsubst-1) also
    (λ E. Rules.fsubst-and) also
    (λ E. Rules.fsubst-or) also
    none

sound-at : {k : ℕ} {rs : List Row} → Sound k rs → (i : ℕ) → i < length rs → (E : Env)
    → Rule (i + k) (map (inst E) (premises (get_or rs i (row (Lt nz nz) [])))) (inst E (conclusion (get_or rs i (row (Lt nz nz) []))))
sound-at none i b E = absurd (omega arith)
sound-at {k} (r also s) zero b E = let e : zero + k ≡ k = omega arith in rw e (r E)
sound-at {k} (r also s) (suc i) b E = let e : suc i + k ≡ i + suc k = omega arith in rw e (sound-at s i (omega arith) E)

rows-length : length rows ≡ 75
unfolding rows
rows-length = refl

row-rule : (i : ℕ) → i < 75 → (E : Env) → Rule (suc i) (map (inst E) (premises (row_at i))) (inst E (conclusion (row_at i)))
row-rule i b E = let e : suc i ≡ i + 1 = omega arith in rw e (sound-at rows-sound i (omega (arith, rows-length)) E)

-- What the variables of a row must stand for, read off judgements. Nothing is asked of this guess: it is tried -----

abbrev pub put : {A : Type 0} → ℕ → A → (ℕ → A) → ℕ → A
put i x f j = cond (eqb i j) x (f j)

abbrev pub left_f : Face → Face
left_f ff = ff
left_f ft = ff
left_f (at e n) = ff
left_f (fand a b) = a
left_f (for a b) = a

abbrev pub right_f : Face → Face
right_f ff = ff
right_f ft = ff
right_f (at e n) = ff
right_f (fand a b) = b
right_f (for a b) = b

abbrev pub dim_f : Face → ℕ
dim_f ff = 0
dim_f ft = 0
dim_f (at e n) = n
dim_f (fand a b) = 0
dim_f (for a b) = 0

abbrev pub left_i : Interval → Interval
left_i i0 = i0
left_i i1 = i0
left_i (dim n) = i0
left_i (neg r) = r
left_i (meet r s) = r
left_i (join r s) = r

abbrev pub right_i : Interval → Interval
right_i i0 = i0
right_i i1 = i0
right_i (dim n) = i0
right_i (neg r) = i0
right_i (meet r s) = s
right_i (join r s) = s

abbrev pub dim_i : Interval → ℕ
dim_i i0 = 0
dim_i i1 = 0
dim_i (dim n) = n
dim_i (neg r) = 0
dim_i (meet r s) = 0
dim_i (join r s) = 0

abbrev pub head_c : List Face → Face
head_c [] = ff
head_c (f ∷ G) = f

abbrev pub tail_c : List Face → List Face
tail_c [] = []
tail_c (f ∷ G) = G

abbrev pub bind_n : ℕ → ℕ → Env → Env
bind_n i n E = record { num = put i n E.num; fac = E.fac; itv = E.itv; ctx = E.ctx }

abbrev pub guess_n : NumP → ℕ → Env → Env
guess_n nz n E = E
guess_n (nv i) n E = bind_n i n E
guess_n (ns i) n E = bind_n i (pred n) E

abbrev pub guess_f : FaceP → Face → Env → Env
guess_f (fv i) f E = record { num = E.num; fac = put i f E.fac; itv = E.itv; ctx = E.ctx }
guess_f Ff f E = E
guess_f Ft f E = E
guess_f (At e n) f E = guess_n n (dim_f f) E
guess_f (And p q) f E = guess_f q (right_f f) (guess_f p (left_f f) E)
guess_f (Or p q) f E = guess_f q (right_f f) (guess_f p (left_f f) E)

abbrev pub guess_i : IntP → Interval → Env → Env
guess_i (iv i) r E = record { num = E.num; fac = E.fac; itv = put i r E.itv; ctx = E.ctx }
guess_i I0 r E = E
guess_i I1 r E = E
guess_i (Dim n) r E = guess_n n (dim_i r) E
guess_i (Neg p) r E = guess_i p (left_i r) E
guess_i (Meet p q) r E = guess_i q (right_i r) (guess_i p (left_i r) E)
guess_i (Join p q) r E = guess_i q (right_i r) (guess_i p (left_i r) E)

abbrev pub guess_c : CtxP → List Face → Env → Env
guess_c (cv i) G E = record { num = E.num; fac = E.fac; itv = E.itv; ctx = put i G E.ctx }
guess_c Nil G E = E
guess_c (p ◂ c) G E = guess_c c (tail_c G) (guess_f p (head_c G) E)

-- The operands of a judgement, by sort and place.
abbrev pub env_of : List ℕ → List Face → List Interval → List (List Face) → Env
env_of ms fs rs Gs = record { num = λ i. get_or ms i 0; fac = λ i. get_or fs i ff; itv = λ i. get_or rs i i0; ctx = λ i. get_or Gs i [] }

abbrev pub operands : Judgement → Env
operands (lt m n) = env_of (m ∷ n ∷ []) [] [] []
operands (le m n) = env_of (m ∷ n ∷ []) [] [] []
operands (interval d r) = env_of (d ∷ []) [] (r ∷ []) []
operands (face d f) = env_of (d ∷ []) (f ∷ []) [] []
operands (member f G) = env_of [] (f ∷ []) [] (G ∷ [])
operands (take G f D) = env_of [] (f ∷ []) [] (G ∷ D ∷ [])
operands (cover G g) = env_of [] (g ∷ []) [] (G ∷ [])
operands (entails d a b) = env_of (d ∷ []) (a ∷ b ∷ []) [] []
operands (boundary r a b) = env_of [] (a ∷ b ∷ []) (r ∷ []) []
operands (local d f r e) = env_of (d ∷ []) (f ∷ []) (r ∷ e ∷ []) []
operands (fforall f k g) = env_of (k ∷ []) (f ∷ g ∷ []) [] []
operands (ishift r k s) = env_of (k ∷ []) [] (r ∷ s ∷ []) []
operands (isubst r k t s) = env_of (k ∷ []) [] (r ∷ t ∷ s ∷ []) []
operands (fshift f k g) = env_of (k ∷ []) (f ∷ g ∷ []) [] []
operands (fsubst f k t g) = env_of (k ∷ []) (f ∷ g ∷ []) (t ∷ []) []

abbrev pub guess_j : JudP → Env → Env → Env
guess_j (Lt m n) J E = guess_n m (J.num 0) (guess_n n (J.num 1) E)
guess_j (Le m n) J E = guess_n m (J.num 0) (guess_n n (J.num 1) E)
guess_j (Int d r) J E = guess_n d (J.num 0) (guess_i r (J.itv 0) E)
guess_j (Fac d f) J E = guess_n d (J.num 0) (guess_f f (J.fac 0) E)
guess_j (Mem f G) J E = guess_f f (J.fac 0) (guess_c G (J.ctx 0) E)
guess_j (Tak G f D) J E = guess_c G (J.ctx 0) (guess_f f (J.fac 0) (guess_c D (J.ctx 1) E))
guess_j (Cov G g) J E = guess_c G (J.ctx 0) (guess_f g (J.fac 0) E)
guess_j (Ent d a b) J E = guess_n d (J.num 0) (guess_f a (J.fac 0) (guess_f b (J.fac 1) E))
guess_j (Bnd r a b) J E = guess_i r (J.itv 0) (guess_f a (J.fac 0) (guess_f b (J.fac 1) E))
guess_j (Loc d f r e) J E = guess_n d (J.num 0) (guess_f f (J.fac 0) (guess_i r (J.itv 0) (guess_i e (J.itv 1) E)))
guess_j (All f k g) J E = guess_f f (J.fac 0) (guess_n k (J.num 0) (guess_f g (J.fac 1) E))
guess_j (Ish r k s) J E = guess_i r (J.itv 0) (guess_n k (J.num 0) (guess_i s (J.itv 1) E))
guess_j (Isu r k t s) J E = guess_i r (J.itv 0) (guess_n k (J.num 0) (guess_i t (J.itv 1) (guess_i s (J.itv 2) E)))
guess_j (Fsh f k g) J E = guess_f f (J.fac 0) (guess_n k (J.num 0) (guess_f g (J.fac 1) E))
guess_j (Fsu f k t g) J E = guess_f f (J.fac 0) (guess_n k (J.num 0) (guess_i t (J.itv 0) (guess_f g (J.fac 1) E)))

unfoldable pub guess_all : List JudP → List Judgement → Env
guess_all [] js = env_of [] [] [] []
guess_all (p ∷ ps) [] = env_of [] [] [] []
guess_all (p ∷ ps) (j ∷ js) = guess_j p (operands j) (guess_all ps js)

unfoldable pub guess : Row → List Judgement → Judgement → Env
unfolding guess_all
guess r ps j = guess_all (conclusion r ∷ premises r) (j ∷ ps)

-- The guess makes the row the step.
pub record Guessed (i : ℕ) (ps : List Judgement) (j : Judgement) : Type 0 where
  pub ends : inst (guess (row_at i) ps j) (conclusion (row_at i)) ≡ j
  pub refs : map (inst (guess (row_at i) ps j)) (premises (row_at i)) ≡ ps

-- Each rule is the instance of its row that is guessed from it.
pub rule-guessed : {k : ℕ} {ps : List Judgement} {j : Judgement} → Rule k ps j → Guessed (pred k) ps j
unfolding rows guess
rule-guessed Rules.lt-z = record { ends = refl; refs = refl }
rule-guessed Rules.lt-s = record { ends = refl; refs = refl }
rule-guessed Rules.le-z = record { ends = refl; refs = refl }
rule-guessed Rules.le_s = record { ends = refl; refs = refl }
rule-guessed Rules.interval-0 = record { ends = refl; refs = refl }
rule-guessed Rules.interval-1 = record { ends = refl; refs = refl }
rule-guessed Rules.interval-dim = record { ends = refl; refs = refl }
rule-guessed Rules.interval-neg = record { ends = refl; refs = refl }
rule-guessed Rules.interval-meet = record { ends = refl; refs = refl }
rule-guessed Rules.interval-join = record { ends = refl; refs = refl }
rule-guessed Rules.face-ff = record { ends = refl; refs = refl }
rule-guessed Rules.face-ft = record { ends = refl; refs = refl }
rule-guessed Rules.face-0 = record { ends = refl; refs = refl }
rule-guessed Rules.face-1 = record { ends = refl; refs = refl }
rule-guessed Rules.face-and = record { ends = refl; refs = refl }
rule-guessed Rules.face-or = record { ends = refl; refs = refl }
rule-guessed Rules.member-here = record { ends = refl; refs = refl }
rule-guessed Rules.member-there = record { ends = refl; refs = refl }
rule-guessed Rules.take-here = record { ends = refl; refs = refl }
rule-guessed Rules.take-there = record { ends = refl; refs = refl }
rule-guessed Rules.cover-top = record { ends = refl; refs = refl }
rule-guessed Rules.cover-hit = record { ends = refl; refs = refl }
rule-guessed Rules.cover-absurd = record { ends = refl; refs = refl }
rule-guessed Rules.cover-clash = record { ends = refl; refs = refl }
rule-guessed Rules.cover-and-left = record { ends = refl; refs = refl }
rule-guessed Rules.cover-or-left = record { ends = refl; refs = refl }
rule-guessed Rules.cover-and-right = record { ends = refl; refs = refl }
rule-guessed Rules.cover-or-right0 = record { ends = refl; refs = refl }
rule-guessed Rules.cover-or-right1 = record { ends = refl; refs = refl }
rule-guessed Rules.entails-checked = record { ends = refl; refs = refl }
rule-guessed Rules.boundary-0 = record { ends = refl; refs = refl }
rule-guessed Rules.boundary-1 = record { ends = refl; refs = refl }
rule-guessed Rules.boundary-dim = record { ends = refl; refs = refl }
rule-guessed Rules.boundary-neg = record { ends = refl; refs = refl }
rule-guessed Rules.boundary-meet = record { ends = refl; refs = refl }
rule-guessed Rules.boundary-join = record { ends = refl; refs = refl }
rule-guessed Rules.local-0 = record { ends = refl; refs = refl }
rule-guessed Rules.local-1 = record { ends = refl; refs = refl }
rule-guessed Rules.fforall-ff = record { ends = refl; refs = refl }
rule-guessed Rules.fforall-ft = record { ends = refl; refs = refl }
rule-guessed Rules.fforall-0-hit = record { ends = refl; refs = refl }
rule-guessed Rules.fforall-0-lt = record { ends = refl; refs = refl }
rule-guessed Rules.fforall-0-gt = record { ends = refl; refs = refl }
rule-guessed Rules.fforall-1-hit = record { ends = refl; refs = refl }
rule-guessed Rules.fforall-1-lt = record { ends = refl; refs = refl }
rule-guessed Rules.fforall-1-gt = record { ends = refl; refs = refl }
rule-guessed Rules.fforall-and = record { ends = refl; refs = refl }
rule-guessed Rules.fforall-or = record { ends = refl; refs = refl }
rule-guessed Rules.ishift-0 = record { ends = refl; refs = refl }
rule-guessed Rules.ishift-1 = record { ends = refl; refs = refl }
rule-guessed Rules.ishift-dim-lt = record { ends = refl; refs = refl }
rule-guessed Rules.ishift-dim-ge = record { ends = refl; refs = refl }
rule-guessed Rules.ishift-neg = record { ends = refl; refs = refl }
rule-guessed Rules.ishift-meet = record { ends = refl; refs = refl }
rule-guessed Rules.ishift-join = record { ends = refl; refs = refl }
rule-guessed Rules.isubst-0 = record { ends = refl; refs = refl }
rule-guessed Rules.isubst-1 = record { ends = refl; refs = refl }
rule-guessed Rules.isubst-dim-lt = record { ends = refl; refs = refl }
rule-guessed Rules.isubst-dim-hit = record { ends = refl; refs = refl }
rule-guessed Rules.isubst-dim-gt = record { ends = refl; refs = refl }
rule-guessed Rules.isubst-neg = record { ends = refl; refs = refl }
rule-guessed Rules.isubst-meet = record { ends = refl; refs = refl }
rule-guessed Rules.isubst-join = record { ends = refl; refs = refl }
rule-guessed Rules.fshift-ff = record { ends = refl; refs = refl }
rule-guessed Rules.fshift-ft = record { ends = refl; refs = refl }
rule-guessed Rules.fshift-0 = record { ends = refl; refs = refl }
rule-guessed Rules.fshift-1 = record { ends = refl; refs = refl }
rule-guessed Rules.fshift-and = record { ends = refl; refs = refl }
rule-guessed Rules.fshift-or = record { ends = refl; refs = refl }
rule-guessed Rules.fsubst-ff = record { ends = refl; refs = refl }
rule-guessed Rules.fsubst-ft = record { ends = refl; refs = refl }
rule-guessed Rules.fsubst-0 = record { ends = refl; refs = refl }
rule-guessed Rules.fsubst-1 = record { ends = refl; refs = refl }
rule-guessed Rules.fsubst-and = record { ends = refl; refs = refl }
rule-guessed Rules.fsubst-or = record { ends = refl; refs = refl }

-- The instances of row i.
pub record Instance (i : ℕ) (ps : List Judgement) (j : Judgement) : Type 0 where
  pub env : Env
  pub ends : inst env (conclusion (row_at i)) ≡ j
  pub refs : map (inst env) (premises (row_at i)) ≡ ps

-- They are exactly the rule of kind suc i.
pub instance-rule : {i : ℕ} {ps : List Judgement} {j : Judgement} → i < 75 → Instance i ps j → Rule (suc i) ps j
instance-rule {i} b h = subst₂ (λ (qs : List Judgement) (k : Judgement). Rule (suc i) qs k) h.refs h.ends (row-rule i b h.env)

pub rule-instance : {i : ℕ} {ps : List Judgement} {j : Judgement} → Rule (suc i) ps j → Instance i ps j
rule-instance {i} {ps} {j} r = record { env = guess (row_at i) ps j; ends = (rule-guessed r).ends; refs = (rule-guessed r).refs }

-- Whether a step is by the rule of its kind is decided.
unfoldable pub rule? : (k : ℕ) (ps : List Judgement) (j : Judgement) → Dec (Rule k ps j)
rule? zero ps j = no (λ r. absurd (omega (arith, (listed-range (rule-listed r)).0)))
rule? (suc i) ps j = go (dec_lt i 75)
  where
    E : Env
    E = guess (row_at i) ps j

    both : i < 75 → Dec (inst E (conclusion (row_at i)) ≡ j) → Dec (map (inst E) (premises (row_at i)) ≡ ps) → Dec (Rule (suc i) ps j)
    both b (yes p) (yes q) = yes (instance-rule b (record { env = E; ends = p; refs = q }))
    both b (yes p) (no q) = no (λ r. q (rule-guessed r).refs)
    both b (no p) d = no (λ r. p (rule-guessed r).ends)

    go : Dec (i < 75) → Dec (Rule (suc i) ps j)
    go (yes b) = both b (same_judgement (inst E (conclusion (row_at i))) j) (same_list same_judgement (map (inst E) (premises (row_at i))) ps)
    go (no b) = no (λ r. b (listed-range (rule-listed r)).1)
