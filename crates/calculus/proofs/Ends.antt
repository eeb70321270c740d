-- The rules that come in two: one for each end of a literal, one for each operation.
use mathlib.Core.List.{[], ◌∷◌}
use Prim.Native.Nat.{ℕ, suc}
use Rattle.formula.specs.declared.Sort.TheVariants.{Faces, Intervals}
use Rattle.formula.specs.Formula.{End, lo, hi, Face, ff, ft, at, fand, for, Interval, i0, i1, dim, neg, meet, join}
use Rattle.formula.specs.Operations.{Op, shift, subst}
use Rattle.calculus.specs.Judgement.{lt, interval, face, entails, boundary, local, fforall, ishift, isubst, fshift, fsubst}
use Rattle.calculus.specs.Rules
use Rattle.calculus.specs.Rules.{Rule}
use Rattle.calculus.specs.Calls.{side, which, Order, less, at_most, compared, compared_kind, takes}

pub compared-s : (o : Order) (m n : ℕ) → Rule (compared_kind o) (compared o m n ∷ []) (compared o (suc m) (suc n))
compared-s less m n = Rules.lt-s
compared-s at_most m n = Rules.le_s

pub face-at : (e : End) {d n : ℕ} → Rule (side e 13 14) (interval d (dim n) ∷ []) (face d (at e n))
face-at lo = Rules.face-0
face-at hi = Rules.face-1

pub local_at : (e : End) {d : ℕ} {phi a b : Face} {r : Interval} → Rule (side e 37 38) (interval d r ∷ boundary r a b ∷ entails d phi (side e a b) ∷ []) (local d phi r (side e i0 i1))
local_at lo = Rules.local-0
local_at hi = Rules.local-1

pub fforall-hit : (e : End) {k : ℕ} → Rule (side e 41 44) [] (fforall (at e k) k ff)
fforall-hit lo = Rules.fforall-0-hit
fforall-hit hi = Rules.fforall-1-hit

pub fforall-lt : (e : End) {k n : ℕ} → Rule (side e 42 45) (lt n k ∷ []) (fforall (at e n) k (at e n))
fforall-lt lo = Rules.fforall-0-lt
fforall-lt hi = Rules.fforall-1-lt

pub fforall-gt : (e : End) {k n : ℕ} → Rule (side e 43 46) (lt k (suc n) ∷ []) (fforall (at e (suc n)) k (at e n))
fforall-gt lo = Rules.fforall-0-gt
fforall-gt hi = Rules.fforall-1-gt

pub fshift-at : (e : End) {k n m : ℕ} → Rule (side e 66 67) (ishift (dim n) k (dim m) ∷ []) (fshift (at e n) k (at e m))
fshift-at lo = Rules.fshift-0
fshift-at hi = Rules.fshift-1

pub fsubst-at : (e : End) {k n : ℕ} {t s : Interval} {a b : Face} → Rule (side e 72 73) (isubst (dim n) k t s ∷ boundary s a b ∷ []) (fsubst (at e n) k t (side e a b))
fsubst-at lo = Rules.fsubst-0
fsubst-at hi = Rules.fsubst-1

pub takes-0 : (o : Op) → Rule (which o 49 56) [] (takes Intervals o i0 i0)
takes-0 (shift k) = Rules.ishift-0
takes-0 (subst k t) = Rules.isubst-0

pub takes-1 : (o : Op) → Rule (which o 50 57) [] (takes Intervals o i1 i1)
takes-1 (shift k) = Rules.ishift-1
takes-1 (subst k t) = Rules.isubst-1

pub takes-neg : (o : Op) (r x : Interval) → Rule (which o 53 61) (takes Intervals o r x ∷ []) (takes Intervals o (neg r) (neg x))
takes-neg (shift k) r x = Rules.ishift-neg
takes-neg (subst k t) r x = Rules.isubst-neg

pub takes-meet : (o : Op) (r s x y : Interval) → Rule (which o 54 62) (takes Intervals o r x ∷ takes Intervals o s y ∷ []) (takes Intervals o (meet r s) (meet x y))
takes-meet (shift k) r s x y = Rules.ishift-meet
takes-meet (subst k t) r s x y = Rules.isubst-meet

pub takes-join : (o : Op) (r s x y : Interval) → Rule (which o 55 63) (takes Intervals o r x ∷ takes Intervals o s y ∷ []) (takes Intervals o (join r s) (join x y))
takes-join (shift k) r s x y = Rules.ishift-join
takes-join (subst k t) r s x y = Rules.isubst-join

pub takes-ff : (o : Op) → Rule (which o 64 70) [] (takes Faces o ff ff)
takes-ff (shift k) = Rules.fshift-ff
takes-ff (subst k t) = Rules.fsubst-ff

pub takes-ft : (o : Op) → Rule (which o 65 71) [] (takes Faces o ft ft)
takes-ft (shift k) = Rules.fshift-ft
takes-ft (subst k t) = Rules.fsubst-ft

pub takes-and : (o : Op) (a b x y : Face) → Rule (which o 68 74) (takes Faces o a x ∷ takes Faces o b y ∷ []) (takes Faces o (fand a b) (fand x y))
takes-and (shift k) a b x y = Rules.fshift-and
takes-and (subst k t) a b x y = Rules.fsubst-and

pub takes-or : (o : Op) (a b x y : Face) → Rule (which o 69 75) (takes Faces o a x ∷ takes Faces o b y ∷ []) (takes Faces o (for a b) (for x y))
takes-or (shift k) a b x y = Rules.fshift-or
takes-or (subst k t) a b x y = Rules.fsubst-or
