-- The table agrees with the rules: each kind's reference count and predicate, and the name of its rule.
use mathlib.Core.Path.{◌≡◌, refl}
use mathlib.Core.List.{List}
use Prim.Native.Nat.{ℕ, zero, suc, ◌≤◌}
use native.Mathlib.Omega.{arith}
use native.Mathlib.Decide.{dec_le}
use lib.ListN.{length, length-map, get_or-eq_default}
use Rattle.calculus.specs.Judgement.{Judgement, Step}
use Rattle.calculus.specs.Table.{Pred, predicate, unlisted, table, Listed}
use Rattle.calculus.specs.Rules
use Rattle.calculus.specs.Rules.{Rule, judgement_at, Follows}

-- A kind is at most 75, and not 0.
pub listed-range : {k n : ℕ} {p : Pred} → Listed k n p → (1 ≤ k) × (k ≤ 75)
unfolding table
listed-range {k = zero} l = absurd (let z : ◌≡◌ {A = ℕ} 0 1 = cc l.listed in omega arith)
listed-range {k = suc k} l = (omega arith, go (dec_le (suc k) 75))
  where
    go : Dec (suc k ≤ 75) → suc k ≤ 75
    go (yes h) = h
    go (no h) = absurd (let z : ◌≡◌ {A = ℕ} 0 1 = cc (l.listed, get_or-eq_default table unlisted {n = k} (omega arith)) in omega arith)

-- Every rule has the reference count and predicate of its kind.
pub rule-listed : {k : ℕ} {ps : List Judgement} {j : Judgement} → Rule k ps j → Listed k (length ps) (predicate j)
unfolding table
rule-listed Rules.lt-z = record { name = "lt.z"; listed = refl }
rule-listed Rules.lt-s = record { name = "lt.s"; listed = refl }
rule-listed Rules.le-z = record { name = "le.z"; listed = refl }
rule-listed Rules.le_s = record { name = "le.s"; listed = refl }
rule-listed Rules.interval-0 = record { name = "interval.0"; listed = refl }
rule-listed Rules.interval-1 = record { name = "interval.1"; listed = refl }
rule-listed Rules.interval-dim = record { name = "interval.dim"; listed = refl }
rule-listed Rules.interval-neg = record { name = "interval.neg"; listed = refl }
rule-listed Rules.interval-meet = record { name = "interval.meet"; listed = refl }
rule-listed Rules.interval-join = record { name = "interval.join"; listed = refl }
rule-listed Rules.face-ff = record { name = "face.ff"; listed = refl }
rule-listed Rules.face-ft = record { name = "face.ft"; listed = refl }
rule-listed Rules.face-0 = record { name = "face.0"; listed = refl }
rule-listed Rules.face-1 = record { name = "face.1"; listed = refl }
rule-listed Rules.face-and = record { name = "face.and"; listed = refl }
rule-listed Rules.face-or = record { name = "face.or"; listed = refl }
rule-listed Rules.member-here = record { name = "member.here"; listed = refl }
rule-listed Rules.member-there = record { name = "member.there"; listed = refl }
rule-listed Rules.take-here = record { name = "take.here"; listed = refl }
rule-listed Rules.take-there = record { name = "take.there"; listed = refl }
rule-listed Rules.cover-top = record { name = "cover.top"; listed = refl }
rule-listed Rules.cover-hit = record { name = "cover.hit"; listed = refl }
rule-listed Rules.cover-absurd = record { name = "cover.absurd"; listed = refl }
rule-listed Rules.cover-clash = record { name = "cover.clash"; listed = refl }
rule-listed Rules.cover-and-left = record { name = "cover.and-left"; listed = refl }
rule-listed Rules.cover-or-left = record { name = "cover.or-left"; listed = refl }
rule-listed Rules.cover-and-right = record { name = "cover.and-right"; listed = refl }
rule-listed Rules.cover-or-right0 = record { name = "cover.or-right0"; listed = refl }
rule-listed Rules.cover-or-right1 = record { name = "cover.or-right1"; listed = refl }
rule-listed Rules.entails-checked = record { name = "entails.checked"; listed = refl }
rule-listed Rules.boundary-0 = record { name = "boundary.0"; listed = refl }
rule-listed Rules.boundary-1 = record { name = "boundary.1"; listed = refl }
rule-listed Rules.boundary-dim = record { name = "boundary.dim"; listed = refl }
rule-listed Rules.boundary-neg = record { name = "boundary.neg"; listed = refl }
rule-listed Rules.boundary-meet = record { name = "boundary.meet"; listed = refl }
rule-listed Rules.boundary-join = record { name = "boundary.join"; listed = refl }
rule-listed Rules.local-0 = record { name = "local.0"; listed = refl }
rule-listed Rules.local-1 = record { name = "local.1"; listed = refl }
rule-listed Rules.fforall-ff = record { name = "fforall.ff"; listed = refl }
rule-listed Rules.fforall-ft = record { name = "fforall.ft"; listed = refl }
rule-listed Rules.fforall-0-hit = record { name = "fforall.0.hit"; listed = refl }
rule-listed Rules.fforall-0-lt = record { name = "fforall.0.lt"; listed = refl }
rule-listed Rules.fforall-0-gt = record { name = "fforall.0.gt"; listed = refl }
rule-listed Rules.fforall-1-hit = record { name = "fforall.1.hit"; listed = refl }
rule-listed Rules.fforall-1-lt = record { name = "fforall.1.lt"; listed = refl }
rule-listed Rules.fforall-1-gt = record { name = "fforall.1.gt"; listed = refl }
rule-listed Rules.fforall-and = record { name = "fforall.and"; listed = refl }
rule-listed Rules.fforall-or = record { name = "fforall.or"; listed = refl }
rule-listed Rules.ishift-0 = record { name = "ishift.0"; listed = refl }
rule-listed Rules.ishift-1 = record { name = "ishift.1"; listed = refl }
rule-listed Rules.ishift-dim-lt = record { name = "ishift.dim.lt"; listed = refl }
rule-listed Rules.ishift-dim-ge = record { name = "ishift.dim.ge"; listed = refl }
rule-listed Rules.ishift-neg = record { name = "ishift.neg"; listed = refl }
rule-listed Rules.ishift-meet = record { name = "ishift.meet"; listed = refl }
rule-listed Rules.ishift-join = record { name = "ishift.join"; listed = refl }
rule-listed Rules.isubst-0 = record { name = "isubst.0"; listed = refl }
rule-listed Rules.isubst-1 = record { name = "isubst.1"; listed = refl }
rule-listed Rules.isubst-dim-lt = record { name = "isubst.dim.lt"; listed = refl }
rule-listed Rules.isubst-dim-hit = record { name = "isubst.dim.hit"; listed = refl }
rule-listed Rules.isubst-dim-gt = record { name = "isubst.dim.gt"; listed = refl }
rule-listed Rules.isubst-neg = record { name = "isubst.neg"; listed = refl }
rule-listed Rules.isubst-meet = record { name = "isubst.meet"; listed = refl }
rule-listed Rules.isubst-join = record { name = "isubst.join"; listed = refl }
rule-listed Rules.fshift-ff = record { name = "fshift.ff"; listed = refl }
rule-listed Rules.fshift-ft = record { name = "fshift.ft"; listed = refl }
rule-listed Rules.fshift-0 = record { name = "fshift.0"; listed = refl }
rule-listed Rules.fshift-1 = record { name = "fshift.1"; listed = refl }
rule-listed Rules.fshift-and = record { name = "fshift.and"; listed = refl }
rule-listed Rules.fshift-or = record { name = "fshift.or"; listed = refl }
rule-listed Rules.fsubst-ff = record { name = "fsubst.ff"; listed = refl }
rule-listed Rules.fsubst-ft = record { name = "fsubst.ft"; listed = refl }
rule-listed Rules.fsubst-0 = record { name = "fsubst.0"; listed = refl }
rule-listed Rules.fsubst-1 = record { name = "fsubst.1"; listed = refl }
rule-listed Rules.fsubst-and = record { name = "fsubst.and"; listed = refl }
rule-listed Rules.fsubst-or = record { name = "fsubst.or"; listed = refl }

-- So has every step that follows.
pub follows-listed : {L : List Step} {n : ℕ} {s : Step} → Follows L n s → Listed s.kind (length s.references) (predicate s.judgement)
follows-listed {L} {s = s} f = let r = rule-listed f.rule in record { name = r.name; listed = rw (← length-map s.references (judgement_at L)) r.listed }
