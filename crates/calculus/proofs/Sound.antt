-- Every rule is sound, so in every valid ledger each judgement is true.
use mathlib.Core.Path.{◌≡◌, refl, sym, ◌∙◌, ap, ap₂}
use mathlib.Core.Logic.{◌↔◌, ◌⊎◌, inl, inr, ⊎_elim}
use mathlib.Core.Bool.{Bool, true, false, ◌&&◌, ◌||◌, false≢true, and-eq-true_iff, and-true, and_assoc, and-or_distrib_right}
use mathlib.Core.List.{List, [], ◌∷◌, map, Memᴰ}
use Prim.Native.Nat.{ℕ, zero, suc, ◌≤◌, ◌<◌, compare, Ordering}
use native.Mathlib.Omega.{arith}
use lib.ListN.{length}
use Rattle.formula.specs.Formula.{End, lo, hi, Face, fand, for, Interval, i0, i1, dim, neg, meet, join, Val, v0, v1, vu, neg_v, meet_v, join_v, is, Assignment, value, holds, beside, raised}
use Rattle.formula.specs.Operations
use Rattle.formula.specs.Bytes.{bound_face, bound_interval}
use Rattle.formula.proofs.Compare.{compare-lt, compare-eq, compare-gt, Compares, stands}
use Rattle.formula.proofs.Meaning.{boundary-holds}
use Rattle.calculus.specs.Judgement.{Judgement, Step}
use Rattle.calculus.specs.Rules
use Rattle.calculus.specs.Rules.{Rule, step_at, judgement_at, AllBelow, Valid}
use Rattle.calculus.specs.Truth.{LeftOut, here, there, satisfies, Bounds, True, AllTrue}

-- A disjunction is true exactly when a part is.
pub or-iff : (a b : Bool) → ((a || b) ≡ true) ↔ ((a ≡ true) ⊎ (b ≡ true))
or-iff true b = (λ e. inl refl, λ c. refl)
or-iff false b = (λ e. inr e, ⊎_elim (λ e. absurd (false≢true e)) (λ e. e))

-- A face of a satisfied context holds.
pub member-holds : {f : Face} {G : List Face} → Memᴰ f G → (σ : Assignment) → satisfies G σ ≡ true → holds f σ ≡ true
unfolding satisfies
member-holds (Memᴰ.head {x = g} {xs = H} e) σ s = rw e ((and-eq-true_iff (holds g σ) (satisfies H σ)).0 s).0
member-holds (Memᴰ.tail {x = g} {xs = H} m) σ s = member-holds m σ ((and-eq-true_iff (holds g σ) (satisfies H σ)).0 s).1

-- One face alone is satisfied where it holds.
pub alone : (a : Face) (σ : Assignment) → satisfies (a ∷ []) σ ≡ holds a σ
unfolding satisfies
alone a σ = and-true (holds a σ)

-- A context is satisfied exactly where the face left out and the rest are.
pub left-out-satisfies : {f : Face} {G D : List Face} → LeftOut f G D → (σ : Assignment) → satisfies G σ ≡ (holds f σ && satisfies D σ)
unfolding satisfies
left-out-satisfies here σ = refl
left-out-satisfies {f} (there {g = g} {D = D} o) σ = rw (left-out-satisfies o σ) (swap (holds g σ) (holds f σ) (satisfies D σ))
  where
    swap : (x y z : Bool) → (x && (y && z)) ≡ (y && (x && z))
    swap true y z = refl
    swap false true z = refl
    swap false false z = refl

-- A conjunction left out, its parts put in front.
pub and-left-satisfies : {a b : Face} {G D : List Face} → LeftOut (fand a b) G D → (σ : Assignment) → satisfies G σ ≡ satisfies (a ∷ b ∷ D) σ
unfolding satisfies holds
and-left-satisfies {a} {b} {D = D} o σ = left-out-satisfies o σ ∙ and_assoc (holds a σ) (holds b σ) (satisfies D σ)

-- A disjunction left out, a part put in front.
pub or-left-satisfies : {a b : Face} {G D : List Face} → LeftOut (for a b) G D → (σ : Assignment) → (satisfies G σ ≡ true) ↔ ((satisfies (a ∷ D) σ ≡ true) ⊎ (satisfies (b ∷ D) σ ≡ true))
unfolding satisfies holds
or-left-satisfies {a} {b} {D = D} o σ = rw (left-out-satisfies o σ, and-or_distrib_right) (or-iff (holds a σ && satisfies D σ) (holds b σ && satisfies D σ))

-- The value that an end is.
abbrev pub end_value : End → Val
end_value lo = v0
end_value hi = v1

pub is-end : (e : End) (v : Val) → is e v ≡ true → v ≡ end_value e
is-end lo v0 h = refl
is-end lo v1 h = absurd (false≢true h)
is-end lo vu h = absurd (false≢true h)
is-end hi v0 h = absurd (false≢true h)
is-end hi v1 h = refl
is-end hi vu h = absurd (false≢true h)

-- No value is both ends.
pub not-both-ends : (v : Val) → is lo v ≡ true → is hi v ≡ true → ⊥
not-both-ends v0 p q = false≢true q
not-both-ends v1 p q = false≢true p
not-both-ends vu p q = false≢true p

-- Two faces are the boundary of an expression exactly when they hold where its boundary does.
bounds : (r : Interval) {a b : Face} → ((σ : Assignment) → holds a σ ≡ holds (Operations.boundary lo r) σ) → ((σ : Assignment) → holds b σ ≡ holds (Operations.boundary hi r) σ) → Bounds r a b
bounds r p q = record { at_zero = λ σ. p σ ∙ boundary-holds lo r σ; at_one = λ σ. q σ ∙ boundary-holds hi r σ }

lower : {r : Interval} {a b : Face} → Bounds r a b → (σ : Assignment) → holds a σ ≡ holds (Operations.boundary lo r) σ
lower {r} h σ = h.at_zero σ ∙ sym (boundary-holds lo r σ)

upper : {r : Interval} {a b : Face} → Bounds r a b → (σ : Assignment) → holds b σ ≡ holds (Operations.boundary hi r) σ
upper {r} h σ = h.at_one σ ∙ sym (boundary-holds hi r σ)

-- A place made at or below n moves it up.
raised-ge : (k n : ℕ) → k ≤ n → raised k n ≡ suc n
raised-ge k n h = go (compare n k) (stands n k)
  where
    go : (o : Ordering) → Compares o n k → beside o n (suc n) (suc n) ≡ suc n
    go Ordering.lt l = absurd (omega arith)
    go Ordering.eq l = refl
    go Ordering.gt l = refl

-- Every rule is sound: where the premises are true, so is the conclusion.
pub rule-sound : {k : ℕ} {ps : List Judgement} {j : Judgement} → Rule k ps j → AllTrue ps → True j
unfolding holds value bound_face bound_interval satisfies Operations.boundary
rule-sound Rules.lt-z h = omega arith
rule-sound Rules.lt-s h = omega arith
rule-sound Rules.le-z h = omega arith
rule-sound Rules.le_s h = omega arith
rule-sound Rules.interval-0 h = omega arith
rule-sound Rules.interval-1 h = omega arith
rule-sound Rules.interval-dim h = h.0
rule-sound Rules.interval-neg h = h.0
rule-sound Rules.interval-meet h = omega arith
rule-sound Rules.interval-join h = omega arith
rule-sound Rules.face-ff h = omega arith
rule-sound Rules.face-ft h = omega arith
rule-sound Rules.face-0 h = h.0
rule-sound Rules.face-1 h = h.0
rule-sound Rules.face-and h = omega arith
rule-sound Rules.face-or h = omega arith
rule-sound Rules.member-here h = Memᴰ.head refl
rule-sound Rules.member-there h = Memᴰ.tail h.0
rule-sound Rules.take-here h = here
rule-sound Rules.take-there h = there h.0
rule-sound Rules.cover-top h = λ σ s. refl
rule-sound Rules.cover-hit h = member-holds h.0
rule-sound Rules.cover-absurd h = λ σ s. absurd (false≢true (member-holds h.0 σ s))
rule-sound (Rules.cover-clash {n = n}) h = λ σ s. absurd (not-both-ends (σ n) (member-holds h.0 σ s) (member-holds h.1.0 σ s))
rule-sound Rules.cover-and-left h = λ σ s. h.1.0 σ (sym (and-left-satisfies h.0 σ) ∙ s)
rule-sound Rules.cover-or-left h = λ σ s. ⊎_elim (h.1.0 σ) (h.1.1.0 σ) ((or-left-satisfies h.0 σ).0 s)
rule-sound (Rules.cover-and-right {a = a} {b = b}) h = λ σ s. (and-eq-true_iff (holds a σ) (holds b σ)).1 (h.0 σ s, h.1.0 σ s)
rule-sound (Rules.cover-or-right0 {a = a} {b = b}) h = λ σ s. (or-iff (holds a σ) (holds b σ)).1 (inl (h.0 σ s))
rule-sound (Rules.cover-or-right1 {a = a} {b = b}) h = λ σ s. (or-iff (holds a σ) (holds b σ)).1 (inr (h.0 σ s))
rule-sound (Rules.entails-checked {a = a}) h = record { left = h.0; right = h.1.0; implied = λ σ s. h.1.1.0 σ (alone a σ ∙ s) }
rule-sound Rules.boundary-0 h = bounds i0 (λ σ. refl) (λ σ. refl)
rule-sound Rules.boundary-1 h = bounds i1 (λ σ. refl) (λ σ. refl)
rule-sound (Rules.boundary-dim {n = n}) h = bounds (dim n) (λ σ. refl) (λ σ. refl)
rule-sound (Rules.boundary-neg {r = r}) h = bounds (neg r) (upper h.0) (lower h.0)
rule-sound (Rules.boundary-meet {r = r} {s = s}) h =
    bounds (meet r s) (λ σ. ap₂ ◌||◌ (lower h.0 σ) (lower h.1.0 σ)) (λ σ. ap₂ ◌&&◌ (upper h.0 σ) (upper h.1.0 σ))
rule-sound (Rules.boundary-join {r = r} {s = s}) h =
    bounds (join r s) (λ σ. ap₂ ◌&&◌ (lower h.0 σ) (lower h.1.0 σ)) (λ σ. ap₂ ◌||◌ (upper h.0 σ) (upper h.1.0 σ))
rule-sound (Rules.local-0 {r = r}) h =
    record { on = h.1.1.0.left; of = h.0; end = omega arith; equal = λ σ s. is-end lo (value r σ) (sym (h.1.0.at_zero σ) ∙ h.1.1.0.implied σ s) }
rule-sound (Rules.local-1 {r = r}) h =
    record { on = h.1.1.0.left; of = h.0; end = omega arith; equal = λ σ s. is-end hi (value r σ) (sym (h.1.0.at_one σ) ∙ h.1.1.0.implied σ s) }
rule-sound Rules.fforall-ff h = λ σ. refl
rule-sound Rules.fforall-ft h = λ σ. refl
rule-sound Rules.fforall-0-hit h = λ σ. rw compare-eq
rule-sound (Rules.fforall-0-lt {k} {n}) h = λ σ. rw (compare-lt n k h.0)
rule-sound (Rules.fforall-0-gt {k} {n}) h = λ σ. rw (compare-gt (suc n) k h.0)
rule-sound Rules.fforall-1-hit h = λ σ. rw compare-eq
rule-sound (Rules.fforall-1-lt {k} {n}) h = λ σ. rw (compare-lt n k h.0)
rule-sound (Rules.fforall-1-gt {k} {n}) h = λ σ. rw (compare-gt (suc n) k h.0)
rule-sound Rules.fforall-and h = λ σ. ap₂ ◌&&◌ (h.0 σ) (h.1.0 σ)
rule-sound Rules.fforall-or h = λ σ. ap₂ ◌||◌ (h.0 σ) (h.1.0 σ)
rule-sound Rules.ishift-0 h = λ σ. refl
rule-sound Rules.ishift-1 h = λ σ. refl
rule-sound (Rules.ishift-dim-lt {k} {n}) h = λ σ. rw (compare-lt n k h.0)
rule-sound (Rules.ishift-dim-ge {k} {n}) h = λ σ. ap σ (sym (raised-ge k n h.0))
rule-sound Rules.ishift-neg h = λ σ. ap neg_v (h.0 σ)
rule-sound Rules.ishift-meet h = λ σ. ap₂ meet_v (h.0 σ) (h.1.0 σ)
rule-sound Rules.ishift-join h = λ σ. ap₂ join_v (h.0 σ) (h.1.0 σ)
rule-sound Rules.isubst-0 h = λ σ. refl
rule-sound Rules.isubst-1 h = λ σ. refl
rule-sound (Rules.isubst-dim-lt {k} {n}) h = λ σ. rw (compare-lt n k h.0)
rule-sound Rules.isubst-dim-hit h = λ σ. rw compare-eq
rule-sound (Rules.isubst-dim-gt {k} {n}) h = λ σ. rw (compare-gt (suc n) k h.0)
rule-sound Rules.isubst-neg h = λ σ. ap neg_v (h.0 σ)
rule-sound Rules.isubst-meet h = λ σ. ap₂ meet_v (h.0 σ) (h.1.0 σ)
rule-sound Rules.isubst-join h = λ σ. ap₂ join_v (h.0 σ) (h.1.0 σ)
rule-sound Rules.fshift-ff h = λ σ. refl
rule-sound Rules.fshift-ft h = λ σ. refl
rule-sound Rules.fshift-0 h = λ σ. ap (is lo) (h.0 σ)
rule-sound Rules.fshift-1 h = λ σ. ap (is hi) (h.0 σ)
rule-sound Rules.fshift-and h = λ σ. ap₂ ◌&&◌ (h.0 σ) (h.1.0 σ)
rule-sound Rules.fshift-or h = λ σ. ap₂ ◌||◌ (h.0 σ) (h.1.0 σ)
rule-sound Rules.fsubst-ff h = λ σ. refl
rule-sound Rules.fsubst-ft h = λ σ. refl
rule-sound Rules.fsubst-0 h = λ σ. h.1.0.at_zero σ ∙ ap (is lo) (h.0 σ)
rule-sound Rules.fsubst-1 h = λ σ. h.1.0.at_one σ ∙ ap (is hi) (h.0 σ)
rule-sound Rules.fsubst-and h = λ σ. ap₂ ◌&&◌ (h.0 σ) (h.1.0 σ)
rule-sound Rules.fsubst-or h = λ σ. ap₂ ◌||◌ (h.0 σ) (h.1.0 σ)

-- The judgements referred to are true where all below n are.
references-true : (L : List Step) (n : ℕ) → ((i : ℕ) → i < n → True (judgement_at L i)) → (is : List ℕ) → AllBelow n is → AllTrue (map (judgement_at L) is)
references-true L n h [] b = tt
references-true L n h (i ∷ is) b = (h i b.0, references-true L n h is b.1)

-- In every valid ledger each judgement is true.
pub valid-true : {L : List Step} → Valid L → (i : ℕ) → i < length L → True (judgement_at L i)
valid-true {L} v i b = below (suc i) i (omega arith) b
  where
    step : (n : ℕ) → ((i : ℕ) → i < n → i < length L → True (judgement_at L i)) → (i : ℕ) → i < suc n → i < length L → True (judgement_at L i)
    step n h i l b = rule-sound (v i b).rule (references-true L i (λ j c. h j (omega arith) (omega arith)) (step_at L i).references (v i b).earlier)

    below : (n i : ℕ) → i < n → i < length L → True (judgement_at L i)
    below zero i l b = absurd (omega arith)
    below (suc n) i l b = step n (below n) i l b
