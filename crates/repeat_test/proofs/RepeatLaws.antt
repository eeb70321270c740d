-- What an answer of the repeat test says of two ledgers. Each theorem is about any r that the contract of `repeats` allows.
use mathlib.Core.Path.{◌≡◌, refl, sym, ap, ap₂, ◌∙◌, subst}
use mathlib.Core.Logic.{◌⊎◌, inl, inr}
use mathlib.Core.Bool.{Bool, true, false, decide_iff}
use mathlib.Core.Option.{Option, none, some}
use mathlib.Core.List.{List, []}
use Prim.Native.Nat.{ℕ}
use native.Mathlib.Omega.{arith}
use lib.ListN.{length}
use Rattle.formula.specs.Formula.{Face}
use Rattle.calculus.specs.Judgement.{Judgement, entails, Step}
use Rattle.calculus.specs.Table.{p_entails, predicate, Listed}
use Rattle.calculus.specs.Record.{FormedStep}
use Rattle.calculus.specs.Rules.{AllBelow}
use Rattle.calculus.specs.Parse.{read_ledger}
use Rattle.refusals.specs.declared.Refusal.{Refusal}
use Rattle.refusals.specs.declared.Refusal.TheVariants.{IllFormedLedger}
use Rattle.std.specs.Prelude.{Result, Ok, Err}
use Rattle.calculus.proofs.Fields.{Allowed}
use Rattle.calculus.proofs.Records.{ledger-read}
use Rattle.repeat_test.specs.Repeats.{SameClaim, same_claim?, last_step, end_alike, repeat_test}
use Rattle.repeat_test.proofs.TestLaws.{decide-same}
use Rattle.repeat_test.proofs.ClaimLaws.{claims, same-judgements, same_back, same-on, same_self, last-formed, entails-kind}

-- The contract of `repeats` allows one answer.
pub said-one : (l m : List ℕ) (r q : Result Bool Refusal) → r ≡ repeat_test (read_ledger l) (read_ledger m) → q ≡ repeat_test (read_ledger l) (read_ledger m) → r ≡ q
said-one l m r q e f = e ∙ sym f

-- Ledgers -----------------------------------------------------------------------------------------

-- The bytes are a ledger whose last step has this judgement.
pub record EndsIn (l : List ℕ) (j : Judgement) : Type 0 where
  pub steps : List Step
  pub reads : read_ledger l ≡ some steps
  pub last : Step
  pub ends : last_step steps ≡ some last
  pub claims : last.judgement ≡ j

-- Both are ledgers that end in the claim that a implies b over d.
pub record BothClaim (l m : List ℕ) : Type 0 where
  pub d : ℕ
  pub a : Face
  pub b : Face
  pub left : EndsIn l (entails d a b)
  pub right : EndsIn m (entails d a b)

-- Both end in steps that make the same claim.
record EndAlike (l m : List ℕ) : Type 0 where
  j : Judgement
  k : Judgement
  left : EndsIn l j
  right : EndsIn m k
  same : SameClaim j k

ends-formed : {l : List ℕ} {j : Judgement} → AllBelow 256 l → (e : EndsIn l j) → (n : ℕ) × FormedStep n e.last
ends-formed {l} b e = last-formed 0 e.steps (ledger-read l e.steps b e.reads).formed e.ends

ends-allowed : {l : List ℕ} {j : Judgement} → AllBelow 256 l → EndsIn l j → Allowed j
ends-allowed b e = subst Allowed e.claims (ends-formed b e).1.limits

-- An entails step is one of kind 30, entails.checked.
pub claims-kind : {l : List ℕ} {j : Judgement} → AllBelow 256 l → (e : EndsIn l j) → predicate j ≡ p_entails → e.last.kind ≡ 30
claims-kind b e p =
    let f = (ends-formed b e).1.listed in
    entails-kind (subst (Listed e.last.kind (length e.last.references)) (ap predicate e.claims ∙ p) f)

test-alike : (l m : List ℕ) → repeat_test (read_ledger l) (read_ledger m) ≡ Ok true → EndAlike l m
test-alike l m e = go (read_ledger l) (read_ledger m) refl refl e
  where
    on : (L M : List Step) → read_ledger l ≡ some L → read_ledger m ≡ some M → (o p : Option Step) → last_step L ≡ o → last_step M ≡ p → end_alike o p ≡ true → EndAlike l m
    on L M x y none p u v h = absurd (let z : ◌≡◌ {A = ℕ} 0 1 = cc in omega arith)
    on L M x y (some s) none u v h = absurd (let z : ◌≡◌ {A = ℕ} 0 1 = cc in omega arith)
    on L M x y (some s) (some t) u v h =
        record {
          j = s.judgement;
          k = t.judgement;
          left = record { steps = L; reads = x; last = s; ends = u; claims = refl };
          right = record { steps = M; reads = y; last = t; ends = v; claims = refl };
          same = (decide_iff (same_claim? s.judgement t.judgement)).0 h;
        }

    go : (o p : Option (List Step)) → read_ledger l ≡ o → read_ledger m ≡ p → repeat_test o p ≡ Ok true → EndAlike l m
    go none p x y h = absurd (let z : ◌≡◌ {A = ℕ} 0 1 = cc in omega arith)
    go (some L) none x y h = absurd (let z : ◌≡◌ {A = ℕ} 0 1 = cc in omega arith)
    go (some L) (some M) x y h = on L M x y (last_step L) (last_step M) refl refl (cc)

alike-test : (l m : List ℕ) → EndAlike l m → repeat_test (read_ledger l) (read_ledger m) ≡ Ok true
alike-test l m e =
    let x = e.left in
    let y = e.right in
    let s : SameClaim x.last.judgement y.last.judgement = subst (λ (i : Judgement). SameClaim i y.last.judgement) (sym x.claims) (subst (SameClaim e.j) (sym y.claims) e.same) in
    ap₂ repeat_test x.reads y.reads
    ∙ ap Ok (ap₂ end_alike x.ends y.ends ∙ (decide_iff (same_claim? x.last.judgement y.last.judgement)).1 s)

-- A ledger ends in one judgement.
ends-one : {l : List ℕ} {j k : Judgement} → EndsIn l j → EndsIn l k → j ≡ k
ends-one {l} x y = go l x.steps y.steps x.last y.last x.reads y.reads x.ends y.ends x.claims y.claims
  where
    go : (l : List ℕ) {j k : Judgement} (L M : List Step) (s t : Step) → read_ledger l ≡ some L → read_ledger l ≡ some M → last_step L ≡ some s → last_step M ≡ some t → s.judgement ≡ j → t.judgement ≡ k → j ≡ k
    go l L M s t a b c d e f = cc

-- An answer ------------------------------------------------------------------------------------------

module _ (l m : List ℕ) {r : Result Bool Refusal} (e : r ≡ repeat_test (read_ledger l) (read_ledger m)) where
  -- Yes exactly where both end in the claim that a implies b over d, the same d, a and b.
  pub repeats-claims : AllBelow 256 l → AllBelow 256 m → r ≡ Ok true → BothClaim l m
  repeats-claims x y h =
      let q = test-alike l m (sym e ∙ h) in
      let c = claims q.j q.same.left in
      let s = same-judgements (ends-allowed x q.left) (ends-allowed y q.right) q.same in
      record { d = c.d; a = c.a; b = c.b; left = subst (EndsIn l) c.is q.left; right = subst (EndsIn m) (sym s ∙ c.is) q.right }

  pub claims-repeats : BothClaim l m → r ≡ Ok true
  claims-repeats c = e ∙ alike-test l m (record { j = entails c.d c.a c.b; k = entails c.d c.a c.b; left = c.left; right = c.right; same = same_self refl })

  -- Refused exactly where either is no ledger, and by 1.
  pub refused-ill : {f : Refusal} → r ≡ Err f → (read_ledger l ≡ none) ⊎ (read_ledger m ≡ none)
  refused-ill {f} h = go (read_ledger l) (read_ledger m) refl refl (sym e ∙ h)
    where
      go : (o p : Option (List Step)) → read_ledger l ≡ o → read_ledger m ≡ p → repeat_test o p ≡ Err f → (read_ledger l ≡ none) ⊎ (read_ledger m ≡ none)
      go none p x y h = inl x
      go (some L) none x y h = inr y
      go (some L) (some M) x y h = absurd (let z : ◌≡◌ {A = ℕ} 0 1 = cc in omega arith)

  pub ill-refused : (read_ledger l ≡ none) ⊎ (read_ledger m ≡ none) → r ≡ Err IllFormedLedger
  ill-refused (inl x) = e ∙ ap (λ (o : Option (List Step)). repeat_test o (read_ledger m)) x
  ill-refused (inr y) = e ∙ ap (repeat_test (read_ledger l)) y ∙ go (read_ledger l)
    where
      go : (o : Option (List Step)) → repeat_test o none ≡ Err IllFormedLedger
      go none = refl
      go (some L) = refl

  -- An empty ledger repeats nothing.
  pub empty-fresh : (M : List Step) → read_ledger l ≡ some [] → read_ledger m ≡ some M → r ≡ Ok false
  unfolding last_step
  empty-fresh M x y = e ∙ ap₂ repeat_test x y

  -- The answer does not depend on which ledger is named first.
  pub symmetric : {q : Result Bool Refusal} → q ≡ repeat_test (read_ledger m) (read_ledger l) → r ≡ q
  symmetric {q} f = e ∙ tests (read_ledger l) (read_ledger m) ∙ sym f
    where
      ends : (o p : Option Step) → end_alike o p ≡ end_alike p o
      ends none none = refl
      ends none (some t) = refl
      ends (some s) none = refl
      ends (some s) (some t) = decide-same (same_claim? s.judgement t.judgement) (same_claim? t.judgement s.judgement) same_back same_back

      tests : (o p : Option (List Step)) → repeat_test o p ≡ repeat_test p o
      tests none none = refl
      tests none (some M) = refl
      tests (some L) none = refl
      tests (some L) (some M) = ap Ok (ends (last_step L) (last_step M))

  -- What repeats a repeat repeats the first.
  pub transitive : (n : List ℕ) {q p : Result Bool Refusal} → q ≡ repeat_test (read_ledger m) (read_ledger n) → p ≡ repeat_test (read_ledger l) (read_ledger n) → r ≡ Ok true → q ≡ Ok true → p ≡ Ok true
  transitive n {q} {p} f g x y =
      let a = test-alike l m (sym e ∙ x) in
      let b = test-alike m n (sym f ∙ y) in
      let s = subst (SameClaim a.j) (ends-one a.right b.left) a.same in
      g ∙ alike-test l n (record { j = a.j; k = b.k; left = a.left; right = b.right; same = same-on s b.same })

-- A ledger repeats itself exactly where it ends in an entails step.
module _ (l : List ℕ) {r : Result Bool Refusal} (e : r ≡ repeat_test (read_ledger l) (read_ledger l)) where
  pub self-claims : r ≡ Ok true → (j : Judgement) × EndsIn l j × (predicate j ≡ p_entails)
  self-claims h = let q = test-alike l l (sym e ∙ h) in (q.j, q.left, q.same.left)

  pub claims-self : {j : Judgement} → EndsIn l j → predicate j ≡ p_entails → r ≡ Ok true
  claims-self {j} x p = e ∙ alike-test l l (record { j = j; k = j; left = x; right = x; same = same_self p })
