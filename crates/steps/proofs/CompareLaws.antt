-- Comparisons, step by step.
use Prim.Native.Nat.{ℕ, zero, suc, ◌-◌, ◌≤◌, ◌<◌}
use native.Mathlib.Omega.{arith}
use mathlib.Core.Path.{◌≡◌, refl, sym, ap₂, subst, subst₂}
use mathlib.Core.List.{[], ◌∷◌, ◌++◌}
use Rattle.formula.specs.Bytes.{dim_bytes}
use Rattle.calculus.specs.Rules
use Rattle.calculus.specs.Rules.{Rule}
use Rattle.calculus.specs.Record.{operand_bytes}
use Rattle.calculus.proofs.Growing.{Limited}
use Rattle.calculus.specs.Emit.{not-below, Program, emit, ◌>>=◌}
use Rattle.calculus.specs.Calls.{Order, less, at_most, compared, from_zero, compared_kind, emit_comparison}
use Rattle.calculus.proofs.Ends.{compared-s}
use Rattle.std.specs.Prelude.{Ok, Err}
use Rattle.steps.specs.declared.Stop.{Stop}
use Rattle.steps.specs.declared.Stop.TheVariants.{NotBelow}
use Rattle.steps.specs.Running.{Ran, Book, Kept, Runs, Emits}
use Rattle.steps.proofs.RunLaws.{runs-failure, runs-next, runs-stop, runs-below, emits-by}

-- The kind of the rule from zero.
abbrev pub zero_kind : Order → ℕ
zero_kind less = 1
zero_kind at_most = 3

-- From zero, by rule z.
pub from-zero : {l l' : Book} {r : Ran} (o : Order) (n : ℕ) → n ≤ 255 → (o ≡ less → n ≡ 0 → ⊥) → Emits l (zero_kind o) (0 ∷ 0 ∷ 0 ∷ []) (dim_bytes 0 ++ dim_bytes n) r l' → Runs l (from_zero o n) r l'
from-zero at_most n b c h = emits-by h Rules.le-z [] refl tt (omega arith, (b, tt)) refl refl
from-zero less zero b c h = absurd (c refl refl)
from-zero less (suc n) b c h = emits-by h Rules.lt-z [] refl tt (omega arith, (b, tt)) refl refl

pub zero-not-less : {l : Book} → Kept l → (o : Order) (n : ℕ) → o ≡ less → n ≡ 0 → Runs l (from_zero o n) (Err NotBelow) l
zero-not-less {l} h o n e f = subst₂ (λ (s : Order) (k : ℕ). Runs l (from_zero s k) (Err NotBelow) l) (sym e) (sym f) (runs-failure h not-below)

-- A comparison by its first number.
pub compare-zero : {l l' : Book} {r : Ran} (o : Order) (m n : ℕ) → m ≡ 0 → Runs l (from_zero o n) r l' → Runs l (emit_comparison o m n) r l'
unfolding emit_comparison
compare-zero {l} {l'} {r} o m n e h = subst (λ (k : ℕ). Runs l (emit_comparison o k n) r l') (sym e) h

pub compare-never : {l : Book} → Kept l → (o : Order) (m n : ℕ) → (m ≡ 0 → ⊥) → n ≡ 0 → Runs l (emit_comparison o m n) (Err NotBelow) l
unfolding emit_comparison
compare-never {l} h o zero n e f = absurd (e refl)
compare-never {l} h o (suc m) n e f = subst (λ (k : ℕ). Runs l (emit_comparison o (suc m) k) (Err NotBelow) l) (sym f) (runs-failure h not-below)

up : Order → ℕ → ℕ → ℕ → Program
up o m n i = emit (compared_kind o) (i ∷ []) (compared o m n)

-- One up: the comparison of the numbers below, and rule s.
up-program : (o : Order) (m n : ℕ) → (m ≡ 0 → ⊥) → (n ≡ 0 → ⊥) → emit_comparison o m n ≡ (emit_comparison o (m - 1) (n - 1) >>= up o m n)
unfolding emit_comparison up
up-program o zero n e f = absurd (e refl)
up-program o (suc m) zero e f = absurd (f refl)
up-program o (suc m) (suc n) e f =
    let a : m ≡ suc m - 1 = omega arith in
    let b : n ≡ suc n - 1 = omega arith in
    ap₂ (λ (x y : ℕ). emit_comparison o x y >>= up o (suc m) (suc n)) a b

pub compare-stop : {l l₁ : Book} {x : Stop} (o : Order) (m n : ℕ) → (m ≡ 0 → ⊥) → (n ≡ 0 → ⊥) → Runs l (emit_comparison o (m - 1) (n - 1)) (Err x) l₁ → Runs l (emit_comparison o m n) (Err x) l₁
compare-stop {l} {l₁} {x} o m n e f h = subst (λ (p : Program). Runs l p (Err x) l₁) (sym (up-program o m n e f)) (runs-stop (up o m n) h refl)

limited : (o : Order) (m n : ℕ) → m ≤ 255 → n ≤ 255 → Limited (compared o m n)
limited less m n a b = (a, (b, tt))
limited at_most m n a b = (a, (b, tt))

bytes : (o : Order) (m n : ℕ) → operand_bytes (compared o m n) ≡ dim_bytes m ++ dim_bytes n
bytes less m n = refl
bytes at_most m n = refl

rule : (o : Order) (m n : ℕ) → (m ≡ 0 → ⊥) → (n ≡ 0 → ⊥) → Rule (compared_kind o) (compared o (m - 1) (n - 1) ∷ []) (compared o m n)
rule o zero n e f = absurd (e refl)
rule o (suc m) zero e f = absurd (f refl)
rule o (suc m) (suc n) e f =
    let a : m ≡ suc m - 1 = omega arith in
    let b : n ≡ suc n - 1 = omega arith in
    subst₂ (λ (x y : ℕ). Rule (compared_kind o) (compared o x y ∷ []) (compared o (suc m) (suc n))) a b (compared-s o m n)

pub compare-up : {l l₁ l₂ : Book} {s : Ran} {i : ℕ} (o : Order) (m n : ℕ) → (m ≡ 0 → ⊥) → (n ≡ 0 → ⊥) → m ≤ 255 → n ≤ 255 → Runs l (emit_comparison o (m - 1) (n - 1)) (Ok i) l₁
    → Emits l₁ (compared_kind o) (i ∷ 0 ∷ 0 ∷ []) (dim_bytes m ++ dim_bytes n) s l₂ → Runs l (emit_comparison o m n) s l₂
unfolding up
compare-up {l} {l₂ = l₂} {s} {i} o m n e f a b h g =
    subst (λ (p : Program). Runs l p s l₂) (sym (up-program o m n e f))
    (runs-next (up o m n) h refl (emits-by g (rule o m n e f) (i ∷ []) refl (runs-below h refl, tt) (limited o m n a b) refl (bytes o m n)))

-- Neither the same nor below.
pub above : (n k : ℕ) → (n ≡ k → ⊥) → k ≤ n → k < n
above n k e h = omega (arith, e, h)

pub not-less : {A : Type 0} → at_most ≡ less → A
not-less e = absurd (let z : ◌≡◌ {A = ℕ} 0 1 = cc in omega arith)
