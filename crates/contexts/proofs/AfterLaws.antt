-- One step after a run, after two, and after three.
use Prim.Native.Nat.{ℕ, ◌<◌}
use native.Mathlib.Omega.{arith}
use mathlib.Core.Path.{◌≡◌, refl, sym, subst, subst₂}
use mathlib.Core.Bool.{true, false}
use mathlib.Core.List.{List, [], ◌∷◌}
use lib.ListN.{length}
use Rattle.calculus.specs.Judgement.{Judgement}
use Rattle.calculus.specs.Rules.{Rule}
use Rattle.calculus.specs.Record.{operand_bytes}
use Rattle.calculus.specs.Emit.{Program, emit, ◌>>=◌}
use Rattle.calculus.proofs.Growing.{Limited}
use Rattle.ledger.specs.Ledger.{steps_of}
use Rattle.steps.specs.Running.{Ran, Book, done_by, step_by, Runs, Emits}
use Rattle.steps.proofs.RunLaws.{runs-next, runs-stop, runs-below, runs-more, emits-by}

-- A step of this kind and judgement that refers to step i.
abbrev pub after : ℕ → Judgement → ℕ → Program
after kind j i = emit kind (i ∷ []) j

-- A program that runs p, and then emits such a step.
module _ {p q : Program} {kind : ℕ} {j : Judgement} (e : q ≡ (p >>= after kind j)) {l l₁ : Book} {r : Ran} (h : Runs l p r l₁) where
  pub after_stop : done_by r ≡ false → Runs l q r l₁
  after_stop d = subst (λ (x : Program). Runs l x r l₁) (sym e) (runs-stop (after kind j) h d)

  pub after-up : {l₂ : Book} {o : List ℕ} {s : Ran} {i : ℕ} {k : Judgement} → done_by r ≡ true → i ≡ step_by r → Rule kind (k ∷ []) j → Limited j → operand_bytes j ≡ o → Emits l₁ kind (i ∷ 0 ∷ 0 ∷ []) o s l₂ → Runs l q s l₂
  after-up {l₂} {o} {s} {i} d n u m b t =
      subst (λ (x : Program). Runs l x s l₂) (sym e)
      (runs-next (after kind j) h d (emits-by (subst (λ (x : ℕ). Emits l₁ kind (x ∷ 0 ∷ 0 ∷ []) o s l₂) n t) u (step_by r ∷ []) refl (runs-below h d, tt) m refl b))

-- A program that runs p and q, and then emits a step that refers to both.
abbrev pub after_two : Program → Program → ℕ → Judgement → Program
after_two p q kind j = p >>= (λ a. q >>= (λ b. emit kind (a ∷ b ∷ []) j))

module _ {p t : Program} {kind : ℕ} {j : Judgement} (q : Program) (e : t ≡ after_two p q kind j) {l l₁ : Book} {r : Ran} (h : Runs l p r l₁) where
  pub two-stop : done_by r ≡ false → Runs l t r l₁
  two-stop d = subst (λ (x : Program). Runs l x r l₁) (sym e) (runs-stop (λ a. q >>= (λ b. emit kind (a ∷ b ∷ []) j)) h d)

  module _ (d : done_by r ≡ true) {l₂ : Book} {s : Ran} (h₂ : Runs l₁ q s l₂) where
    pub two-stop-2 : done_by s ≡ false → Runs l t s l₂
    two-stop-2 f =
        subst (λ (x : Program). Runs l x s l₂) (sym e)
        (runs-next (λ a. q >>= (λ b. emit kind (a ∷ b ∷ []) j)) h d (runs-stop (λ b. emit kind (step_by r ∷ b ∷ []) j) h₂ f))

    pub two_up : {l₃ : Book} {o : List ℕ} {c : Ran} {m n : ℕ} {u v : Judgement} → done_by s ≡ true → m ≡ step_by r → n ≡ step_by s → Rule kind (u ∷ v ∷ []) j → Limited j → operand_bytes j ≡ o
        → Emits l₂ kind (m ∷ n ∷ 0 ∷ []) o c l₃ → Runs l t c l₃
    two_up {l₃} {o} {c} f m n w i b x =
        let y : Emits l₂ kind (step_by r ∷ step_by s ∷ 0 ∷ []) o c l₃ = subst₂ (λ (a z : ℕ). Emits l₂ kind (a ∷ z ∷ 0 ∷ []) o c l₃) m n x in
        let z : step_by r < length (steps_of l₂.bytes) = omega (arith, runs-below h d, runs-more h₂) in
        subst (λ (x : Program). Runs l x c l₃) (sym e)
        (runs-next (λ a. q >>= (λ b. emit kind (a ∷ b ∷ []) j)) h d
        (runs-next (λ b. emit kind (step_by r ∷ b ∷ []) j) h₂ f (emits-by y w (step_by r ∷ step_by s ∷ []) refl (z, (runs-below h₂ f, tt)) i refl b)))

-- A program that runs p, q₁ and q₂, and then emits a step that refers to all three.
abbrev pub after-three : Program → Program → Program → ℕ → Judgement → Program
after-three p q₁ q₂ kind j = p >>= (λ a. q₁ >>= (λ b. q₂ >>= (λ c. emit kind (a ∷ b ∷ c ∷ []) j)))

module _ {p t : Program} {kind : ℕ} {j : Judgement} (q₁ q₂ : Program) (e : t ≡ after-three p q₁ q₂ kind j) {l l₁ : Book} {r : Ran} (h : Runs l p r l₁) where
  pub three-stop : done_by r ≡ false → Runs l t r l₁
  three-stop d = subst (λ (x : Program). Runs l x r l₁) (sym e) (runs-stop (λ a. q₁ >>= (λ b. q₂ >>= (λ c. emit kind (a ∷ b ∷ c ∷ []) j))) h d)

  module _ (d : done_by r ≡ true) {l₂ : Book} {s : Ran} (h₂ : Runs l₁ q₁ s l₂) where
    pub three-stop-2 : done_by s ≡ false → Runs l t s l₂
    three-stop-2 f =
        subst (λ (x : Program). Runs l x s l₂) (sym e)
        (runs-next (λ a. q₁ >>= (λ b. q₂ >>= (λ c. emit kind (a ∷ b ∷ c ∷ []) j))) h d (runs-stop (λ b. q₂ >>= (λ c. emit kind (step_by r ∷ b ∷ c ∷ []) j)) h₂ f))

    module _ (f : done_by s ≡ true) {l₃ : Book} {v : Ran} (h₃ : Runs l₂ q₂ v l₃) where
      pub three-stop-3 : done_by v ≡ false → Runs l t v l₃
      three-stop-3 i =
          subst (λ (x : Program). Runs l x v l₃) (sym e)
          (runs-next (λ a. q₁ >>= (λ b. q₂ >>= (λ c. emit kind (a ∷ b ∷ c ∷ []) j))) h d
          (runs-next (λ b. q₂ >>= (λ c. emit kind (step_by r ∷ b ∷ c ∷ []) j)) h₂ f (runs-stop (λ c. emit kind (step_by r ∷ step_by s ∷ c ∷ []) j) h₃ i)))

      pub three_up : {l₄ : Book} {o : List ℕ} {c : Ran} {x y z : ℕ} {u₁ u₂ u₃ : Judgement} → done_by v ≡ true → x ≡ step_by r → y ≡ step_by s → z ≡ step_by v → Rule kind (u₁ ∷ u₂ ∷ u₃ ∷ []) j → Limited j → operand_bytes j ≡ o
          → Emits l₃ kind (x ∷ y ∷ z ∷ []) o c l₄ → Runs l t c l₄
      three_up {l₄} {o} {c} {x} {y} {z} i ex ey ez w m b k =
          let k₁ : Emits l₃ kind (step_by r ∷ step_by s ∷ z ∷ []) o c l₄ = subst₂ (λ (a b : ℕ). Emits l₃ kind (a ∷ b ∷ z ∷ []) o c l₄) ex ey k in
          let k₂ : Emits l₃ kind (step_by r ∷ step_by s ∷ step_by v ∷ []) o c l₄ = subst (λ (a : ℕ). Emits l₃ kind (step_by r ∷ step_by s ∷ a ∷ []) o c l₄) ez k₁ in
          let y₁ : step_by r < length (steps_of l₃.bytes) = omega (arith, runs-below h d, runs-more h₂, runs-more h₃) in
          let y₂ : step_by s < length (steps_of l₃.bytes) = omega (arith, runs-below h₂ f, runs-more h₃) in
          subst (λ (x : Program). Runs l x c l₄) (sym e)
          (runs-next (λ a. q₁ >>= (λ b. q₂ >>= (λ c. emit kind (a ∷ b ∷ c ∷ []) j))) h d
          (runs-next (λ b. q₂ >>= (λ c. emit kind (step_by r ∷ b ∷ c ∷ []) j)) h₂ f
          (runs-next (λ c. emit kind (step_by r ∷ step_by s ∷ c ∷ []) j) h₃ i
          (emits-by k₂ w (step_by r ∷ step_by s ∷ step_by v ∷ []) refl (y₁, (y₂, (runs-below h₃ i, tt))) m refl b))))
