-- What the variables are bound to: what a store leaves, and what a comparison says.
use mathlib.Core.Path.{◌≡◌, refl, sym, ◌∙◌, subst}
use mathlib.Core.List.{List}
use Prim.Native.Nat.{ℕ, ◌+◌, ◌-◌, ◌≤◌, ◌<◌}
use native.Mathlib.Omega.{arith}
use native.Mathlib.Decide.{ℕ_discrete}
use borrow.Author.Tests.{lt-ltb, le-ltb, eq-eqb, ne_eqb}
use lib.ListN.{get_or}
use Rattle.std.specs.Prelude.{None}
use Rattle.calculus.proofs.Rows.{Env, put}
use Rattle.rules.specs.declared.slots.Bindings.{Bindings}
use Rattle.rules.specs.Matching.{bytes_of, Held, num, bytes, held_in, PartKnown, NumberKnown, Agrees}

-- A function with one value changed.
module _ {A : Type 0} (u : ℕ) (x : A) (f : ℕ → A) where
  pub put_same : put u x f u ≡ x
  put_same = rw (eq-eqb u u refl)

  pub put_other : (w : ℕ) → (w ≡ u → ⊥) → put u x f w ≡ f w
  put_other w d = rw (ne_eqb u w (λ e. d (sym e)))

  pub put_as : f u ≡ x → (w : ℕ) → put u x f w ≡ f w
  put_as e w = go (ℕ_discrete w u)
    where
      go : Dec (w ≡ u) → put u x f w ≡ f w
      go (yes p) = rw p (put_same ∙ sym e)
      go (no p) = put_other w p

-- What is known of a slot carries over to an equal value.
pub agrees-as : {l : List ℕ} {m : Bindings} {H K : ℕ → Held} → ((w : ℕ) → w < 32 → H w ≡ K w) → Agrees l m H → Agrees l m K
agrees-as {l} {m} e g = record {
  sizes = g.sizes;
  parts = λ u p. subst (PartKnown l (get_or m.parts u None)) (e u (omega arith)) (g.parts u p);
  numbers = λ v p. subst (NumberKnown (get_or m.numbers v None)) (e (v + 24) (omega arith)) (g.numbers v p);
}

-- A slot of the bytes, and of the numbers.
pub held_bytes : (E : Env) (u : ℕ) → u < 24 → held_in E u ≡ bytes (bytes_of E u)
held_bytes E u h = rw (lt-ltb u 24 h)

pub held_number : (E : Env) (u : ℕ) → 24 ≤ u → held_in E u ≡ num (E.num (u - 24))
held_number E u h = rw (le-ltb u 24 h)
