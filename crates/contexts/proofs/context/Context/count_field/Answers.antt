use mathlib.Core.Path.{◌≡◌, ap}
use mathlib.Core.List.{[], ◌∷◌}
use Prim.Native.Nat.{ℕ, ◌/◌, ◌%◌}
use native.Mathlib.Omega.{arith}
use Rattle.contexts.proofs.ContextLaws.{context-count}
use Rattle.contexts.proofs.context.Context.count_field.Goals as goal

pub overflow_cast-result-2 : goal.overflow_cast-result-2
overflow_cast-result-2 c = omega (arith, context-count c.args.self.sound)

pub returns : goal.returns
returns c =
    let n = c.args.self.count in
    let e : n / 256 ≡ n / 256 % 256 = omega (arith, context-count c.args.self.sound) in
    ap (λ (b : ℕ). n % 256 ∷ b ∷ []) e
