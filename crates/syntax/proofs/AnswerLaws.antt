-- Question 13, by the size of an operand and the pass over its depths.
use Rattle.std.specs.Prelude.{Err, Ok}
use Prim.Native.Nat.{ℕ, ◌≤◌, ◌<◌}
use native.Mathlib.Omega.{arith}
use mathlib.Core.Path.{◌≡◌, refl, sym, ap, ◌∙◌}
use mathlib.Core.Bool.{Bool, true, false, ◌&&◌}
use mathlib.Core.List.{List}
use lib.Dec.{leb}
use borrow.Author.Tests.{le-leb, lt-leb}
use Rattle.refusals.specs.declared.Refusal.{Refusal}
use Rattle.refusals.specs.declared.Refusal.TheVariants.{BeyondProducer}
use Rattle.refusals.specs.Refusals.{map, of_one}
use Rattle.formula.specs.Bytes.{Tree, nodes, bound}
use Rattle.formula.specs.Answers.{pick, size_of, operand, tree_of}
use Rattle.formula.specs.declared.Sort.{Sort}
use Rattle.formula.specs.declared.Size.{Size}
use Rattle.formula.proofs.Operands.{Fitted, sized-fits, sized-refused, Opened, opened}
use Rattle.passes.proofs.TokenLaws.{opened-whole}
use Rattle.syntax.specs.Syntax.{depth, max_depth, limited, counted}
use Rattle.syntax.specs.Depths.{Kept}
use Rattle.syntax.proofs.DepthLaws.{depth_low}

module _ {s : Sort} {l : List ℕ} {z : Size} (k : Kept s l z) where
  abbrev tree : Tree s
  tree = tree_of s l

  -- by the two tests
  tests : (t u : Bool) → leb (bound s tree) 33 ≡ t → leb (depth s tree) max_depth ≡ u → limited s tree ≡ pick (t && u) (Ok (nodes s tree)) (Err BeyondProducer)
  tests t u e f = rw (e, f)

  bound-is : bound s tree ≡ z.bound
  bound-is = ap (λ (y : Size). y.bound) k.size

  pub beyond-index : 33 < z.bound → Err BeyondProducer ≡ limited s tree
  beyond-index h = sym (tests false (leb (depth s tree) max_depth) (lt-leb (bound s tree) 33 (omega (arith, bound-is))) refl)

  module _ (h : z.bound ≤ 33) {r : Bool} (e : r ≡ leb (depth s tree) max_depth) where
    index_kept : leb (bound s tree) 33 ≡ true
    index_kept = le-leb (bound s tree) 33 (omega (arith, bound-is))

    pub within : r ≡ true → Ok z.nodes ≡ limited s tree
    within i = ap (λ (y : Size). Ok y.nodes) (sym k.size) ∙ sym (tests true true index_kept (sym e ∙ i))

    pub beyond-depth : r ≡ false → Err BeyondProducer ≡ limited s tree
    beyond-depth i = sym (tests true false index_kept (sym e ∙ i))

  -- A formula of few nodes is not deep.
  pub few-within : z.bound ≤ 33 → z.nodes ≤ 33 → Ok z.nodes ≡ limited s tree
  few-within h g = within h refl (le-leb (depth s tree) max_depth (omega (arith, depth_low s tree, ap (λ (y : Size). y.nodes) k.size)))

-- An operand that fits: it is kept, and question 13 is left.
module _ (s : Sort) (l : List ℕ) where
  module _ {z : Size} (e : Ok z ≡ map (size_of s) (operand s l)) where
    fitted : Fitted s (operand s l) z
    fitted = sized-fits s (operand s l) e

    is_open : Opened s l fitted.tree
    is_open = opened s l fitted.tree fitted.is

    pub fits_kept : Kept s l z
    fits_kept = record { whole = opened-whole s l fitted.tree is_open; size = ap (size_of s) is_open.tree ∙ fitted.size }

    pub fits-counted : limited s (tree_of s l) ≡ counted s l
    fits-counted = ap (limited s) is_open.tree ∙ ap (of_one (limited s)) (sym fitted.is)

  pub refused-counted : {q : Refusal} → Err q ≡ map (size_of s) (operand s l) → Err q ≡ counted s l
  refused-counted e = ap (of_one (limited s)) (sym (sized-refused s (operand s l) e))
