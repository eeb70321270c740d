-- The walk over a formula that has still to be told from other bytes: how far it has come, and what it has counted.
use Rattle.std.specs.Prelude.{ℕ, zero, suc, ◌+◌, ◌-◌, max, List, [], ◌∷◌, length, drop, Option, Some, None}
use Rattle.formula.specs.Bytes.{Tree, encode, Got, nothing, got, then, read, nodes, bound}
use Rattle.formula.specs.Answers.{step_of}
use Rattle.formula.specs.declared.Sort.{Sort}
use Rattle.formula.specs.declared.Advance.{Advance}
use Rattle.formula.specs.declared.Advance.TheVariants.{Leaf, Lit, One, Two, Stuck}

pub record Walk : Type 0 where
  pub at : ℕ
  pub pending : ℕ
  pub nodes : ℕ
  pub bound : ℕ

-- a step counted
abbrev pub counted : Walk → Advance → Option Walk
counted w (Leaf q) = Some (record { at = q.at; pending = q.pending; nodes = w.nodes + 1; bound = w.bound })
counted w (Lit q n) = Some (record { at = q.at; pending = q.pending; nodes = w.nodes + 1; bound = max w.bound (n + 1) })
counted w (One q) = Some (record { at = q.at; pending = q.pending; nodes = w.nodes + 1; bound = w.bound })
counted w (Two q) = Some (record { at = q.at; pending = q.pending; nodes = w.nodes + 1; bound = w.bound })
counted w Stuck = None

abbrev pub turn_of : Sort → List ℕ → Walk → Option Walk
turn_of s l w = counted w (step_of s l w.at w.pending)

-- p formulas off the front of a list
unfoldable pub read_row : (s : Sort) → ℕ → List ℕ → Got (List (Tree s))
read_row s zero l = got [] l
read_row s (suc p) l = then (read s l) (λ t m. then (read_row s p m) (λ ts. got (t ∷ ts)))

-- a walk past one formula, and past several
abbrev pub over_tree : (s : Sort) → Walk → Tree s → Walk
over_tree s w t = record { at = w.at + length (encode s t); pending = w.pending - 1; nodes = w.nodes + nodes s t; bound = max w.bound (bound s t) }

unfoldable pub passed : (s : Sort) → Walk → List (Tree s) → Walk
passed s w [] = w
passed s w (t ∷ ts) = passed s (over_tree s w t) ts

abbrev pub finish : (s : Sort) → Walk → Got (List (Tree s)) → Option Walk
finish s w nothing = None
finish s w (got ts l) = Some (passed s w ts)

unfoldable pub walked_at : Sort → List ℕ → ℕ → Option Walk
walked_at s l at = finish s (record { at = at; pending = 1; nodes = 0; bound = 0 }) (read_row s 1 (drop at l))
