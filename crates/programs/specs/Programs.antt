-- The programs of the calls, by what is asked, and the formulas that they are given.
use Rattle.std.specs.Prelude.{◌≡◌, List, ℕ, ◌≤◌, ◌<◌}
use Rattle.formula.specs.declared.Sort.TheVariants.{Faces, Intervals}
use Rattle.formula.specs.Operations
use Rattle.formula.specs.Bytes.{encode}
use Rattle.formula.specs.Answers.{tree_of}
use Rattle.calculus.specs.Emit
use Rattle.calculus.specs.Calls.{transform, emit_entails, emit_endpoint, emit_boundary, emit_forall, emit_transform}
use Rattle.calculus.specs.Door.{end_of}
use Rattle.steps.specs.Trees.{Is, Known}
use Rattle.bounded_steps.specs.Programs.{emit_bounded}
use Rattle.boundary_steps.specs.Programs.{Sides}
use Rattle.transforms.specs.Transforms.{op_of, KnownOp}
use Rattle.programs.specs.declared.Program.{Program}
use Rattle.programs.specs.declared.Program.TheVariants.{Bounded, Entails, Endpoint, Boundary, Forall, Transform}

-- The program of what is asked about the formulas a and b.
abbrev pub program_of : Program → List ℕ → List ℕ → Emit.Program
program_of (Bounded s d) a b = emit_bounded s d (tree_of s a)
program_of (Entails d) a b = emit_entails d (tree_of Faces a) (tree_of Faces b)
program_of (Endpoint d one) a b = emit_endpoint d (tree_of Faces a) (tree_of Intervals b) (end_of one)
program_of Boundary a b = emit_boundary (tree_of Intervals a)
program_of (Forall k) a b = emit_forall k (tree_of Faces a)
program_of (Transform s o) a b = emit_transform s (op_of o b) (tree_of s a)

-- The formulas a and b keep the limits, and c and e are the results that the program speaks of.
abbrev pub Ready : Program → List ℕ → List ℕ → List ℕ → List ℕ → Type 0
Ready (Bounded s d) a b c e = Known s a × (d ≤ 255)
Ready (Entails d) a b c e = (d ≤ 255) × Known Faces a × Known Faces b
Ready (Endpoint d one) a b c e = (d ≤ 255) × Known Faces a × Known Intervals b × Sides b c e
Ready Boundary a b c e = Known Intervals a × Sides a c e
Ready (Forall k) a b c e = Known Faces a × (k < 255) × (c ≡ encode Faces (Operations.forall k (tree_of Faces a)))
Ready (Transform s o) a b c e = Known s a × KnownOp o b × Is s (transform s (op_of o b) (tree_of s a)) c
