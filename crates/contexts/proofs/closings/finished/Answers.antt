use native.Mathlib.Omega.{arith}
use mathlib.Core.Path.{sym, ap}
use Prim.Native.Nat.{ℕ}
use lib.ListN.{length, replicate, length-replicate}
use lib.Seq.{length-sets, length-take-le}
use Rattle.ledger.specs.Ledger.{steps_of}
use Rattle.steps.proofs.TreeLaws.{is-short}
use Rattle.contexts.proofs.ContextLaws.{context-short}
use Rattle.contexts.proofs.ClosingLaws.{cover-written, cover-known}
use Rattle.contexts.proofs.closings.finished.Goals as goal

pub overflow_add-m : goal.overflow_add-m
overflow_add-m c = omega (arith, context-short c.args.g.sound, is-short c.requires.1)

pub copy-requires-2 : goal.copy-requires-2
copy-requires-2 c = omega (arith, context-short c.args.g.sound, ap length c.copy.ensures, length-sets (replicate 2048 0) 0 c.count_field.result, length-replicate {A = ℕ} 2048 0)

pub copy-requires-3 : goal.copy-requires-3
copy-requires-3 c = omega (arith, context-short c.args.g.sound, is-short c.requires.1, ap length c.copy-2.ensures, ap length c.copy.ensures, length-sets c.copy.new.out 2 c.args.g.faces.now, length-sets (replicate 2048 0) 0 c.count_field.result, length-replicate {A = ℕ} 2048 0)

pub slice_bounds-operands-end : goal.slice_bounds-operands-end
slice_bounds-operands-end c = (cover-written c.args.g.sound c.requires.1 c.count_field.ensures (replicate 2048 0) _ _ _ (omega (arith, length-replicate {A = ℕ} 2048 0)) c.copy.ensures c.copy-2.ensures c.copy-3.ensures).0

pub slice_bounds-finished-end : goal.slice_bounds-finished-end
slice_bounds-finished-end c = sym (length-take-le _ _ (cover-written c.args.g.sound c.requires.1 c.count_field.ensures (replicate 2048 0) _ _ _ (omega (arith, length-replicate {A = ℕ} 2048 0)) c.copy.ensures c.copy-2.ensures c.copy-3.ensures).0)

pub returns : goal.returns
returns c = cover-known c.args.g.sound c.requires.1 (steps_of c.args.l.now) _ c.finished.result (sym (cover-written c.args.g.sound c.requires.1 c.count_field.ensures (replicate 2048 0) _ _ _ (omega (arith, length-replicate {A = ℕ} 2048 0)) c.copy.ensures c.copy-2.ensures c.copy-3.ensures).1) c.finished.ensures

pub finished-requires : goal.finished-requires
finished-requires c = c.requires.0
