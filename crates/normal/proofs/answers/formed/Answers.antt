use native.Mathlib.Omega.{arith}
use Prim.Native.Nat.{ℕ}
use mathlib.Core.Path.{sym}
use lib.ListN.{length-replicate}
use lib.Seq.{length-take-le}
use Rattle.std.proofs.lemmas.Result.{err_from_is_err_and}
use Rattle.normal.proofs.AnswerLaws.{whole_room, formed-none, formed-fits, formed-face, formed-gives}
use Rattle.normal.proofs.answers.formed.Goals as goal

pub form-requires : goal.form-requires
form-requires c = whole_room c.requires (omega (arith, length-replicate {A = ℕ} 1024 0))

pub slice_bounds-form-end-2 : goal.slice_bounds-form-end-2
slice_bounds-form-end-2 c = formed-fits (rw c.in_ok-n.ensures.ok_part at c.form.ensures) c.requires (omega (arith, length-replicate {A = ℕ} 1024 0))

pub slice_bounds-deliver-end : goal.slice_bounds-deliver-end
slice_bounds-deliver-end c = sym (length-take-le c.in_ok-n.n c.form.new.out (formed-fits (rw c.in_ok-n.ensures.ok_part at c.form.ensures) c.requires (omega (arith, length-replicate {A = ℕ} 1024 0))))

pub deliver-requires : goal.deliver-requires
deliver-requires c = formed-face (rw c.in_ok-n.ensures.ok_part at c.form.ensures) c.requires (omega (arith, length-replicate {A = ℕ} 1024 0))

pub returns-in_err-n : goal.returns-in_err-n
returns-in_err-n c = let p = err_from_is_err_and c.from_residual.result c.from_residual.ensures.1 in rw (p.1, p.2) (formed-none (rw c.in_err-n.ensures.ok_part at c.form.ensures) (rw c.in_err-n.ensures.ok_part at c.in_err-n.ensures.value))

pub returns : goal.returns
returns c = formed-gives (rw c.in_ok-n.ensures.ok_part at c.form.ensures) (omega (arith, length-replicate {A = ℕ} 1024 0)) c.deliver.ensures
