use Rattle.contexts.proofs.MoveLaws.{face-some, compound-none, compound-here, compound-there, compound-nowhere}
use Rattle.contexts.proofs.moves.+first_compound.Goals as goal

pub returns-in_err-x : goal.returns-in_err-x
returns-in_err-x t c = rw c.from_residual.ensures (compound-none c.in_err-x.ensures)

pub bounds-x-0 : goal.bounds-x-0
bounds-x-0 t c = face-some c.in_ok-x.ensures.face

pub returns-then-compound : goal.returns-then-compound
returns-then-compound t c = compound-here c.in_ok-x.ensures c.if-compound.true

pub returns-in_err-i : goal.returns-in_err-i
returns-in_err-i t c = rw c.from_residual-in_err-i.ensures (compound-nowhere c.in_ok-x.ensures c.if-compound.false c.in_err-i.ensures)

pub returns : goal.returns
returns t c = compound-there c.in_ok-x.ensures c.if-compound.false c.in_ok-i.ensures
