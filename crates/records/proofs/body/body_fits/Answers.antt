use Rattle.std.proofs.Common.{sym}
use Rattle.records.proofs.BodyLaws.{body-readable}
use Rattle.records.proofs.body.body_fits.Goals as goal

pub returns-in_default : goal.returns-in_default
returns-in_default c = sym (body-readable c.args.i c.args.s.now c.in_default.ensures)

pub returns : goal.returns
returns c = sym (body-readable c.args.i c.args.s.now c.in-Some.ensures)
