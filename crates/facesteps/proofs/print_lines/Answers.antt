use Rattle.std.proofs.Common.{refl}
use Rattle.claims.proofs.PrintLaws.{among-start}
use Rattle.facesteps.proofs.print_lines.Goals as goal

pub loop-at-init : goal.loop-at-init
loop-at-init g c = (c.used-end.ensures, among-start c.requires.0, refl)
