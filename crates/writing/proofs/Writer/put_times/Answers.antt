use Rattle.writing.specs.Writing.{times}
use Rattle.writing.proofs.WriteLaws.{times-room, writes-none, writes-more}
use Rattle.writing.proofs.Writer.put_times.Goals as goal

pub loop-i-init : goal.loop-i-init
unfolding times
loop-i-init c = writes-none

pub put-requires : goal.put-requires
put-requires c = times-room c.args.n c.loop-i.i c.args.x.now c.requires c.loop-i-test.true c.loop-i.invariant.wrote.end

pub loop-i-preserved : goal.loop-i-preserved
loop-i-preserved c = writes-more c.loop-i.i c.loop-i.invariant c.put.ensures
