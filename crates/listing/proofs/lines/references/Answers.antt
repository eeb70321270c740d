use Rattle.std.proofs.Common.{ap, sym, ◌∙◌, arith}
use Rattle.writing.specs.Texts.{decimal_text}
use Rattle.writing.proofs.WriteLaws.{room_as, wrote_as, writes-none}
use Rattle.listing.specs.Lines.{references_text}
use Rattle.listing.specs.Writing.{step_of}
use Rattle.listing.proofs.LineLaws.{comma-room, decimal-room, reference-wrote}
use Rattle.listing.proofs.lines.references.Goals as goal

pub loop-j-init : goal.loop-j-init
unfolding references_text
loop-j-init c = writes-none

pub comma-requires : goal.comma-requires
comma-requires c = comma-room (step_of c.args.l.now c.args.c.step).references c.loop-j.j (omega (arith, c.loop-j-test.true, c.entry-entry.ensures.0)) c.requires.room c.loop-j.invariant.wrote

pub decimal-requires : goal.decimal-requires
decimal-requires c = room_as (ap decimal_text (sym c.reference.ensures)) (decimal-room (step_of c.args.l.now c.args.c.step).references c.loop-j.j (omega (arith, c.loop-j-test.true, c.entry-entry.ensures.0)) c.requires.room c.loop-j.invariant.wrote c.comma.ensures.wrote)

pub loop-j-preserved : goal.loop-j-preserved
loop-j-preserved c = record { wrote = reference-wrote (step_of c.args.l.now c.args.c.step).references c.loop-j.j (omega (arith, c.loop-j-test.true, c.entry-entry.ensures.0)) c.requires.room c.loop-j.invariant.wrote c.comma.ensures.wrote (wrote_as (ap decimal_text c.reference.ensures) c.decimal.ensures.wrote); same = c.decimal.ensures.same ∙ c.comma.ensures.same ∙ c.loop-j.invariant.same }
