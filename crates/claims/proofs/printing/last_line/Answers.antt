use Rattle.std.proofs.Common.{ℕ, sym, ap, [], ◌∷◌, ◌++◌}
use Rattle.calculus.specs.Table.{text_bytes}
use Rattle.writing.specs.Texts.{decimal_text}
use Rattle.writing.proofs.WriteLaws.{room_as, writes-as}
use Rattle.claims.proofs.PrintLaws.{verdict-room, verdict-writes}
use Rattle.claims.proofs.printing.last_line.Goals as goal

pub ending-requires : goal.ending-requires
unfolding text_bytes
ending-requires c = verdict-room c.in-Ok.is c.requires

pub ending-requires-in-Err : goal.ending-requires-in-Err
unfolding text_bytes
ending-requires-in-Err c = room_as (ap (λ (n : ℕ). text_bytes "refused " ++ (decimal_text n ++ (10 ∷ []))) (sym c.number.ensures)) (verdict-room c.in-Err.is c.requires)

pub returns-in-Ok : goal.returns-in-Ok
unfolding text_bytes
returns-in-Ok c = verdict-writes c.in-Ok.is c.ending.ensures

pub returns-in-Err : goal.returns-in-Err
unfolding text_bytes
returns-in-Err c = verdict-writes c.in-Err.is (writes-as (ap (λ (n : ℕ). text_bytes "refused " ++ (decimal_text n ++ (10 ∷ []))) c.number.ensures) c.ending-in-Err.ensures)
