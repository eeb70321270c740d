use Rattle.std.proofs.Common.{sym, ap, [], ◌∷◌}
use Rattle.writing.specs.Texts.{unary_text}
use Rattle.writing.proofs.WriteLaws.{room-first, room_next, room_as, writes-next, writes-as}
use Rattle.writing.proofs.FormulaLaws.{seen, lit-room, lit-prints, fronts-long}
use Rattle.writing.proofs.Writer.literal.Goals as goal

pub returns : goal.returns
returns c =
    let h = writes-next c.begin.ensures (writes-next (writes-as (ap unary_text c.dim_at-n.ensures.0) c.unary.ensures) c.put_byte.ensures) in
    record { prints = lit-prints c.args.sort c.args.f.now c.requires.1 h.wrote; same = h.same }

pub bounds-f-0 : goal.bounds-f-0
bounds-f-0 c = fronts-long c.args.sort c.args.f.now c.requires.0

pub begin-requires : goal.begin-requires
begin-requires c = ((seen c.args.sort c.args.f.now c.requires.1 c.requires.0).names, room-first _ _ (lit-room c.args.sort c.args.f.now c.requires.1 c.requires.0))

pub dim_at-n-requires : goal.dim_at-n-requires
dim_at-n-requires c = (seen c.args.sort c.args.f.now c.requires.1 c.requires.0).long

pub unary-requires : goal.unary-requires
unary-requires c = room_as (ap unary_text (sym c.dim_at-n.ensures.0)) (room-first _ (41 ∷ []) (room_next _ (lit-room c.args.sort c.args.f.now c.requires.1 c.requires.0) c.begin.ensures.wrote))

pub put_byte-requires : goal.put_byte-requires
put_byte-requires c = let h = writes-as (ap unary_text c.dim_at-n.ensures.0) c.unary.ensures in room_next (41 ∷ []) (room_next _ (lit-room c.args.sort c.args.f.now c.requires.1 c.requires.0) c.begin.ensures.wrote) h.wrote
