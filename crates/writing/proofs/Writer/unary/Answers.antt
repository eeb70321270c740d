use Rattle.std.proofs.Common.{refl, sym, ap, ◌+◌, [], ◌∷◌, arith}
use Rattle.writing.specs.Texts.{unary_text}
use Rattle.writing.proofs.WriteLaws.{room-first, room_next, room_as, writes-next, writes-as, wrote-beyond, wrote-to}
use Rattle.writing.proofs.NumberLaws.{unary-split, unary-length}
use Rattle.writing.proofs.Writer.unary.Goals as goal

pub returns-then-self-to : goal.returns-then-self-to
returns-then-self-to c =
    let w = c.args.self.now in
    record { wrote = wrote-to (ap (λ k. w.to + k) (unary-length c.args.n)) (wrote-beyond (unary_text c.args.n) w.out.now w.to c.if-self-to.true); same = refl }

pub returns : goal.returns
returns c = writes-as (unary-split c.args.n) (writes-next c.put_times.ensures (writes-next c.put_byte.ensures c.put_times-2.ensures))

pub overflow_mul-self : goal.overflow_mul-self
overflow_mul-self c = record { fits = omega (arith, c.requires.fits, unary-length c.args.n) }

pub overflow_add-self : goal.overflow_add-self
overflow_add-self c = record { fits = omega (arith, c.requires.fits, unary-length c.args.n) }

pub overflow_add-self-then-self-to : goal.overflow_add-self-then-self-to
overflow_add-self-then-self-to c = record { fits = omega (arith, c.requires.fits, unary-length c.args.n) }

pub put_times-requires : goal.put_times-requires
put_times-requires c = room-first _ _ (room_as (sym (unary-split c.args.n)) c.requires)

pub put_byte-requires : goal.put_byte-requires
put_byte-requires c = room-first (122 ∷ []) _ (room_next _ (room_as (sym (unary-split c.args.n)) c.requires) c.put_times.ensures.wrote)

pub put_times-requires-2 : goal.put_times-requires-2
put_times-requires-2 c = room_next _ (room_next {x = _} (122 ∷ _) (room_as (sym (unary-split c.args.n)) c.requires) c.put_times.ensures.wrote) c.put_byte.ensures.wrote
