use Rattle.std.proofs.Common.{sym, ap, ◌∙◌, [], get_or}
use lib.ListN.{get_or-map}
use Rattle.writing.proofs.WriteLaws.{room_as, writes-as}
use Rattle.listing.proofs.judgements.put_predicate.Goals as goal

pub put-requires : goal.put-requires
put-requires c = room_as (ap (λ l. get_or l c.args.predicate []) (sym c.predicate_names-names.ensures) ∙ get_or-map (λ x. x.now) c.predicate_names-names.result c.args.predicate _) c.requires.1

pub returns : goal.returns
returns c = writes-as (sym (get_or-map (λ x. x.now) c.predicate_names-names.result c.args.predicate _) ∙ ap (λ l. get_or l c.args.predicate []) c.predicate_names-names.ensures) c.put.ensures
