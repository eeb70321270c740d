use mathlib.Core.Path.{sym, ◌∙◌}
use borrow.Author.Tests.{ltb-true, ltb-false}
use Rattle.clauses.specs.Words.{words}
use Rattle.dnf.proofs.FormLaws.{formed-none, formed-few, formed-large, formed-prints, formed-done}
use Rattle.dnf.proofs.forming.formed.Goals as goal

pub returns-in_err-found : goal.returns-in_err-found
returns-in_err-found c = rw c.from_residual.ensures (formed-none (words c.args.mask) c.args.numbers.now c.args.f.now c.in_err-found.ensures.finds)

pub nodes-requires : goal.nodes-requires
nodes-requires c = formed-few (words c.args.mask) c.args.numbers.now c.args.f.now c.in_ok-found.ensures.finds c.requires

pub returns-then-large : goal.returns-then-large
returns-then-large c = formed-large (words c.args.mask) c.args.numbers.now c.args.f.now c.in_ok-found.ensures.finds c.requires c.nodes.ensures (ltb-true 511 c.nodes.result (sym c.large.ensures ∙ c.if-large.true))

pub write-requires : goal.write-requires
write-requires c = formed-prints (words c.args.mask) c.args.numbers.now c.args.f.now c.in_ok-found.ensures.finds c.requires c.nodes.ensures (ltb-false 511 c.nodes.result (sym c.large.ensures ∙ c.if-large.false))

pub returns : goal.returns
returns c = formed-done (words c.args.mask) c.args.numbers.now c.args.f.now c.in_ok-found.ensures.finds c.requires c.nodes.ensures (ltb-false 511 c.nodes.result (sym c.large.ensures ∙ c.if-large.false)) c.write.ensures
