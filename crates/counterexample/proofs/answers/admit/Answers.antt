use Rattle.counterexample.proofs.AskLaws.{large-faced, short-faced, beyond-faced, admitted-faced}
use Rattle.counterexample.proofs.answers.admit.Goals as goal

pub returns-then-d-gt255 : goal.returns-then-d-gt255
returns-then-d-gt255 c = large-faced c.requires c.if-d-gt255.true

pub returns-then-short : goal.returns-then-short
returns-then-short c = short-faced c.requires c.if-d-gt255.false c.if-short.true

pub returns-then-d-bound : goal.returns-then-d-bound
returns-then-d-bound c = beyond-faced c.requires c.if-d-gt255.false c.if-short.false c.if-d-bound.true

pub returns : goal.returns
returns c = admitted-faced c.requires c.if-d-gt255.false c.if-short.false c.if-d-bound.false c.search.ensures
