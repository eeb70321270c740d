use Rattle.std.proofs.Common.{ℕ, refl, sym, ap, ◌∙◌, take, arith}
use lib.Seq.{length-take-le}
use Rattle.std.proofs.lemmas.Result.{err_from_is_err_and}
use Rattle.claims.proofs.AskLaws.{line-front, line-short, read_as, asks-long, asks_none, asks-claim}
use Rattle.claims.proofs.asking.ask.Goals as goal

pub returns-then-long : goal.returns-then-long
returns-then-long c = asks-long c.args.input.now c.requires (omega (arith, c.if-long.true, c.line_length-n.ensures))

pub slice_bounds-read_claim-end : goal.slice_bounds-read_claim-end
slice_bounds-read_claim-end c = sym (length-take-le _ c.args.input.now (omega (arith, c.line_length-n.ensures, line-short c.args.input.now)))

pub slice_bounds-a-end : goal.slice_bounds-a-end
slice_bounds-a-end c = (read_as _ refl refl c.in_ok-claim.ensures).fits-left

pub slice_bounds-b-end : goal.slice_bounds-b-end
slice_bounds-b-end c = (read_as _ refl refl c.in_ok-claim.ensures).fits-right

pub returns : goal.returns
returns c = asks-claim c.args.input.now (omega (arith, c.if-long.false, c.line_length-n.ensures)) (ap (λ (n : ℕ). take n c.args.input.now) c.line_length-n.ensures ∙ line-front c.args.input.now) c.entails.result c.requires (read_as _ refl refl c.in_ok-claim.ensures) c.entails.ensures

pub returns-in_err-claim : goal.returns-in_err-claim
returns-in_err-claim c = let p = err_from_is_err_and c.from_residual.result c.from_residual.ensures.1 in rw (p.1, p.2) (asks_none c.args.input.now (omega (arith, c.if-long.false, c.line_length-n.ensures)) (ap (λ (n : ℕ). take n c.args.input.now) c.line_length-n.ensures ∙ line-front c.args.input.now) c.requires (read_as _ refl refl c.in_err-claim.ensures))
