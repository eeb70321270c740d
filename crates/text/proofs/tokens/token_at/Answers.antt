use Rattle.std.proofs.Common.{sym, ◌∙◌, arith}
use Rattle.text.proofs.ScanLaws.{at-inside, lexes-end, lexes-open, lexes-close, lexes-word}
use Rattle.text.proofs.tokens.token_at.Goals as goal

pub returns-then-at-text : goal.returns-then-at-text
returns-then-at-text c = lexes-end c.args.text.now c.requires c.span-at.ensures c.if-at-text.true

pub returns-in-Opening : goal.returns-in-Opening
returns-in-Opening c = lexes-open c.args.text.now c.requires c.span-at.ensures (omega (arith, at-inside c.args.text.now c.requires c.span-at.ensures, c.if-at-text.false)) (sym c.in-Opening.ensures)

pub returns-in-Closing : goal.returns-in-Closing
returns-in-Closing c = lexes-close c.args.text.now c.requires c.span-at.ensures (omega (arith, at-inside c.args.text.now c.requires c.span-at.ensures, c.if-at-text.false)) (sym c.in-Closing.ensures)

pub returns-in_default : goal.returns-in_default
returns-in_default c = lexes-word c.args.text.now c.requires c.span-at.ensures (omega (arith, at-inside c.args.text.now c.requires c.span-at.ensures, c.if-at-text.false)) (λ e. c.in_default.not-Opening (c.class_of.ensures ∙ e)) (λ e. c.in_default.not-Closing (c.class_of.ensures ∙ e)) c.span.ensures

pub bounds-text-at : goal.bounds-text-at
bounds-text-at c = omega (arith, at-inside c.args.text.now c.requires c.span-at.ensures, c.if-at-text.false)

pub span-requires : goal.span-requires
span-requires c = at-inside c.args.text.now c.requires c.span-at.ensures
