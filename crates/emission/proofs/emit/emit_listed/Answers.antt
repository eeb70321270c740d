use Rattle.std.proofs.Common.{arith, ◌<◌, ℕ, ap, ◌∙◌, subst}
use Rattle.emission.proofs.EmitLaws.{emit-found, emit-new, emit-full}
use Rattle.index.specs.Index.{bucket_of}
use Rattle.emission.proofs.KeepLaws.{indexed-step, indexed-full}
use Rattle.emission.proofs.emit.emit_listed.Goals as goal

pub find_in-requires : goal.find_in-requires
find_in-requires c = (c.requires.0, c.bucket_of-b.ensures.0 ∙ ap (λ (h : ℕ). bucket_of h c.args.predicate c.args.operands.now) c.heads.ensures, subst (λ (h : ℕ). c.bucket_of-b.result < h) c.heads.ensures c.bucket_of-b.ensures.1)

pub returns-in-Ok : goal.returns-in-Ok
returns-in-Ok c = let a = c.args in (emit-found c.requires.0.led a.kind a.predicate _ a.references.now a.operands.now c.in-Ok.ensures, λ s f t q. c.requires.0)

pub returns-in_err-at-in-Err : goal.returns-in_err-at-in-Err
returns-in_err-at-in-Err c = let a = c.args in rw c.from_residual.ensures (
  emit-full c.requires.0.led a.kind a.predicate _ a.references.now a.operands.now c.append.new.l c.in-Err.ensures c.in_err-at-in-Err.ensures.1,
  λ s f t q. indexed-full c.requires.0 s c.append.new.l (c.in_err-at-in-Err.ensures.1 s t),
)

pub enter_step-requires : goal.enter_step-requires
enter_step-requires c = (subst (λ (h : ℕ). c.bucket_of-b.result < h) c.heads.ensures c.bucket_of-b.ensures.1, omega (arith, c.in_ok-at-in-Err.ensures.0, c.requires.0.led.fits, c.requires.0.led.small))

pub returns-in_ok-at-in-Err : goal.returns-in_ok-at-in-Err
returns-in_ok-at-in-Err c = let a = c.args in (
  emit-new c.requires.0.led a.kind a.predicate _ a.references.now a.operands.now c.append.new.l c.in-Err.ensures c.in_ok-at-in-Err.at c.in_ok-at-in-Err.ensures.1,
  λ s f t q. indexed-step c.requires.0 a.predicate c.bucket_of-b.result c.in_ok-at-in-Err.at a.operands.now c.append.new.l c.enter_step.new.x
      (c.bucket_of-b.ensures.0 ∙ ap (λ (h : ℕ). bucket_of h a.predicate a.operands.now) c.heads.ensures) (subst (λ (h : ℕ). c.bucket_of-b.result < h) c.heads.ensures c.bucket_of-b.ensures.1) c.in_ok-at-in-Err.ensures.0 c.enter_step.ensures
      s f q t.judges (c.in_ok-at-in-Err.ensures.1 s t),
)
