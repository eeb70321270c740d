use mathlib.Core.Path.{refl}
use native.Mathlib.Omega.{arith}
use Rattle.formula.specs.declared.Sort.TheVariants.{Faces}
use Rattle.formula.specs.Answers.{tree_of}
use Rattle.std.proofs.lemmas.Result.{err_from_is_err_and}
use Rattle.steps.proofs.RunLaws.{runs-led}
use Rattle.steps.proofs.LentLaws.{lent-on}
use Rattle.steps.proofs.TreeLaws.{known}
use Rattle.contexts.specs.Faces.{faces_of}
use Rattle.contexts.proofs.MoveLaws.{literal-is}
use Rattle.contexts.proofs.ClosingLaws.{clash-stop, clash-stop-2, clash-up}
use Rattle.contexts.proofs.closings.by_clash.Goals as goal

pub member-requires : goal.member-requires
member-requires c = known (literal-is 0 _ c.requires.0 (omega arith) c.literal_kind.ensures c.literal.ensures)

pub returns-in_err-i : goal.returns-in_err-i
returns-in_err-i c = let a = c.args in
    let p = err_from_is_err_and c.from_residual.result c.from_residual.ensures.1 in
    rw (p.1, p.2) (record { runs = clash-stop a.k (faces_of a.g) (tree_of Faces a.goal.now) (literal-is 0 _ c.requires.0 (omega arith) c.literal_kind.ensures c.literal.ensures) c.in_err-i.ensures.runs refl; lent = c.in_err-i.ensures.lent })

pub member-requires-2 : goal.member-requires-2
member-requires-2 c = known (literal-is 1 _ c.requires.0 (omega arith) c.literal_kind-2.ensures c.literal-2.ensures)

pub returns-in_err-j : goal.returns-in_err-j
returns-in_err-j c = let a = c.args in
    let p = err_from_is_err_and c.from_residual-in_err-j.result c.from_residual-in_err-j.ensures.1 in
    rw (p.1, p.2) (record {
      runs = clash-stop-2 a.k (faces_of a.g) (tree_of Faces a.goal.now) (literal-is 0 _ c.requires.0 (omega arith) c.literal_kind.ensures c.literal.ensures) c.in_ok-i.ensures.runs refl
          (literal-is 1 _ c.requires.0 (omega arith) c.literal_kind-2.ensures c.literal-2.ensures) c.in_err-j.ensures.runs refl;
      lent = lent-on c.in_ok-i.ensures.lent c.in_err-j.ensures.lent;
    })

pub cover_step-requires : goal.cover_step-requires
cover_step-requires c = (runs-led c.in_ok-j.ensures.runs, c.requires.1)

pub invariant_of-p : goal.invariant_of-p
invariant_of-p c = let a = c.args in record {
  indexed = runs-led (clash-up a.k (faces_of a.g) (tree_of Faces a.goal.now) (literal-is 0 _ c.requires.0 (omega arith) c.literal_kind.ensures c.literal.ensures) c.in_ok-i.ensures.runs refl
      (literal-is 1 _ c.requires.0 (omega arith) c.literal_kind-2.ensures c.literal-2.ensures) c.in_ok-j.ensures.runs a.g.sound c.requires.1 refl refl refl c.cover_step.ensures);
}

pub returns : goal.returns
returns c = let a = c.args in record {
  runs = clash-up a.k (faces_of a.g) (tree_of Faces a.goal.now) (literal-is 0 _ c.requires.0 (omega arith) c.literal_kind.ensures c.literal.ensures) c.in_ok-i.ensures.runs refl
      (literal-is 1 _ c.requires.0 (omega arith) c.literal_kind-2.ensures c.literal-2.ensures) c.in_ok-j.ensures.runs a.g.sound c.requires.1 refl refl refl c.cover_step.ensures;
  lent = lent-on (lent-on c.in_ok-i.ensures.lent c.in_ok-j.ensures.lent) (record { ledger = refl; index = refl });
}
