use Rattle.std.proofs.Common.{refl, ap, ◌∙◌, take, arith}
use Rattle.std.proofs.lemmas.List.Edits.{sets}
use Rattle.writing.proofs.WriteLaws.{wrote-beyond, sets-fitting}
use Rattle.writing.proofs.Writer.put.Goals as goal

pub returns-then-self-to : goal.returns-then-self-to
returns-then-self-to c = let w = c.args.self.now in record { wrote = wrote-beyond c.args.x.now w.out.now w.to c.if-self-to.true; same = refl }

pub returns : goal.returns
returns c =
    let w = c.args.self.now in
    record {
      wrote = record { end = refl; bytes = c.copy.ensures ∙ ap (λ n. sets w.out.now w.to (take n c.args.x.now)) c.min-fits.ensures ∙ sets-fitting c.args.x.now w.out.now w.to (omega arith) };
      same = refl;
    }
