use Rattle.formula.specs.declared.Sort.TheVariants.{Intervals}
use Rattle.transforms.proofs.ImageLaws.{image-made, image-front}
use Rattle.transforms.proofs.image.Goals as goal

pub returns-in-Ok : goal.returns-in-Ok
returns-in-Ok c = let a = c.args in image-front Intervals a.op a.t.now c.requires.0 c.requires.1 c.requires.2 c.requires.3 c.transform.ensures _ c.in-Ok.is

pub returns-in-Err : goal.returns-in-Err
returns-in-Err c = let a = c.args in image-made Intervals a.op a.t.now c.requires.0 c.requires.1 c.requires.2 c.requires.3 c.transform.ensures c.in-Err.is
