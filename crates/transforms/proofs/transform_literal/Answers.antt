use Rattle.formula.specs.declared.Sort.TheVariants.{Faces, Intervals}
use Rattle.transforms.specs.Transforms.{op_of}
use Rattle.transforms.proofs.TransformLaws.{sort-told, sort-runs}
use Rattle.transforms.proofs.transform_literal.Goals as goal

pub face_literal-requires : goal.face_literal-requires
face_literal-requires c = let a = c.args in
    let k = sort-told a.sort Faces (op_of a.op a.t.now) c.in-Faces.is c.requires.0 c.requires.2 c.requires.3 in
    (k.known, c.requires.1, k.literal, k.result)

pub returns-in-Faces : goal.returns-in-Faces
returns-in-Faces c = let a = c.args in
    record { runs = sort-runs a.f.now a.sort Faces (op_of a.op a.t.now) c.in-Faces.is c.face_literal.ensures.runs; lent = c.face_literal.ensures.lent }

pub transform_dimension-requires : goal.transform_dimension-requires
transform_dimension-requires c = let a = c.args in
    let k = sort-told a.sort Intervals (op_of a.op a.t.now) c.in-Intervals.is c.requires.0 c.requires.2 c.requires.3 in
    (k.known, c.requires.1, k.literal, k.result)

pub returns-in-Intervals : goal.returns-in-Intervals
returns-in-Intervals c = let a = c.args in
    record { runs = sort-runs a.f.now a.sort Intervals (op_of a.op a.t.now) c.in-Intervals.is c.transform_dimension.ensures.runs; lent = c.transform_dimension.ensures.lent }
