use Rattle.std.proofs.Common.{sym, ◌∙◌}
use Rattle.aadl_types.proofs.Settled.{right_with, fewer_with, known_shape, nothing_there}
use Rattle.aadl_types.proofs.extents.Extents.settle.Goals as goal

pub returns-in-Some-2-clause-right : goal.returns-in-Some-2-clause-right
returns-in-Some-2-clause-right c =
    let here = sym c.in-Some.ensures in
    rw c.know.ensures (right_with c.args.shapes.now c.args.self.now c.args.class c.in-Some.shape.now c.in-Some-2.extent c.requires here
    (known_shape c.args.shapes.now c.args.class c.in-Some.shape.now c.in-Some-2.extent here (rw c.in-Some-2.is at c.in_ok-of_shape-in-Some.ensures.some)))

pub returns-in-Some-2-clause-fewer : goal.returns-in-Some-2-clause-fewer
returns-in-Some-2-clause-fewer c = λ found.
    rw c.know.ensures (fewer_with c.args.shapes.now c.args.self.now c.args.class c.in-Some.shape.now c.in-Some-2.extent c.requires (sym c.in-Some.ensures)
    (nothing_there c.at.result _ c.at.ensures (sym c.is_some.ensures ∙ c.if-is_some.false)))
