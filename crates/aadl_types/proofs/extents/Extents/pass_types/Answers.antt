use Rattle.aadl_names.specs.declared.class_row.ClassRow.TheVariants as row
use Rattle.aadl_types.proofs.Passed.{passed_more, passed_none}
use Rattle.aadl_types.proofs.extents.Extents.pass_types.Goals as goal

pub loop-number-init : goal.loop-number-init
loop-number-init c = passed_none row.Type c.args.shapes.now c.args.self.now c.requires

pub loop-number-preserved : goal.loop-number-preserved
loop-number-preserved c =
    rw c.either-found.ensures (passed_more row.Type c.args.shapes.now c.args.self.now c.loop-number.self c.settle.new.self c.loop-number.found c.in_ok-one.one c.loop-number.number
    c.loop-number.invariant c.in_ok-one.ensures.right c.in_ok-one.ensures.same c.in_ok-one.ensures.done c.in_ok-one.ensures.fewer)
