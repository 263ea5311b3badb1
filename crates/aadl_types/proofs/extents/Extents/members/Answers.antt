use Rattle.hw_text.specs.declared.base_type.BaseType.TheVariants.{Boolean}
use Rattle.aadl_types.specs.declared.shape.Part.TheVariants.{Base}
use Rattle.aadl_types.proofs.KnownParts.{members_push}
use Rattle.aadl_types.proofs.extents.Extents.members.Goals as goal

pub loop-part-preserved : goal.loop-part-preserved
loop-part-preserved c =
    members_push c.args.shapes.now c.args.parts.now c.loop-part.part-index (Base Boolean) c.loop-part.members c.in_ok-members-in-Some.members c.in-Some.member
    c.loop-part-test.true c.loop-part.invariant (rw c.in-Some.is at c.in_ok-member.ensures.some) c.in_ok-members-in-Some.ensures
