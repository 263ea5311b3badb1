use Rattle.std.proofs.Common.{List, take}
use Rattle.hw_types.specs.declared.ty.Ty.{Ty}
use Rattle.hw_types.specs.Extent.{AreMembers}
use Rattle.aadl_types.specs.Settling.{ArePartTypes}
use Rattle.aadl_types.proofs.extents.Extents.members.Given as goal

abbrev pub invariant-loop-part : goal.invariant-loop-part
invariant-loop-part l = (types : List Ty) × ArePartTypes l.shapes (take l.part-index l.parts) types × AreMembers types l.members
