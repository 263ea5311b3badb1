use Rattle.std.proofs.Common.{take}
use Rattle.hw_types.specs.Extent.{AreMembers}
use Rattle.hw_types.proofs.place.+extent_of.Given as goal

abbrev pub invariant-loop-field : goal.invariant-loop-field
invariant-loop-field l = AreMembers (take l.field-index l.field-items) l.members
