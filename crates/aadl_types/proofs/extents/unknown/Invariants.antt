use Rattle.std.proofs.Common.{◌≡◌, ◌++◌, drop}
use Rattle.aadl_types.specs.Settling.{unknown_of}
use Rattle.aadl_types.proofs.extents.unknown.Given as goal

abbrev pub invariant-loop-shape : goal.invariant-loop-shape
invariant-loop-shape l = l.known.items ++ unknown_of (drop l._shape-index l.shapes) ≡ unknown_of l.shapes
