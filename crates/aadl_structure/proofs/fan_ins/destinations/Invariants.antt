use Rattle.std.proofs.Common.{◌≡◌, ◌++◌, map, drop}
use Rattle.aadl_structure.specs.FanIns.{destination}
use Rattle.aadl_structure.proofs.fan_ins.destinations.Given as goal

abbrev pub invariant-loop-row : goal.invariant-loop-row
invariant-loop-row l = l.destinations ++ map destination (drop l.row-index l.connections) ≡ map destination l.connections
