use Rattle.std.proofs.Common.{◌≡◌, ◌++◌, map, drop}
use Rattle.aadl_links.specs.Wires.{destination_key}
use Rattle.aadl_links.proofs.wiring.destinations.Given as goal

abbrev pub invariant-loop-row : goal.invariant-loop-row
invariant-loop-row l = l.index ++ map destination_key (drop l.row-index l.rows) ≡ map destination_key l.rows
