use Rattle.std.proofs.Common.{◌≡◌, ◌++◌, drop}
use Rattle.std.specs.List.{filter_map}
use Rattle.aadl_typing.specs.DataGraph.{part_number}
use Rattle.aadl_typing.proofs.made_of.numbers_of.Given as goal

abbrev pub invariant-loop-part : goal.invariant-loop-part
invariant-loop-part l = l.numbers ++ filter_map (part_number l.tables) (drop l.part-index l.parts) ≡ filter_map (part_number l.tables) l.parts
