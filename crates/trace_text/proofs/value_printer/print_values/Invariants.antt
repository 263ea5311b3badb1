use Rattle.std.proofs.Common.{◌≡◌, ◌++◌, drop, map}
use Rattle.trace_text.specs.Pieces.{comma, filled, further, separated}
use Rattle.trace_text.proofs.value_printer.print_values.Given as goal

abbrev pub invariant-loop-value : goal.invariant-loop-value
invariant-loop-value l = l.out ++ further comma (map (filled l.types l.pieces) (drop l.value-index l.others)) ≡ l.fn.out ++ separated comma (map (filled l.types l.pieces) l.values)
