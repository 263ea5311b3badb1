use Rattle.std.proofs.Common.{◌≡◌, ◌++◌, drop}
use Rattle.trace_text.specs.Pieces.{filled}
use Rattle.trace_text.proofs.value_printer.print_value.Given as goal

abbrev pub invariant-loop-piece : goal.invariant-loop-piece
invariant-loop-piece l = l.out ++ filled l.types (drop l.piece-index l.pieces) l.rest ≡ l.fn.out ++ filled l.types l.pieces l.numbers
