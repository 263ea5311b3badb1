use Rattle.std.proofs.Common.{◌≡◌, ◌++◌, drop}
use Rattle.hw_types.specs.Layout.{shifted}
use Rattle.hw_types.proofs.layout.append_shifted.Given as goal

abbrev pub invariant-loop-cell : goal.invariant-loop-cell
invariant-loop-cell l = l.list ++ shifted l.place (drop l.cell-index l.cells) ≡ l.initial.list ++ shifted l.place l.cells
