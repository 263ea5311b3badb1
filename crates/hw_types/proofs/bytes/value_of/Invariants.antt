use Rattle.std.proofs.Common.{◌≡◌, ◌++◌, drop}
use Rattle.std.specs.Option.{option_map}
use Rattle.hw_types.specs.Value.{all_held_in}
use Rattle.hw_types.proofs.bytes.value_of.Given as goal

abbrev pub invariant-loop-cell : goal.invariant-loop-cell
invariant-loop-cell l =
    option_map (λ values. l.value ++ values) (all_held_in (drop l.cell-index l.cell-items) l.bytes) ≡ all_held_in l.cell-items l.bytes
