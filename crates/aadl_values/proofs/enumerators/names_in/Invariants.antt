use Rattle.std.proofs.Common.{◌≡◌, drop, []}
use Rattle.aadl_values.specs.Columns.{names_from}
use Rattle.aadl_values.proofs.enumerators.names_in.Given as goal

abbrev pub invariant-loop-value : goal.invariant-loop-value
invariant-loop-value l = names_from l.names (drop l.value-index l.values) ≡ names_from [] l.values
