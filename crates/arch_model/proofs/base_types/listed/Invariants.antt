use Rattle.std.proofs.Common.{◌≡◌, ◌++◌, drop}
use Rattle.arch_model.specs.BaseTypes.{rows_from}
use Rattle.arch_model.proofs.base_types.listed.Given as goal

abbrev pub invariant-loop-place : goal.invariant-loop-place
invariant-loop-place l = l.rows ++ rows_from l.place (drop l.place l.types) ≡ rows_from 0 l.types
