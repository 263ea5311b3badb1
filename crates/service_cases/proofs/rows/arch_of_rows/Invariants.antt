use Rattle.std.proofs.Common.{◌≡◌}
use Rattle.arch_model.specs.BaseTypes.{base_rows}
use Rattle.service_cases.proofs.rows.arch_of_rows.Given as goal

abbrev pub invariant-loop-row : goal.invariant-loop-row
invariant-loop-row l = l.parts.types ≡ base_rows
