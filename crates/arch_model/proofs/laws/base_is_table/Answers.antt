use Rattle.arch_model.proofs.BaseTypes.{base-table}
use Rattle.arch_model.proofs.laws.base_is_table.Goals as goal

pub returns : goal.returns
returns c = base-table
