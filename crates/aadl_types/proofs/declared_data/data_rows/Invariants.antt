use Rattle.std.proofs.Common.{◌≡◌, ◌≤◌, ◌++◌, drop}
use Rattle.aadl_types.specs.DataRows.{data_rows_from, data_rows}
use Rattle.aadl_types.proofs.declared_data.data_rows.Given as goal

abbrev pub invariant-loop-declaration : goal.invariant-loop-declaration
invariant-loop-declaration l = record {
  rows : l.rows ++ data_rows_from l.types l.implementations (drop l.declaration-index l.model.declarations) ≡ data_rows l.model;
  types : l.types ≤ l.declaration-index;
  implementations : l.implementations ≤ l.declaration-index;
}
