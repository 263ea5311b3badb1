use Rattle.std.proofs.Common.{◌≡◌, ◌++◌, map, pos, drop}
use Rattle.hw_types.specs.declared.field_cell.FieldCell.{FieldCell}
use Rattle.rts_rules.proofs.values.zero_of.Given as goal

abbrev pub invariant-loop-scalar : goal.invariant-loop-scalar
invariant-loop-scalar l = l.zero ++ map (λ (cell : FieldCell). pos 0) (drop l._scalar-index l._scalar-items) ≡ map (λ (cell : FieldCell). pos 0) l._scalar-items
