use Rattle.std.proofs.Common.{map, pos, get_or, List, ap, ◌∙◌}
use Rattle.hw_types.specs.declared.field_cell.FieldCell.{FieldCell}
use Rattle.arch_model.specs.declared.type_row.TypeRow.{TypeRow}
use Rattle.rts_rules.proofs.Openings.{zeros-next, zero-made}
use Rattle.rts_rules.proofs.values.zero_of.Goals as goal

pub loop-scalar-preserved : goal.loop-scalar-preserved
loop-scalar-preserved c =
    zeros-next c.scalars-scalar-items.result.now c.loop-scalar._scalar-index c.loop-scalar.zero c.push.new.self (map (λ (cell : FieldCell). pos 0) c.scalars-scalar-items.result.now)
    c.loop-scalar.invariant c.loop-scalar-test.true c.in_ok-push.ensures.ok

pub returns : goal.returns
returns c =
    zero-made c.args.arch.now c.args.port.now c.index-types-port.result c.scalars-scalar-items.result.now c.loop-scalar._scalar-index c.loop-scalar.zero
    c.requires (c.index-types-port.is ∙ ap (λ (rows : List TypeRow). get_or rows c.args.port.now.ty c.index-types-port.result) c.types.ensures.rows)
    c.scalars-scalar-items.ensures.cells c.loop-scalar.invariant c.loop-scalar-test.false
