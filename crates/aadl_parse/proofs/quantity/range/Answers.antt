use Rattle.std.proofs.Common.{refl, [], ◌∷◌, codes, None}
use Rattle.aadl_parse.specs.Terminals.{name_shapes}
use Rattle.aadl_parse.specs.ValueParts.{an_up_to}
use Rattle.aadl_parse.proofs.Sequences.{maybe-follows, rest-ends}
use Rattle.aadl_parse.proofs.Steps.{opening, then_before, halt_before, final, final_halt}
use Rattle.aadl_parse.proofs.quantity.range.Goals as goal

pub returns-in_err-from : goal.returns-in_err-from
returns-in_err-from c = halt_before _ name_shapes (maybe-follows _ name_shapes (codes ".." ∷ []) name_shapes refl an_up_to.begins) (None, [], refl) opening _ _ _ c.from_residual.ensures.1 c.in_err-from.ensures

pub returns-in_err-to : goal.returns-in_err-to
returns-in_err-to c = final_halt (rest-ends _ name_shapes (codes ".." ∷ []) name_shapes refl an_up_to.begins) (then_before name_shapes (maybe-follows _ name_shapes (codes ".." ∷ []) name_shapes refl an_up_to.begins) opening c.in_ok-from.ensures) _ _ _ c.from_residual-in_err-to.ensures.1 c.in_err-to.ensures

pub returns : goal.returns
returns c = rw c.range_with.ensures (final (rest-ends _ name_shapes (codes ".." ∷ []) name_shapes refl an_up_to.begins) (then_before name_shapes (maybe-follows _ name_shapes (codes ".." ∷ []) name_shapes refl an_up_to.begins) opening c.in_ok-from.ensures) c.in_ok-to.ensures)
