use Rattle.std.proofs.Common.{◌≡◌, drop}
use Rattle.std.specs.List.{flat_map}
use Rattle.aadl_tree.specs.Canonical.{behind_comma}
use Rattle.aadl_tree.specs.Layout.{written}
use Rattle.aadl_tree.specs.Values.{value_tokens, field_tokens}
use Rattle.aadl_tree.proofs.+printer.Given as goal

abbrev pub invariant-print_values::print_separated-loop-value : goal.invariant-print_values::print_separated-loop-value
invariant-print_values::print_separated-loop-value l =
    written l.page (flat_map (behind_comma value_tokens) (drop l.value-index l.others)) ≡ written l.initial.page (flat_map (behind_comma value_tokens) l.others)

abbrev pub invariant-print_values::print_fields-loop-field : goal.invariant-print_values::print_fields-loop-field
invariant-print_values::print_fields-loop-field l =
    written l.page (flat_map field_tokens (drop l.field-index l.fields)) ≡ written l.fn.page (flat_map field_tokens l.fields)
