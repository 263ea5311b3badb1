use Rattle.std.proofs.Common.{◌≡◌, ◌++◌, drop}
use Rattle.std.specs.List.{flat_map}
use Rattle.aadl_structure.specs.Mentions.{value_mentions, field_mentions}
use Rattle.aadl_structure.proofs.values.+walk.Given as goal

abbrev pub invariant-push_values-loop-value : goal.invariant-push_values-loop-value
invariant-push_values-loop-value l =
    l.mentions ++ flat_map (value_mentions l.around l.asked) (drop l.value-index l.values) ≡ l.fn.mentions ++ flat_map (value_mentions l.around l.asked) l.values

abbrev pub invariant-push_fields-loop-field : goal.invariant-push_fields-loop-field
invariant-push_fields-loop-field l =
    l.mentions ++ flat_map (field_mentions l.around l.asked) (drop l.field-index l.fields) ≡ l.fn.mentions ++ flat_map (field_mentions l.around l.asked) l.fields
