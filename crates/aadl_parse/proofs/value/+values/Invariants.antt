use Rattle.std.proofs.Common.{[], ◌++◌, ◌+◌, ◌*◌, ◌≤◌, length}
use Rattle.hw_text.specs.Language.{Each, Made}
use Rattle.hw_text.specs.Reading.{Leaves}
use Rattle.aadl_parse.specs.Shapes.{Without}
use Rattle.aadl_parse.specs.Terminals.{name_shapes}
use Rattle.aadl_parse.specs.SimpleValue.{members_goes_on}
use Rattle.aadl_parse.specs.ValueText.{SpellsNext, SpellsField}
use Rattle.aadl_parse.proofs.value.+values.Given as goal

abbrev pub decreases-read_value : goal.decreases-read_value
decreases-read_value l = 8 * length l.tokens.now + 4

abbrev pub decreases-read_list : goal.decreases-read_list
decreases-read_list l = 8 * length l.tokens.now + 3

abbrev pub decreases-read_record : goal.decreases-read_record
decreases-read_record l = 8 * length l.tokens.now + 3

abbrev pub decreases-read_members : goal.decreases-read_members
decreases-read_members l = 8 * length l.tokens.now + 6

abbrev pub decreases-read_first : goal.decreases-read_first
decreases-read_first l = 8 * length l.tokens.now + 5

abbrev pub decreases-read_others : goal.decreases-read_others
decreases-read_others l = 8 * length l.tokens.now + 1

abbrev pub decreases-read_next : goal.decreases-read_next
decreases-read_next l = 8 * length l.tokens.now

abbrev pub decreases-read_fields : goal.decreases-read_fields
decreases-read_fields l = 8 * length l.tokens.now + 6

abbrev pub decreases-read_field : goal.decreases-read_field
decreases-read_field l = 8 * length l.tokens.now + 5

abbrev pub invariant-read_others-members : goal.invariant-read_others-members
invariant-read_others-members l =
    Leaves (Made (λ later. l.fn.earlier ++ later) (Each SpellsNext)) (Without members_goes_on) l.fn.tokens l.tokens (λ later. l.values ++ later) (Each SpellsNext) ×
    (length l.tokens ≤ length l.fn.tokens)

abbrev pub decreases-read_others-members : goal.decreases-read_others-members
decreases-read_others-members l = length l.tokens

abbrev pub invariant-read_fields-members : goal.invariant-read_fields-members
invariant-read_fields-members l =
    Leaves (Made (λ later. [] ++ later) (Each SpellsField)) (Without name_shapes) l.fn.tokens l.tokens (λ later. l.fields ++ later) (Each SpellsField) ×
    (length l.tokens ≤ length l.fn.tokens)

abbrev pub decreases-read_fields-members : goal.decreases-read_fields-members
decreases-read_fields-members l = length l.tokens
