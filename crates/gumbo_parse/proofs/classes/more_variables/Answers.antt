use Rattle.std.proofs.Common.{sym, ◌∙◌}
use Rattle.gumbo_parse.specs.Classes.{SpellsVariable}
use Rattle.gumbo_parse.specs.Values.{one_of, name_shapes}
use Rattle.hw_reading.proofs.Choices.{read-shorter}
use Rattle.hw_reading.proofs.Lists.{members_begun, members_read, members_halt, members_more}
use Rattle.gumbo_parse.proofs.ClassForms.{variable-begins}
use Rattle.gumbo_parse.proofs.classes.more_variables.Goals as goal

pub variables-init : goal.variables-init
variables-init c = members_begun SpellsVariable (one_of name_shapes) variable-begins c.args.earlier _

pub returns-in_err-variable : goal.returns-in_err-variable
returns-in_err-variable c =
    members_halt SpellsVariable (one_of name_shapes) variable-begins c.args.earlier _ _ c.variables.variables c.variables.invariant (sym c.stands_either.ensures ∙ c.variables-test.true) _ _ _ c.from_residual.ensures.1 c.in_err-variable.ensures

pub variables-smaller : goal.variables-smaller
variables-smaller c = read-shorter (one_of name_shapes) variable-begins c.in_ok-variable.ensures

pub variables-preserved : goal.variables-preserved
variables-preserved c =
    members_more SpellsVariable (one_of name_shapes) variable-begins c.args.earlier _ _ c.variables.variables c.variables.invariant (sym c.stands_either.ensures ∙ c.variables-test.true) _ _ _ c.in_ok-push.ensures.ok c.in_ok-variable.ensures

pub returns : goal.returns
returns c = members_read SpellsVariable (one_of name_shapes) variable-begins c.args.earlier _ _ c.variables.variables c.variables.invariant (sym c.stands_either.ensures ∙ c.variables-test.false)
