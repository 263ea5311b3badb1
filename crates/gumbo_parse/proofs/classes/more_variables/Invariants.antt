use Rattle.std.proofs.Common.{length}
use Rattle.gumbo_parse.specs.Classes.{SpellsVariable}
use Rattle.gumbo_parse.specs.Values.{one_of, name_shapes}
use Rattle.hw_reading.proofs.Lists.{Members}
use Rattle.gumbo_parse.proofs.ClassForms.{variable-begins}
use Rattle.gumbo_parse.proofs.classes.more_variables.Given as goal

abbrev pub invariant-variables : goal.invariant-variables
invariant-variables l = Members SpellsVariable (one_of name_shapes) variable-begins l.fn.earlier l.fn.tokens l.tokens l.variables

abbrev pub decreases-variables : goal.decreases-variables
decreases-variables l = length l.tokens
