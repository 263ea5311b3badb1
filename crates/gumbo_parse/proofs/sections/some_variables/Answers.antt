use Rattle.std.proofs.Common.{◌∙◌, ap, List, [], ◌∷◌, ◌++◌}
use Rattle.gumbo_parse.specs.declared.class.Variable.{Variable}
use Rattle.gumbo_parse.specs.Classes.{SpellsVariable}
use Rattle.gumbo_parse.specs.Values.{one_of, name_shapes}
use Rattle.gumbo_parse.proofs.ClassForms.{variable-begins}
use Rattle.hw_reading.proofs.Lists.{some_halt, some_read}
use Rattle.gumbo_parse.proofs.sections.some_variables.Goals as goal

pub returns-in_err-first : goal.returns-in_err-first
returns-in_err-first c = some_halt SpellsVariable (one_of name_shapes) variable-begins _ _ _ _ c.from_residual.ensures.1 c.in_err-first.ensures

pub returns : goal.returns
returns c =
    some_read SpellsVariable (one_of name_shapes) variable-begins _ _ c.in_ok-first.first c.in_ok-first.ensures _ (c.in_ok-push.ensures.ok ∙ ap (λ (l : List Variable). l ++ c.in_ok-first.first ∷ []) c.new-read.ensures) _ _ c.more_variables.ensures
