use Rattle.std.proofs.Common.{sym, ◌∙◌}
use Rattle.c_parse.proofs.ItemChoices.{void_behind, called_behind, plain_behind}
use Rattle.c_parse.proofs.items.item_behind.Goals as goal

pub returns-in_default : goal.returns-in_default
returns-in_default c = void_behind _ _ _ _ c.in_default.is _ _ _ c.function_behind.ensures

pub returns-then-stands : goal.returns-then-stands
returns-then-stands c = called_behind _ _ _ _ _ c.in-Some.is _ _ _ (sym c.stands.ensures ∙ c.if-stands.true) c.function_behind-then-stands.ensures

pub returns : goal.returns
returns c = plain_behind _ _ _ _ _ c.in-Some.is _ _ _ (sym c.stands.ensures ∙ c.if-stands.false) c.variable_behind.ensures
