use Rattle.std.proofs.Common.{sym, ◌∙◌}
use Rattle.hw_text.specs.Reading.{Anything}
use Rattle.gumbo_parse.specs.Classes.{SpellsBase, SpellsModel}
use Rattle.hw_reading.proofs.Choices.{handed}
use Rattle.gumbo_parse.proofs.ClassForms.{ClassF, base_there, model_there}
use Rattle.gumbo_parse.proofs.classes.class.Goals as goal

pub returns-then-stands : goal.returns-then-stands
returns-then-stands c = handed SpellsBase Anything _ _ (base_there _ (sym c.stands.ensures ∙ c.if-stands.true)) (λ m ends. tt) c.base.ensures

pub returns : goal.returns
returns c = handed SpellsModel ClassF _ _ (model_there _ (sym c.stands.ensures ∙ c.if-stands.false)) (λ m ends. ends) c.model.ensures
