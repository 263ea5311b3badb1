use Rattle.std.proofs.Common.{◌∙◌, ap, List, [], ◌∷◌, ◌++◌}
use Rattle.hw_reading.specs.Shapes.{shapes_of}
use Rattle.gumbo_parse.specs.declared.contract.Clause.{Clause}
use Rattle.gumbo_parse.specs.Annex.{kinds, SpellsClause}
use Rattle.gumbo_parse.specs.Values.{one_of}
use Rattle.gumbo_parse.proofs.ClauseForms.{clause-begins}
use Rattle.hw_reading.proofs.Lists.{some_halt, some_read}
use Rattle.gumbo_parse.proofs.sections.some_clauses.Goals as goal

pub returns-in_err-first : goal.returns-in_err-first
returns-in_err-first c = some_halt SpellsClause (one_of (shapes_of kinds)) clause-begins _ _ _ _ c.from_residual.ensures.1 c.in_err-first.ensures

pub returns : goal.returns
returns c =
    some_read SpellsClause (one_of (shapes_of kinds)) clause-begins _ _ c.in_ok-first.first c.in_ok-first.ensures _ (c.in_ok-push.ensures.ok ∙ ap (λ (l : List Clause). l ++ c.in_ok-first.first ∷ []) c.new-read.ensures) _ _ c.more_clauses.ensures
