use Rattle.hw_reading.specs.Shapes.{shapes_of}
use Rattle.gumbo_parse.specs.Annex.{kinds, SpellsClause}
use Rattle.gumbo_parse.specs.Values.{one_of}
use Rattle.gumbo_parse.proofs.ClauseForms.{clause-begins}
use Rattle.hw_reading.proofs.Lists.{all_members}
use Rattle.gumbo_parse.proofs.entry_point.clauses.Goals as goal

pub returns : goal.returns
returns c = all_members SpellsClause (one_of (shapes_of kinds)) clause-begins _ c.new.ensures _ _ _ c.more_clauses.ensures
