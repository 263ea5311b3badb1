use Rattle.std.proofs.Common.{length}
use Rattle.hw_reading.specs.Shapes.{shapes_of}
use Rattle.gumbo_parse.specs.Annex.{kinds, SpellsClause}
use Rattle.hw_reading.proofs.Lists.{Members}
use Rattle.gumbo_parse.specs.Values.{one_of}
use Rattle.gumbo_parse.proofs.ClauseForms.{clause-begins}
use Rattle.gumbo_parse.proofs.clauses.more_clauses.Given as goal

abbrev pub invariant-clauses : goal.invariant-clauses
invariant-clauses l = Members SpellsClause (one_of (shapes_of kinds)) clause-begins l.fn.earlier l.fn.tokens l.tokens l.clauses

abbrev pub decreases-clauses : goal.decreases-clauses
decreases-clauses l = length l.tokens
