use Rattle.std.proofs.Common.{sym, ◌∙◌}
use Rattle.hw_reading.specs.Shapes.{shapes_of}
use Rattle.gumbo_parse.specs.Annex.{kinds, SpellsClause}
use Rattle.hw_reading.proofs.Choices.{read-shorter}
use Rattle.hw_reading.proofs.Lists.{members_begun, members_read, members_halt, members_more}
use Rattle.gumbo_parse.specs.Values.{one_of}
use Rattle.gumbo_parse.proofs.ClauseForms.{clause-begins}
use Rattle.gumbo_parse.proofs.clauses.more_clauses.Goals as goal

pub clauses-init : goal.clauses-init
clauses-init c = members_begun SpellsClause (one_of (shapes_of kinds)) clause-begins c.args.earlier _

pub returns-in_err-clause : goal.returns-in_err-clause
returns-in_err-clause c =
    members_halt SpellsClause (one_of (shapes_of kinds)) clause-begins c.args.earlier _ _ c.clauses.clauses c.clauses.invariant (sym c.stands_listed.ensures ∙ c.clauses-test.true) _ _ _ c.from_residual.ensures.1 c.in_err-clause.ensures

pub clauses-smaller : goal.clauses-smaller
clauses-smaller c = read-shorter (one_of (shapes_of kinds)) clause-begins c.in_ok-clause.ensures

pub clauses-preserved : goal.clauses-preserved
clauses-preserved c =
    members_more SpellsClause (one_of (shapes_of kinds)) clause-begins c.args.earlier _ _ c.clauses.clauses c.clauses.invariant (sym c.stands_listed.ensures ∙ c.clauses-test.true) _ _ _ c.in_ok-push.ensures.ok c.in_ok-clause.ensures

pub returns : goal.returns
returns c = members_read SpellsClause (one_of (shapes_of kinds)) clause-begins c.args.earlier _ _ c.clauses.clauses c.clauses.invariant (sym c.stands_listed.ensures ∙ c.clauses-test.false)
