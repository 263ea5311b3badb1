use Rattle.gumbo_parse.specs.Allowed.{AreAllowed}
use Rattle.gumbo_parse.specs.ContractTokens.{clause_tokens}
use Rattle.gumbo_parse.proofs.Allowing.{always, name_allowed}
use Rattle.gumbo_parse.proofs.AllowedContracts.{clause_allowed}
use Rattle.gumbo_parse.proofs.contract.Clause.print.Goals as goal

pub returns-clause-allowed : goal.returns-clause-allowed
returns-clause-allowed c =
    let clause = c.args.self.now in
    always c.print_line.result (AreAllowed (clause_tokens clause))
    (clause_allowed clause (name_allowed clause.name.name c.rows.ensures.identifier c.rows.ensures.lower) c.in_ok-print_description.ensures.allowed c.in_ok-print.ensures.allowed)
