use Rattle.gumbo_parse.proofs.Allowing.{name_allowed}
use Rattle.gumbo_parse.proofs.AllowedContracts.{handler_allowed}
use Rattle.gumbo_parse.proofs.contract.Handler.print.Goals as goal

pub returns-clause-allowed : goal.returns-clause-allowed
returns-clause-allowed c =
    let h = c.args.self.now in
    handler_allowed c.print_clauses.result h c.rows-2.result.now c.rows-2.ensures (name_allowed h.port.name c.rows.ensures.identifier c.rows.ensures.lower) c.in_ok-print.ensures.allowed
    c.print_clauses.ensures.allowed
