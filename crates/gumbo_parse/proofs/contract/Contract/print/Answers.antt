use Rattle.gumbo_parse.proofs.AllowedContracts.{contract_allowed}
use Rattle.gumbo_parse.proofs.contract.Contract.print.Goals as goal

pub returns-clause-allowed : goal.returns-clause-allowed
returns-clause-allowed c =
    contract_allowed c.print_compute.result c.args.self.now c.rows.result.now c.rows-2.result.now c.rows-3.result.now c.rows.ensures c.rows-2.ensures c.rows-3.ensures
    c.in_ok-print_state.ensures.allowed c.in_ok-print_section.ensures.allowed c.in_ok-print_section-2.ensures.allowed c.print_compute.ensures.allowed
