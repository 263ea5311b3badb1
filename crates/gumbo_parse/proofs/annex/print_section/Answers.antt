use Rattle.gumbo_parse.specs.ContractTokens.{clause_tokens}
use Rattle.gumbo_parse.proofs.AllowedContracts.{section_allowed}
use Rattle.gumbo_parse.proofs.annex.print_section.Goals as goal

pub returns-clause-allowed : goal.returns-clause-allowed
returns-clause-allowed c = section_allowed c.print_clauses.result c.args.word clause_tokens c.args.clauses.now c.print_clauses.ensures.allowed
