use Rattle.gumbo_parse.specs.declared.word.Word.TheVariants as word
use Rattle.gumbo_parse.specs.ContractTokens.{variable_tokens}
use Rattle.gumbo_parse.proofs.AllowedContracts.{section_allowed}
use Rattle.gumbo_parse.proofs.annex.print_state.Goals as goal

pub returns-clause-allowed : goal.returns-clause-allowed
returns-clause-allowed c = section_allowed c.print_variables.result word.State variable_tokens c.args.variables.now c.print_variables.ensures.allowed
