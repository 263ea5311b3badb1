use Rattle.aadl_parse.proofs.PrintedLaw.{printed}
use Rattle.aadl_parse.proofs.printed.printed_is_text.Goals as goal

pub returns : goal.returns
returns c = λ p allowed limits. printed p allowed limits
