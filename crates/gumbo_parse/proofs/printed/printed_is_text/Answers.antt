use Rattle.gumbo_parse.proofs.PrintedLaw.{printed}
use Rattle.gumbo_parse.proofs.printed.printed_is_text.Goals as goal

pub returns : goal.returns
returns c = λ contract at allowed limits. printed contract at allowed limits
