use Rattle.c_parse.proofs.PrintedLaw.{lexed}
use Rattle.c_parse.proofs.printed.printed_has_tokens.Goals as goal

pub returns : goal.returns
returns c = λ u. lexed u
