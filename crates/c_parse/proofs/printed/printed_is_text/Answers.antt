use Rattle.c_parse.proofs.ReadBack.{full_back, user_back}
use Rattle.c_parse.proofs.printed.printed_is_text.Goals as goal

pub returns-clause-full : goal.returns-clause-full
returns-clause-full c = λ u holds. full_back u holds

pub returns-clause-user : goal.returns-clause-user
returns-clause-user c = λ u user limits. user_back u user limits
