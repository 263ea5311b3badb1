use Rattle.gumbo_parse.proofs.FarLaw.{ends_in_expression}
use Rattle.gumbo_parse.proofs.far_tokens.counted_from_the_colon.Goals as goal

pub returns : goal.returns
returns c = λ ts n. ends_in_expression ts n
