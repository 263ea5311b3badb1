use Rattle.std.proofs.Common.{sym, ◌∙◌}
use Rattle.c_parse.proofs.LiteralTokens.{literal-token-is, literal-shorter}
use Rattle.c_parse.proofs.lexer.literal_token.Goals as goal

pub returns-in-Some-clause-exact : goal.returns-in-Some-clause-exact
returns-in-Some-clause-exact c =
    literal-token-is c.args.bytes.now _ _ c.in-Some.literal c.past_numeral-rest.ensures.rest c.split_at.ensures.front (sym c.in-Some.is ∙ c.in_ok-literal.ensures)

pub returns-in-Some-clause-shorter : goal.returns-in-Some-clause-shorter
returns-in-Some-clause-shorter c =
    literal-shorter c.args.bytes.now _ _ c.in-Some.literal c.split_at.ensures.front c.past_numeral-rest.ensures.within (sym c.in-Some.is ∙ c.in_ok-literal.ensures)
