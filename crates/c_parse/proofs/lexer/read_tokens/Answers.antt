use Rattle.std.proofs.Common.{[], sym, refl, subst}
use Rattle.std.proofs.lemmas.List.{append-nil}
use Rattle.hw_text.proofs.TokenLemmas.{found-more}
use Rattle.c_parse.specs.Blanks.{skipped}
use Rattle.c_parse.specs.Tokens.{token_at, HasTokens}
use Rattle.c_parse.proofs.lexer.read_tokens.Goals as goal

pub tokens-preserved : goal.tokens-preserved
tokens-preserved c = λ ts end rest lexed.
    found-more token_at skipped (λ us. HasTokens c.args.bytes.now us end rest) c.tokens.rest.now c.skip-next.result.now c.in-Some.after.now
    c.in-Some.token c.tokens.place c.place_of_rest-place-in-Some.result end rest c.tokens.tokens c.push.new.self ts
    (sym (rw c.in-Some.is at c.in_ok-token.ensures.exact)) c.skip-next.ensures.rest c.place_of_rest-place-in-Some.ensures
    c.in_ok-push.ensures.ok (λ us. c.tokens.invariant us end rest) lexed

pub returns : goal.returns
returns c =
    let none = sym (rw c.in_default.is at c.in_ok-token.ensures.exact) in
    subst (λ ts. HasTokens c.args.bytes.now ts c.tokens.place c.tokens.rest.now) (append-nil c.tokens.tokens)
    (c.tokens.invariant [] c.tokens.place c.tokens.rest.now (none, refl, refl))
