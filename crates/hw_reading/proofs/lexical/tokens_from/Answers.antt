use Rattle.std.proofs.Common.{[], sym, refl, subst}
use Rattle.std.proofs.lemmas.List.{append-nil}
use Rattle.hw_text.specs.Tokens.{AreTokensOf}
use Rattle.hw_text.proofs.TokenLemmas.{found-more}
use Rattle.hw_reading.proofs.lexical.tokens_from.Goals as goal

pub tokens-preserved : goal.tokens-preserved
tokens-preserved g c = λ ts end rest lexed.
    let token_at = g.L.Lexical.token_at in
    let skipped = g.L.Lexical.skipped in
    found-more token_at skipped (λ us. AreTokensOf token_at skipped c.args.at c.args.bytes.now us end rest) c.tokens.rest.now c.skip-next.result.now c.in-Some.after.now
    c.in-Some.token c.tokens.place c.place_of_rest-place.result end rest c.tokens.tokens c.push.new.self ts
    (sym (rw c.in-Some.is at c.in_ok-token.ensures.exact)) c.skip-next.ensures.exact c.place_of_rest-place.ensures
    c.in_ok-push.ensures.ok (λ us. c.tokens.invariant us end rest) lexed

pub returns : goal.returns
returns g c =
    let token_at = g.L.Lexical.token_at in
    let skipped = g.L.Lexical.skipped in
    let none = sym (rw c.in_default.is at c.in_ok-token.ensures.exact) in
    subst (λ ts. AreTokensOf token_at skipped c.args.at c.args.bytes.now ts c.tokens.place c.tokens.rest.now) (append-nil c.tokens.tokens)
    (c.tokens.invariant [] c.tokens.place c.tokens.rest.now (none, refl, refl))
