use Rattle.std.proofs.Common.{◌∙◌, ap, sym, subst, ℕ, ◌+◌, List, take, arith}
use Rattle.std.proofs.lemmas.Result.{IfOk-weaker}
use Rattle.hw_text.specs.WholeTexts.{FailsAt}
use Rattle.hw_text.specs.declared.placed.Placed.{Placed}
use Rattle.hw_text.proofs.FirstFailures.{told-before, told-behind}
use Rattle.aadl_tree.specs.declared.token.Token.{Token}
use Rattle.aadl_parse.specs.Rules.{text_rules}
use Rattle.aadl_parse.proofs.WholeModels.{not-told, flaw-within}
use Rattle.aadl_parse.proofs.reader.failure_before.Goals as goal

pub returns-then-passed-flaw : goal.returns-then-passed-flaw
returns-then-passed-flaw g c =
    let rules = text_rules g.P.Part.spells in
    let l = c.args.lexed.now in
    let n = c.args.flaw.index in
    let cut = c.split_at.ensures.front ∙ ap (λ (ts : List (Placed Token)). take (n + 1) ts) c.rows.ensures in
    IfOk-weaker c.unexpected_behind.result _ (λ refusal. (i : ℕ) × FailsAt rules l.tokens l.end l.stop i refusal)
    (λ refusal is. (
      c.passed-passed.result,
      subst (FailsAt rules l.tokens l.end l.stop c.passed-passed.result) (sym is)
          (told-before rules l.tokens l.end l.stop n (flaw-within l.tokens n c.args.flaw.flaw c.requires.flawed) (λ k below. not-told l.tokens k (c.requires.first k below))
          _ cut c.in_ok-whole.whole c.in_ok-whole.ensures c.passed-passed.result c.passed-passed.ensures c.if-passed-flaw.true),
    ))
    c.unexpected_behind.ensures

pub returns : goal.returns
returns g c =
    let rules = text_rules g.P.Part.spells in
    let l = c.args.lexed.now in
    let n = c.args.flaw.index in
    let cut = c.split_at.ensures.front ∙ ap (λ (ts : List (Placed Token)). take (n + 1) ts) c.rows.ensures in
    IfOk-weaker c.flawed_there.result _ (λ refusal. (i : ℕ) × FailsAt rules l.tokens l.end l.stop i refusal)
    (λ refusal is. (
      n,
      told-behind rules l.tokens l.end l.stop n (flaw-within l.tokens n c.args.flaw.flaw c.requires.flawed) (λ k below. not-told l.tokens k (c.requires.first k below))
          _ cut c.in_ok-whole.whole c.in_ok-whole.ensures refusal is (omega (arith, c.if-passed-flaw.false, c.passed-passed.ensures)),
    ))
    c.flawed_there.ensures
