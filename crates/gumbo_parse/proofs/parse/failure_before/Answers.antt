use Rattle.std.proofs.Common.{◌∙◌, ap, sym, subst, ℕ, ◌+◌, List, take, Some, arith}
use Rattle.std.proofs.lemmas.Result.{IfOk-weaker}
use Rattle.hw_text.specs.declared.placed.Placed.{Placed}
use Rattle.hw_text.specs.WholeTexts.{FailsAt}
use Rattle.hw_text.proofs.FirstFailures.{told-before, told-behind}
use Rattle.gumbo_parse.specs.declared.token.Token.{Token}
use Rattle.gumbo_parse.specs.Refusals.{flawed}
use Rattle.gumbo_parse.specs.Rules.{contract_rules}
use Rattle.gumbo_parse.proofs.WholeContracts.{not-told, told, flaw-within}
use Rattle.gumbo_parse.proofs.parse.failure_before.Goals as goal

pub returns-then-passed-flaw : goal.returns-then-passed-flaw
returns-then-passed-flaw c = λ at.
    let rules = contract_rules at in
    let l = c.args.lexed.now in
    let n = c.args.flaw.index in
    let cut = c.split_at.ensures.front ∙ ap (λ (ts : List (Placed Token)). take (n + 1) ts) c.rows.ensures in (
      c.passed-passed.result,
      subst (FailsAt rules l.tokens l.end l.rest.now c.passed-passed.result) (sym c.unexpected_behind.ensures)
          (told-before rules l.tokens l.end l.rest.now n (flaw-within l.tokens n c.args.flaw.flaw c.requires.flawed) (λ k below. not-told l.tokens k (c.requires.first k below))
          _ cut c.in_ok-whole.whole c.in_ok-whole.ensures c.passed-passed.result c.passed-passed.ensures c.if-passed-flaw.true),
    )

pub returns : goal.returns
returns c = λ at.
    let rules = contract_rules at in
    let l = c.args.lexed.now in
    let n = c.args.flaw.index in
    let flaw = c.args.flaw.flaw in
    let cut = c.split_at.ensures.front ∙ ap (λ (ts : List (Placed Token)). take (n + 1) ts) c.rows.ensures in
    IfOk-weaker c.flawed.result _ (λ refusal. (i : ℕ) × FailsAt rules l.tokens l.end l.rest.now i refusal)
    (λ refusal is. (
      n,
      told-behind rules l.tokens l.end l.rest.now n (flaw-within l.tokens n flaw c.requires.flawed) (λ k below. not-told l.tokens k (c.requires.first k below))
          _ cut c.in_ok-whole.whole c.in_ok-whole.ensures refusal
          (told l.tokens n flaw c.requires.flawed ∙ ap Some (sym (is ∙ ap (λ (ts : List (Placed Token)). flawed ts n flaw) c.rows-2.ensures)))
          (omega (arith, c.if-passed-flaw.false, c.passed-passed.ensures)),
    ))
    c.flawed.ensures
