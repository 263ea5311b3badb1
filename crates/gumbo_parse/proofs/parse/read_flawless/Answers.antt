use Rattle.std.proofs.Common.{◌∙◌, sym, ap, subst, ℕ, List, length, slice_get}
use Rattle.hw_text.specs.WholeTexts.{FailsAt}
use Rattle.hw_text.proofs.FirstFailures.{sound-stuck, text-stopped}
use Rattle.hw_text.proofs.WholeLists.{empty}
use Rattle.gumbo_parse.specs.Refusals.{unexpected_there}
use Rattle.gumbo_parse.specs.Rules.{contract_rules}
use Rattle.gumbo_parse.specs.Values.{Tokens}
use Rattle.gumbo_parse.proofs.WholeContracts.{not-told}
use Rattle.gumbo_parse.proofs.parse.read_flawless.Goals as goal

pub returns-then-lexed-eq0-clause-read : goal.returns-then-lexed-eq0-clause-read
returns-then-lexed-eq0-clause-read c = λ at.
    let whole = rw (c.rows.ensures, c.in-Text.is) at c.in_ok-value.ensures in
    record {
      ended = empty c.args.lexed.now.rest.now c.if-lexed-eq0.true;
      spelled = whole.0;
      only = whole.1;
      sound = λ k. not-told c.args.lexed.now.tokens k (c.requires k);
    }

pub returns-else-lexed-eq0-clause-refused : goal.returns-else-lexed-eq0-clause-refused
returns-else-lexed-eq0-clause-refused c = λ at.
    let rules = contract_rules at in
    let l = c.args.lexed.now in
    let whole = rw (c.rows.ensures, c.in-Text.is) at c.in_ok-value.ensures in
    let all = c.unexpected_behind.ensures ∙ ap (λ (ts : Tokens). unexpected_there l.end (slice_get l.tokens (length ts))) c.rows-tokens.ensures in (
      length l.tokens,
      subst (FailsAt rules l.tokens l.end l.rest.now (length l.tokens)) (sym all)
          (text-stopped rules l.tokens l.end l.rest.now c.in-Text.value (λ k. not-told l.tokens k (c.requires k)) whole.0 (λ ended. c.if-lexed-eq0.false (ap (λ (r : List ℕ). length r) ended))),
    )

pub returns-in-Stuck-clause-refused : goal.returns-in-Stuck-clause-refused
returns-in-Stuck-clause-refused c = λ at.
    let rules = contract_rules at in
    let l = c.args.lexed.now in
    let stuck = rw (c.rows.ensures, c.in-Stuck.is) at c.in_ok-value.ensures in (
      c.in-Stuck.passed,
      subst (FailsAt rules l.tokens l.end l.rest.now c.in-Stuck.passed) (sym c.unexpected_behind-in-Stuck.ensures)
          (sound-stuck rules l.tokens l.end l.rest.now c.in-Stuck.passed (λ k. not-told l.tokens k (c.requires k)) stuck),
    )
