use Rattle.std.proofs.Common.{◌∙◌, sym, ap, subst, ℕ, List, length}
use Rattle.hw_text.specs.WholeTexts.{FailsAt}
use Rattle.hw_text.proofs.FirstFailures.{sound-stuck, text-stopped}
use Rattle.hw_text.proofs.WholeLists.{empty}
use Rattle.c_parse.specs.WholeUnits.{unit_rules}
use Rattle.c_parse.specs.Refusals.{unexpected_at}
use Rattle.c_parse.specs.Values.{Tokens}
use Rattle.c_parse.proofs.WholeUnits.{not-flawed}
use Rattle.c_parse.proofs.reader.read_flawless.Goals as goal

pub returns-then-left-eq0-clause-read : goal.returns-then-left-eq0-clause-read
returns-then-left-eq0-clause-read c =
    let whole = rw (c.rows.ensures, c.in-Text.is) at c.in_ok-unit.ensures in
    record {
      ended = empty c.args.lexed.now.rest.now c.if-left-eq0.true;
      spelled = whole.0;
      only = whole.1;
      sound = λ k. not-flawed c.args.dialect c.args.lexed.now.tokens k (c.requires k);
    }

pub returns-in_ok-unexpected_at-in-Text-clause-refused : goal.returns-in_ok-unexpected_at-in-Text-clause-refused
returns-in_ok-unexpected_at-in-Text-clause-refused c =
    let l = c.args.lexed.now in
    let rules = unit_rules c.args.dialect in
    let whole = rw (c.rows.ensures, c.in-Text.is) at c.in_ok-unit.ensures in
    let told = c.in_ok-unexpected_at-in-Text.ensures ∙ ap (λ (ts : Tokens). unexpected_at c.args.dialect l.tokens l.end l.rest.now (length ts)) c.rows-else-left-eq0.ensures in (
      length l.tokens,
      subst (FailsAt rules l.tokens l.end l.rest.now (length l.tokens)) (sym told)
          (text-stopped rules l.tokens l.end l.rest.now c.in-Text.unit (λ k. not-flawed c.args.dialect l.tokens k (c.requires k)) whole.0
          (λ ended. c.if-left-eq0.false (ap (λ (r : List ℕ). length r) ended))),
    )

pub returns-in_ok-unexpected_at-in-Stuck-clause-refused : goal.returns-in_ok-unexpected_at-in-Stuck-clause-refused
returns-in_ok-unexpected_at-in-Stuck-clause-refused c =
    let l = c.args.lexed.now in
    let rules = unit_rules c.args.dialect in
    let stuck = rw (c.rows.ensures, c.in-Stuck.is) at c.in_ok-unit.ensures in (
      c.in-Stuck.passed,
      subst (FailsAt rules l.tokens l.end l.rest.now c.in-Stuck.passed) (sym c.in_ok-unexpected_at-in-Stuck.ensures)
          (sound-stuck rules l.tokens l.end l.rest.now c.in-Stuck.passed (λ k. not-flawed c.args.dialect l.tokens k (c.requires k)) stuck),
    )
