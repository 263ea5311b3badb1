use Rattle.std.proofs.Common.{◌≡◌, ◌∙◌, ap, ℕ, ◌+◌, ◌<◌, length, take, sym, subst, arith}
use Rattle.std.proofs.lemmas.Result.{IfOk-weaker}
use Rattle.hw_text.specs.WholeTexts.{FailsAt}
use Rattle.hw_text.proofs.FirstFailures.{told-before, told-behind}
use Rattle.c_parse.specs.WholeUnits.{unit_rules}
use Rattle.c_parse.specs.Values.{Tokens}
use Rattle.c_parse.specs.Flaws.{flawed}
use Rattle.c_parse.specs.Refusals.{unexpected_at}
use Rattle.c_parse.proofs.FlawPlaces.{flaw-within}
use Rattle.c_parse.proofs.WholeUnits.{not-flawed, flaw-told}
use Rattle.c_parse.proofs.reader.failure_before.Goals as goal

pub overflow_add-found : goal.overflow_add-found
overflow_add-found c =
    let within = flaw-within c.args.dialect c.args.lexed.now.tokens c.args.found.index c.args.found.flaw c.requires.flawed in
    omega (arith, within, ap (λ (ts : Tokens). length ts) c.rows.ensures)

pub split_at-requires : goal.split_at-requires
split_at-requires c =
    let within = flaw-within c.args.dialect c.args.lexed.now.tokens c.args.found.index c.args.found.flaw c.requires.flawed in
    omega (arith, within, ap (λ (ts : Tokens). length ts) c.rows.ensures)

pub returns-then-passed-found : goal.returns-then-passed-found
returns-then-passed-found c =
    let l = c.args.lexed.now in
    let dialect = c.args.dialect in
    let found = c.args.found in
    let rules = unit_rules dialect in
    let cut = c.split_at.ensures.front ∙ ap (λ (ts : Tokens). take (found.index + 1) ts) c.rows.ensures in
    let fails = told-before rules l.tokens l.end l.rest.now found.index (flaw-within dialect l.tokens found.index found.flaw c.requires.flawed)
    (λ k less. not-flawed dialect l.tokens k (c.requires.first k less)) _ cut c.in_ok-whole.whole c.in_ok-whole.ensures c.passed-passed.result c.passed-passed.ensures c.if-passed-found.true in
    IfOk-weaker c.unexpected_at.result (λ r. r ≡ unexpected_at dialect l.tokens l.end l.rest.now c.passed-passed.result) (λ r. (i : ℕ) × FailsAt rules l.tokens l.end l.rest.now i r)
    (λ r told. (c.passed-passed.result, subst (FailsAt rules l.tokens l.end l.rest.now c.passed-passed.result) (sym told) fails)) c.unexpected_at.ensures

pub returns : goal.returns
returns c =
    let l = c.args.lexed.now in
    let dialect = c.args.dialect in
    let found = c.args.found in
    let rules = unit_rules dialect in
    let cut = c.split_at.ensures.front ∙ ap (λ (ts : Tokens). take (found.index + 1) ts) c.rows.ensures in
    let within = flaw-within dialect l.tokens found.index found.flaw c.requires.flawed in
    let above = subst (λ (n : ℕ). found.index < n) c.passed-passed.ensures c.if-passed-found.false in
    let fails = told-behind rules l.tokens l.end l.rest.now found.index within (λ k less. not-flawed dialect l.tokens k (c.requires.first k less)) _ cut c.in_ok-whole.whole c.in_ok-whole.ensures
    (flawed l.tokens found.index found.flaw) (flaw-told dialect l.tokens found.index found.flaw c.requires.flawed) above in
    IfOk-weaker c.flawed.result (λ r. r ≡ flawed c.rows-2.result.now found.index found.flaw) (λ r. (i : ℕ) × FailsAt rules l.tokens l.end l.rest.now i r)
    (λ r told. (
      found.index,
      subst (FailsAt rules l.tokens l.end l.rest.now found.index) (sym (told ∙ ap (λ (ts : Tokens). flawed ts found.index found.flaw) c.rows-2.ensures)) fails,
    )) c.flawed.ensures
