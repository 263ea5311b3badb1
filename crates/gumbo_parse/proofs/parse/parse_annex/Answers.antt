use Rattle.std.proofs.Common.{ℕ, refl}
use Rattle.std.proofs.lemmas.Result.{IfOk-weaker}
use Rattle.hw_text.specs.WholeTexts.{IsAccepted, IsRejected, IsSound, FailsAt}
use Rattle.hw_text.proofs.Verdicts.{sound-accepted, failure-rejected, IfRefused-weaker}
use Rattle.gumbo_parse.specs.Rules.{contract_rules}
use Rattle.gumbo_parse.proofs.PrintedLaw.{read_back}
use Rattle.gumbo_parse.proofs.WholeContracts.{contracts-one}
use Rattle.gumbo_parse.proofs.parse.parse_annex.Goals as goal

pub returns-clause-accepted : goal.returns-clause-accepted
returns-clause-accepted c =
    let l = c.in_ok-lexed.lexed in
    let at = c.args.at in
    let rules = contract_rules at in
    IfOk-weaker c.read_lexed.result (λ value. IsSound rules l.tokens l.end l.rest.now value) (λ value. IsAccepted rules c.args.bytes.now value)
    (λ value so. sound-accepted rules (contracts-one at) c.args.bytes.now refl l.tokens l.end l.rest.now c.in_ok-lexed.ensures value so) (c.read_lexed.ensures.read at)

pub returns-clause-rejected : goal.returns-clause-rejected
returns-clause-rejected c =
    let l = c.in_ok-lexed.lexed in
    let at = c.args.at in
    let rules = contract_rules at in
    IfRefused-weaker c.read_lexed.result (λ refusal. (i : ℕ) × FailsAt rules l.tokens l.end l.rest.now i refusal) (λ refusal. IsRejected rules c.args.bytes.now refusal)
    (λ refusal so. failure-rejected rules (contracts-one at) c.args.bytes.now refl l.tokens l.end l.rest.now c.in_ok-lexed.ensures refusal so.0 so.1) (c.read_lexed.ensures.refused at)

pub returns-clause-printed : goal.returns-clause-printed
returns-clause-printed c =
    λ contract is allowed limits. read_back c.read_lexed.result c.args.at c.args.bytes.now (returns-clause-accepted c) (returns-clause-rejected c) contract is allowed limits
