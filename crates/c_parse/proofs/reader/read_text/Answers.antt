use Rattle.std.proofs.Common.{ℕ}
use Rattle.std.proofs.lemmas.Result.{IfOk-weaker}
use Rattle.hw_text.specs.WholeTexts.{IsAccepted, IsRejected, IsSound, FailsAt}
use Rattle.hw_text.proofs.Verdicts.{sound-accepted, failure-rejected, IfRefused-weaker}
use Rattle.c_parse.specs.WholeUnits.{unit_rules}
use Rattle.c_parse.proofs.WholeUnits.{units-one}
use Rattle.c_parse.proofs.reader.read_text.Goals as goal

pub returns-clause-accepted : goal.returns-clause-accepted
returns-clause-accepted c =
    let l = c.in_ok-lexed.lexed in
    let rules = unit_rules c.args.dialect in
    IfOk-weaker c.read_lexed.result (λ unit. IsSound rules l.tokens l.end l.rest.now unit) (λ unit. IsAccepted rules c.args.bytes.now unit)
    (λ unit so. sound-accepted rules units-one c.args.bytes.now c.requires l.tokens l.end l.rest.now c.in_ok-lexed.ensures unit so) c.read_lexed.ensures.read

pub returns-clause-rejected : goal.returns-clause-rejected
returns-clause-rejected c =
    let l = c.in_ok-lexed.lexed in
    let rules = unit_rules c.args.dialect in
    IfRefused-weaker c.read_lexed.result (λ refusal. (i : ℕ) × FailsAt rules l.tokens l.end l.rest.now i refusal) (λ refusal. IsRejected rules c.args.bytes.now refusal)
    (λ refusal so. failure-rejected rules units-one c.args.bytes.now c.requires l.tokens l.end l.rest.now c.in_ok-lexed.ensures refusal so.0 so.1) c.read_lexed.ensures.refused
