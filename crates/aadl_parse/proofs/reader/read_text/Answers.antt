use Rattle.std.proofs.Common.{ℕ, arith}
use Rattle.std.proofs.lemmas.Result.{IfOk-weaker}
use Rattle.hw_text.specs.WholeTexts.{IsAccepted, IsRejected, IsSound, FailsAt}
use Rattle.hw_text.proofs.Verdicts.{sound-accepted, failure-rejected, IfRefused-weaker}
use Rattle.aadl_parse.specs.Rules.{text_rules}
use Rattle.aadl_parse.proofs.WholeModels.{models-one, small-enough}
use Rattle.aadl_parse.proofs.reader.read_text.Goals as goal

pub returns-clause-accepted : goal.returns-clause-accepted
returns-clause-accepted g c =
    let rules = text_rules g.P.Part.spells in
    let l = c.in_ok-lexed.lexed in
    let small = small-enough c.args.bytes.now (omega (arith, c.if-bytes-gt-LARGEST.false)) in
    IfOk-weaker c.read_lexed.result (λ value. IsSound rules l.tokens l.end l.stop value) (λ value. IsAccepted rules c.args.bytes.now value)
    (λ value so. sound-accepted rules models-one c.args.bytes.now small l.tokens l.end l.stop c.in_ok-lexed.ensures value so) c.read_lexed.ensures.read

pub returns-clause-rejected : goal.returns-clause-rejected
returns-clause-rejected g c =
    let rules = text_rules g.P.Part.spells in
    let l = c.in_ok-lexed.lexed in
    let small = small-enough c.args.bytes.now (omega (arith, c.if-bytes-gt-LARGEST.false)) in
    IfRefused-weaker c.read_lexed.result (λ refusal. (i : ℕ) × FailsAt rules l.tokens l.end l.stop i refusal) (λ refusal. IsRejected rules c.args.bytes.now refusal)
    (λ refusal so. failure-rejected rules models-one c.args.bytes.now small l.tokens l.end l.stop c.in_ok-lexed.ensures refusal so.0 so.1) c.read_lexed.ensures.refused
