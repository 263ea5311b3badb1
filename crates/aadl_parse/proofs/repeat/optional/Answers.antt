use Rattle.std.proofs.Common.{sym, ◌∙◌}
use Rattle.hw_text.proofs.Reading.{failed}
use Rattle.aadl_parse.proofs.Repeats.{absent, present-stuck, present-read}
use Rattle.aadl_parse.proofs.repeat.optional.Goals as goal

pub returns-then-not-stands : goal.returns-then-not-stands
returns-then-not-stands g c = absent g.A.Part.spells g.A.Part.starts g.A.Part.goes_on g.A.Part.begun _ (sym c.stands.ensures ∙ c.if-not-stands.true)

pub returns-in_err-value : goal.returns-in_err-value
returns-in_err-value g c =
    failed _ _ _ _ _ _ _ _ _ c.from_residual.ensures.1 c.in_err-value.ensures
    (present-stuck g.A.Part.spells g.A.Part.starts g.A.Part.goes_on g.A.Part.begun _ _ (sym c.stands.ensures ∙ c.if-not-stands.false))

pub returns : goal.returns
returns g c = present-read g.A.Part.spells g.A.Part.starts g.A.Part.goes_on g.A.Part.begun _ _ _ (sym c.stands.ensures ∙ c.if-not-stands.false) c.in_ok-value.ensures
