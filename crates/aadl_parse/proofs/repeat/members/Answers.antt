use Rattle.std.proofs.Common.{sym, ◌∙◌}
use Rattle.hw_text.proofs.Reading.{failed}
use Rattle.aadl_parse.specs.Shapes.{Without}
use Rattle.aadl_parse.proofs.Repeats.{members-begun, members-read, members-stuck, members-more, read-shorter}
use Rattle.aadl_parse.proofs.repeat.members.Goals as goal

pub members-init : goal.members-init
members-init g c = members-begun g.A.Part.spells g.A.Part.starts g.A.Part.goes_on g.A.Part.begun c.args.earlier _

pub returns-in_err-member : goal.returns-in_err-member
returns-in_err-member g c =
    failed _ _ _ _ _ _ _ _ _ c.from_residual.ensures.1 c.in_err-member.ensures
    (members-stuck g.A.Part.spells g.A.Part.starts g.A.Part.goes_on g.A.Part.begun c.args.earlier _ _ c.members.members c.members.invariant
    g.met.A.Behind.apart (sym c.stands.ensures ∙ c.members-test.true) _)

pub members-smaller : goal.members-smaller
members-smaller g c = read-shorter g.A.Part.spells g.A.Part.starts g.A.Part.goes_on g.A.Part.begun (Without g.A.Part.goes_on) _ _ _ c.in_ok-member.ensures

pub members-preserved : goal.members-preserved
members-preserved g c =
    members-more g.A.Part.spells g.A.Part.starts g.A.Part.goes_on g.A.Part.begun c.args.earlier _ _ c.members.members c.members.invariant
    g.met.A.Behind.apart (sym c.stands.ensures ∙ c.members-test.true) _ _ _ c.in_ok-push.ensures.ok c.in_ok-member.ensures

pub returns : goal.returns
returns g c =
    members-read g.A.Part.spells g.A.Part.starts g.A.Part.goes_on g.A.Part.begun c.args.earlier _ _ c.members.members c.members.invariant
    (sym c.stands.ensures ∙ c.members-test.false)
