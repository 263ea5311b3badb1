use Rattle.c_parse.proofs.Steps.{fails}
use Rattle.c_parse.proofs.Lists.{none_read, list_read, member_stuck, member_read, member_shorter}
use Rattle.std.proofs.Common.{sym, ◌∙◌}
use Rattle.c_parse.proofs.TypedefTexts.{members}
use Rattle.c_parse.proofs.typedefs.other_members.Goals as goal

pub members-init : goal.members-init
members-init c = none_read members _ c.new-members.ensures _

pub returns-in_err-next : goal.returns-in_err-next
returns-in_err-next c = fails _ _ c.from_residual.ensures.1 c.in_err-next.ensures (member_stuck members _ c.members.invariant (sym c.stands.ensures ∙ c.members-test.true))

pub members-smaller : goal.members-smaller
members-smaller c = member_shorter members c.in_ok-next.ensures

pub members-preserved : goal.members-preserved
members-preserved c = member_read members _ c.members.invariant (sym c.stands.ensures ∙ c.members-test.true) c.in_ok-push.ensures.ok c.in_ok-next.ensures

pub returns : goal.returns
returns c = list_read members _ c.members.invariant (sym c.stands.ensures ∙ c.members-test.false)
