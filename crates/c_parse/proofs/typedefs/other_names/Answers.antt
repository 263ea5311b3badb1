use Rattle.c_parse.proofs.Steps.{fails}
use Rattle.c_parse.proofs.Lists.{none_read, list_read, member_stuck, member_read, member_shorter}
use Rattle.std.proofs.Common.{sym, ◌∙◌}
use Rattle.c_parse.proofs.TypedefTexts.{names}
use Rattle.c_parse.proofs.typedefs.other_names.Goals as goal

pub names-init : goal.names-init
names-init c = none_read names _ c.new-names.ensures _

pub returns-in_err-name : goal.returns-in_err-name
returns-in_err-name c = fails _ _ c.from_residual.ensures.1 c.in_err-name.ensures (member_stuck names _ c.names.invariant (sym c.stands.ensures ∙ c.names-test.true))

pub names-smaller : goal.names-smaller
names-smaller c = member_shorter names c.in_ok-name.ensures

pub names-preserved : goal.names-preserved
names-preserved c = member_read names _ c.names.invariant (sym c.stands.ensures ∙ c.names-test.true) c.in_ok-push.ensures.ok c.in_ok-name.ensures

pub returns : goal.returns
returns c = list_read names _ c.names.invariant (sym c.stands.ensures ∙ c.names-test.false)
