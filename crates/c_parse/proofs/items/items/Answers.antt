use Rattle.c_parse.proofs.Steps.{fails}
use Rattle.c_parse.proofs.Lists.{none_read, list_read, member_stuck, member_read, member_shorter}
use Rattle.c_parse.proofs.ItemChoices.{items_listed, some_left, none_left}
use Rattle.c_parse.proofs.items.items.Goals as goal

pub all-init : goal.all-init
all-init c = none_read (items_listed _) _ c.new-all.ensures _

pub returns-in_err-next : goal.returns-in_err-next
returns-in_err-next c = fails _ _ c.from_residual.ensures.1 c.in_err-next.ensures (member_stuck (items_listed _) _ c.all.invariant (some_left _ c.left.ensures c.all-test.true))

pub all-smaller : goal.all-smaller
all-smaller c = member_shorter (items_listed _) c.in_ok-next.ensures

pub all-preserved : goal.all-preserved
all-preserved c = member_read (items_listed _) _ c.all.invariant (some_left _ c.left.ensures c.all-test.true) c.in_ok-push.ensures.ok c.in_ok-next.ensures

pub returns : goal.returns
returns c = list_read (items_listed _) _ c.all.invariant (none_left _ c.left.ensures c.all-test.false)
