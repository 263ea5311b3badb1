use Rattle.aadl_structure.proofs.MembersTold.{members_told}
use Rattle.aadl_structure.proofs.duplicates.first_member.Goals as goal

pub returns : goal.returns
returns c =
    members_told c.args.subcomponents.now c.args.connections.now c.args.known c.new.result.first c.in_ok-repeated.repeated.first c.in_ok-repeated-2.repeated.first
    c.new.result.seen c.in_ok-repeated.repeated.seen c.new.ensures.seen c.new.ensures.first c.in_ok-repeated.ensures.seen c.in_ok-repeated.ensures.first
    c.in_ok-repeated-2.ensures.first
