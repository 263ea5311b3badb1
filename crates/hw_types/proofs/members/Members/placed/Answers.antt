use Rattle.std.proofs.Common.{arith}
use Rattle.hw_types.proofs.Shapes.{offset-le}
use Rattle.hw_types.proofs.members.Members.placed.Goals as goal

pub append_shifted-requires : goal.append_shifted-requires
append_shifted-requires c =
    let begins = c.round_up-begin.ensures.room in
    let room = c.requires.room in
    rw c.scalars.ensures.cells (λ k d h. omega (arith, begins, room, offset-le c.args.member.now k d c.scalars.ensures.laid_out h))
