use Rattle.std.proofs.Common.{refl, ap, ◌∙◌}
use Rattle.hw_types.proofs.Shapes.{shape_with}
use Rattle.hw_types.proofs.PlaceSteps.{end_room, struct-power, struct-laid, struct-laid_out, struct-wide}
use Rattle.hw_types.proofs.members.Members.into_extent.Goals as goal

pub returns-then-self-gt-SCALAR_LIMIT : goal.returns-then-self-gt-SCALAR_LIMIT
returns-then-self-gt-SCALAR_LIMIT c = λ types are.
    struct-wide types c.args.self (record { count = c.args.self.count; align = c.args.self.align }) are c.if-self-gt-SCALAR_LIMIT.true refl refl

pub round_up-size-requires-clause-power : goal.round_up-size-requires-clause-power
round_up-size-requires-clause-power c = struct-power c.requires.0 c.args.self c.requires.1

pub round_up-size-requires-clause-room : goal.round_up-size-requires-clause-room
round_up-size-requires-clause-room c = end_room c.requires.0 c.args.self c.requires.1 c.if-self-gt-SCALAR_LIMIT.false

pub new-requires : goal.new-requires
new-requires c =
    struct-laid_out c.requires.0 c.args.self _ c.requires.1 c.if-self-gt-SCALAR_LIMIT.false
    (ap (λ size. shape_with c.args.self.scalars size c.args.self.align) c.round_up-size.ensures.value)

pub returns : goal.returns
returns c = λ types are.
    struct-laid types c.args.self c.new.result are c.if-self-gt-SCALAR_LIMIT.false
    (c.new.ensures ∙ ap (λ size. shape_with c.args.self.scalars size c.args.self.align) c.round_up-size.ensures.value)
