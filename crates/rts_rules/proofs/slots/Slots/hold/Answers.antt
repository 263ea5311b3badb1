use Rattle.rts_rules.specs.Thread.{holding}
use Rattle.rts_rules.proofs.Changes.{slot-set}
use Rattle.rts_rules.proofs.slots.Slots.hold.Goals as goal

pub returns-in-Some : goal.returns-in-Some
returns-in-Some c =
    slot-set c.self.inside.slots.items c.args.self.now c.args.port c.in-Some.place (holding c.args.held) c.index_mut.result.now c.hold.new.self
    c.self.view_is c.in-Some.ensures.changed c.index_mut.ensures.value c.hold.ensures
