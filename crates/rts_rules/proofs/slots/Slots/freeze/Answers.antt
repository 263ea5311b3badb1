use Rattle.rts_rules.specs.Thread.{frozen}
use Rattle.rts_rules.proofs.Changes.{slot-set}
use Rattle.rts_rules.proofs.Steps.{on-ok}
use Rattle.rts_rules.proofs.slots.Slots.freeze.Goals as goal

pub returns-in-Some-clause-ok : goal.returns-in-Some-clause-ok
returns-in-Some-clause-ok c =
    on-ok c.freeze.result
    (λ is. slot-set c.self.inside.slots.items c.args.self.now c.args.port c.in-Some.place (frozen c.args.items.now) c.index_mut.result.now c.freeze.new.self
    c.self.view_is c.in-Some.ensures.changed c.index_mut.ensures.value is) c.freeze.ensures.ok
