use Rattle.std.proofs.Common.{◌<◌, None, length, ap, arith}
use Rattle.rts_rules.specs.Thread.{holding}
use Rattle.rts_rules.proofs.Changes.{clear-next}
use Rattle.rts_rules.proofs.slots.Slots.clear.Goals as goal

pub loop-place-preserved : goal.loop-place-preserved
loop-place-preserved c =
    let inside : c.loop-place.place < length c.args.self.now = omega (arith, ap length c.self.view_is, c.len-place-end.ensures) in
    clear-next (holding None) c.args.self.now c.loop-place.self-inside.slots.items c.loop-place.place c.index_mut.result.now c.hold.new.self
    c.loop-place.invariant inside c.index_mut.ensures.value c.hold.ensures
