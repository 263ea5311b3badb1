use Rattle.std.proofs.Common.{ap}
use Rattle.rts_rules.specs.Services.{Services}
use Rattle.rts_rules.specs.Queue.{taken}
use Rattle.rts_rules.proofs.Queues.{set-changed}
use Rattle.rts_rules.proofs.state.ServiceState.receive.Goals as goal

pub returns : goal.returns
returns c =
    let threads = ap (λ (s : Services). s.threads) c.self.view_is in
    let queues = set-changed c.self.inside.queues.items c.args.self.now.queues c.args.port.0 taken c.index_mut.result.now c.take.new.self
    (ap (λ (s : Services). s.queues) c.self.view_is) c.requires c.index_mut.ensures.value c.take.ensures in
    λ i. record { threads = threads i; queues = queues i }
