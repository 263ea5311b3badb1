use Rattle.std.proofs.Common.{ap}
use Rattle.rts_rules.specs.Services.{Services}
use Rattle.rts_rules.specs.Left.{left_as}
use Rattle.rts_rules.proofs.Queues.{set-changed}
use Rattle.rts_rules.proofs.Steps.{on-ok}
use Rattle.rts_rules.proofs.state.ServiceState.act.Goals as goal

pub returns-clause-ok : goal.returns-clause-ok
returns-clause-ok c =
    let queues = ap (λ (s : Services). s.queues) c.self.view_is in
    on-ok c.act_as.result
    (λ is.
    let threads = set-changed c.self.inside.threads.items c.args.self.now.threads c.args.who.0 (left_as c.args.role c.args.what.now) c.index_mut.result.now c.act_as.new.self
    (ap (λ (s : Services). s.threads) c.self.view_is) c.requires.inside c.index_mut.ensures.value is in
    λ i. record { threads = threads i; queues = queues i }) c.act_as.ensures.ok
