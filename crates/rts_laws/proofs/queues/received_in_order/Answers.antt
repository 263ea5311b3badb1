use Rattle.rts_laws.proofs.Arriving.{in-order}
use Rattle.rts_laws.proofs.queues.received_in_order.Goals as goal

pub returns : goal.returns
returns c = λ queue before later items empty run. in-order queue before later items empty run
