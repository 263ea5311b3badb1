use Rattle.std.proofs.Common.{◌<◌, length, ap, arith}
use Rattle.rts_rules.specs.Services.{threads_from, queues_from}
use Rattle.rts_rules.proofs.Openings.{threads-grow, queues-grow, start-made}
use Rattle.rts_rules.proofs.state.ServiceState.start.Goals as goal

pub loop-number-preserved : goal.loop-number-preserved
loop-number-preserved c =
    let arch = c.args.arch.now in
    let inside : c.loop-number.number < length arch.pds = omega (arith, ap length c.pds-number-end.ensures.rows) in
    threads-grow arch arch.pds c.loop-number.number c.in_ok-opening.field-0 c.loop-number.threads.items c.push.new.self.items (threads_from 0 arch arch.pds)
    c.loop-number.invariant inside c.in_ok-opening.ensures c.in_ok-push.ensures.items

pub loop-number-2-preserved : goal.loop-number-2-preserved
loop-number-2-preserved c =
    let arch = c.args.arch.now in
    record {
      threads = c.loop-number-2.invariant.threads;
      queues = queues-grow arch arch.ports c.loop-number-2.number c.in_ok-queue_of.field-0 c.loop-number-2.queues.items c.push-in-loop-number-2.new.self.items
          (queues_from 0 arch arch.ports) c.loop-number-2.invariant.queues c.in_ok-queue_of.ensures c.in_ok-push-2.ensures.items;
    }

pub returns-clause-started : goal.returns-clause-started
returns-clause-started c =
    start-made c.args.arch.now c.loop-number-2.number c.loop-number.threads.items c.loop-number-2.queues.items c.loop-number-2.invariant.threads
    c.loop-number-2.invariant.queues (omega (arith, c.port_count-number-end.ensures.count, c.loop-number-2-test.false))
