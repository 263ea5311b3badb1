use Rattle.std.proofs.Common.{arith, length, ap}
use Rattle.arch_model.proofs.PortCount.{few-ports}
use Rattle.arch_model.proofs.arch.Arch.port_count.Goals as goal

pub overflow_cast-result : goal.overflow_cast-result
overflow_cast-result c = omega (arith, few-ports c.args.self.now c.ports.ensures.well_formed, ap length c.ports.ensures.rows)
