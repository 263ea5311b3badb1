use Rattle.std.proofs.Common.{◌≡◌, drop}
use Rattle.hamr_cli.specs.TracePort.{port_from}
use Rattle.hamr_cli.proofs.trace.names.port_named.Given as goal

abbrev pub invariant-loop-port : goal.invariant-loop-port
invariant-loop-port l =
    (l.place ≡ l.port-index) × (port_from l.place (drop l.port-index l.ports) l.owner l.outward l.name ≡ port_from 0 l.ports l.owner l.outward l.name)
