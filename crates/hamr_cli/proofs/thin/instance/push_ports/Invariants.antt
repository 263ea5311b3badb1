use Rattle.std.proofs.Common.{◌≡◌, ◌++◌, take, map}
use Rattle.hamr_cli.specs.Instance.{port_of}
use Rattle.hamr_cli.proofs.thin.instance.push_ports.Given as goal

abbrev pub invariant-loop-feature : goal.invariant-loop-feature
invariant-loop-feature l = l.ports ≡ l.fn.ports ++ map (port_of l.domain) (take l.feature-index l.features)
