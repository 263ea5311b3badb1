use Rattle.std.proofs.Common.{◌≡◌, drop}
use Rattle.hamr_cli.specs.Instance.{features_named}
use Rattle.hamr_cli.proofs.thin.instance.features_named.Given as goal

abbrev pub invariant-loop-device : goal.invariant-loop-device
invariant-loop-device l = features_named (drop l.device-index l.devices) l.name ≡ features_named l.devices l.name
