use Rattle.std.proofs.Common.{◌≡◌, drop}
use Rattle.hamr_cli.specs.Instance.{is_declared}
use Rattle.hamr_cli.proofs.thin.instance.is_declared.Given as goal

abbrev pub invariant-loop-device : goal.invariant-loop-device
invariant-loop-device l = is_declared (drop l.device-index l.devices) l.name ≡ is_declared l.devices l.name
