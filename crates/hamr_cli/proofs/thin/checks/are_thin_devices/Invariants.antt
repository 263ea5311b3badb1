use Rattle.std.proofs.Common.{take, All}
use Rattle.hamr_cli.specs.Model.{IsThinDevice}
use Rattle.hamr_cli.proofs.thin.checks.are_thin_devices.Given as goal

abbrev pub invariant-loop-device : goal.invariant-loop-device
invariant-loop-device l = All IsThinDevice (take l.device-index l.devices)
