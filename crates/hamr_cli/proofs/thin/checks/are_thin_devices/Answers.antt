use Rattle.hamr_cli.specs.Model.{IsThinDevice}
use Rattle.hamr_cli.proofs.Alls.{all-more, all-whole}
use Rattle.hamr_cli.proofs.thin.checks.are_thin_devices.Goals as goal

pub loop-device-preserved : goal.loop-device-preserved
loop-device-preserved c =
    all-more IsThinDevice c.args.devices.now c.loop-device.device-index c.device-item.result c.loop-device-test.true c.device-item.is c.loop-device.invariant (c.in_ok-is_thin_device.ensures.0 c.if-not-branch.false)

pub returns : goal.returns
returns c = all-whole IsThinDevice c.args.devices.now c.loop-device.device-index c.loop-device-test.false c.loop-device.invariant
