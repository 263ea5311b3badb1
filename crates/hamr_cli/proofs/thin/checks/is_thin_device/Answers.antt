use Rattle.std.proofs.Common.{◌≤◌, List, [], length, All, map, ap, arith}
use Rattle.hamr_cli.specs.declared.thin.feature.Feature.{Feature}
use Rattle.hamr_cli.specs.Names.{are_new}
use Rattle.hamr_cli.specs.Model.{HasThinQueue}
use Rattle.hamr_cli.proofs.NameLemmas.{differ-result, new-same}
use Rattle.hamr_cli.proofs.Devices.{thin-device}
use Rattle.hamr_cli.proofs.thin.checks.is_thin_device.Goals as goal

pub returns : goal.returns
returns c =
    let name = λ (f : Feature). f.name in
    let device = c.args.device.now in
    let features = c.rows-features.result.now in
    let same = c.rows-features.ensures in
    let some : 1 ≤ length device.features = omega (arith, ap (λ (l : List Feature). length l) same) in
    let few : length device.features ≤ 32 = omega (arith, ap (λ (l : List Feature). length l) same) in
    let queues : All HasThinQueue device.features = rw (← same) (c.have_thin_queues.ensures.0 c.if-not-have_thin_queues.false) in
    thin-device c.insert_all.result device (c.is_same.ensures.0 c.if-not-is_same.false) some few queues
    (differ-result c.insert_all.result (are_new c.new.result (map name features)) (map name device.features) c.insert_all.ensures.exact
    (new-same c.new.result [] (map name features) (map name device.features) c.new.ensures (ap (map name) same)))
