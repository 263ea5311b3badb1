use Rattle.std.proofs.Common.{◌≡◌, ◌++◌, drop}
use Rattle.hamr_cli.specs.Instance.{ports_from}
use Rattle.hamr_cli.proofs.thin.instance.ports_from.Given as goal

abbrev pub invariant-loop-subcomponent : goal.invariant-loop-subcomponent
invariant-loop-subcomponent l = record {
  counted : l.domain ≡ l.subcomponent-index;
  same : l.ports ++ ports_from l.devices l.domain (drop l.subcomponent-index l.subcomponents) ≡ ports_from l.devices 0 l.subcomponents;
}
