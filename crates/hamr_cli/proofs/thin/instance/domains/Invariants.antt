use Rattle.std.proofs.Common.{◌≡◌, take, map}
use Rattle.hamr_cli.specs.Instance.{domain_of}
use Rattle.hamr_cli.proofs.thin.instance.domains.Given as goal

abbrev pub invariant-loop-subcomponent : goal.invariant-loop-subcomponent
invariant-loop-subcomponent l = l.pds ≡ map domain_of (take l.subcomponent-index l.subcomponents)
