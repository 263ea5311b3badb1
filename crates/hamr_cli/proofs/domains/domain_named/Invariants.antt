use Rattle.std.proofs.Common.{◌≡◌, drop}
use Rattle.arch_model.specs.LookUp.{pd_named, pd_named_from}
use Rattle.hamr_cli.proofs.domains.domain_named.Given as goal

abbrev pub invariant-loop-pd : goal.invariant-loop-pd
invariant-loop-pd l = (l.place ≡ l.pd-index) × (pd_named_from l.place (drop l.pd-index l.pds) l.name ≡ pd_named l.pds l.name)
