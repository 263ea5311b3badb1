use Rattle.std.proofs.Common.{◌≡◌, true, take, All}
use Rattle.hamr_cli.specs.Instance.{is_declared}
use Rattle.hamr_cli.proofs.thin.checks.all_declared.Given as goal

abbrev pub invariant-loop-subcomponent : goal.invariant-loop-subcomponent
invariant-loop-subcomponent l = All (λ s. is_declared l.devices s.device ≡ true) (take l.subcomponent-index l.subcomponents)
