use Rattle.std.proofs.Common.{subst, sym}
use Rattle.rts_rules.specs.Services.{IsStateOf}
use Rattle.rts_rules.proofs.Steps.{step-fits}
use Rattle.rts_rules.proofs.state.ServiceState.step.Goals as goal

pub returns-clause-started : goal.returns-clause-started
returns-clause-started c =
    subst (IsStateOf c.args.arch.now) (sym c.in_ok-take.ensures.after) (step-fits c.args.arch.now c.args.self.now c.args.e.now c.requires.started)
