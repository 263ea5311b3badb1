use Rattle.rts_rules.specs.Services.{IsStateOf}
use Rattle.service_cases.proofs.runs.tell_events.Given as goal

abbrev pub invariant-loop-line : goal.invariant-loop-line
invariant-loop-line l = IsStateOf l.arch l.state
