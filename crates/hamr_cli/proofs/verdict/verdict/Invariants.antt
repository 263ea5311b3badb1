use Rattle.std.proofs.Common.{◌≡◌}
use Rattle.rts_rules.specs.Services.{IsStateOf}
use Rattle.hamr_cli.proofs.Runs.{RunsTo}
use Rattle.hamr_cli.proofs.verdict.verdict.Given as goal

abbrev pub invariant-loop-line : goal.invariant-loop-line
invariant-loop-line l = record {
  counted : l.number ≡ l.line-index;
  runs : RunsTo l.arch l.lines l.line-index l.state;
  started : IsStateOf l.arch l.state;
}
