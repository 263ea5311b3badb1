use Rattle.std.proofs.Common.{◌+◌, ap}
use Rattle.hamr_cli.proofs.Runs.{RunsTo-next, RunsTo-ended}
use Rattle.hamr_cli.proofs.verdict.verdict.Goals as goal

pub returns-in-Err : goal.returns-in-Err
returns-in-Err c =
    RunsTo-ended c.args.arch.now c.args.lines.now c.loop-line.line-index (c.loop-line.number + 1) c.loop-line.state c.line-item.result
    c.in-Err.fault c.ended.result c.loop-line.invariant.runs c.loop-line-test.true c.line-item.is (ap (λ n. n + 1) c.loop-line.invariant.counted)
    c.in-Err.ensures.illegal c.ended.ensures

pub loop-line-preserved : goal.loop-line-preserved
loop-line-preserved c = record {
  counted = ap (λ n. n + 1) c.loop-line.invariant.counted;
  runs = RunsTo-next c.args.arch.now c.args.lines.now c.loop-line.line-index c.loop-line.state c.step.new.self c.line-item.result
      c.loop-line.invariant.runs c.loop-line-test.true c.line-item.is c.in-Ok.ensures.allowed c.in-Ok.ensures.after;
  started = c.in-Ok.ensures.started;
}
