use Rattle.hamr_cli.proofs.Judged.{unread_trace}
use Rattle.hamr_cli.proofs.judge.judge_trace.Goals as goal

pub returns-in-Err : goal.returns-in-Err
returns-in-Err c =
    unread_trace c.args.arch.now c.args.bytes.now c.in-Err.fault c.unread.result c.unread.ensures
    c.in-Err.ensures.bad c.in-Err.ensures.only c.in-Err.ensures.bad_only
