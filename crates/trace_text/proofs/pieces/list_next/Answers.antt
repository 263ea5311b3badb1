use Rattle.std.proofs.Common.{length}
use Rattle.trace_text.proofs.Works.{on-ok, whole-nothing, behind-nothing, not-within}
use Rattle.trace_text.proofs.pieces.list_next.Goals as goal

pub returns-in-None-clause-listed : goal.returns-in-None-clause-listed
returns-in-None-clause-listed c = on-ok c.push.result c.push.ensures.ok
    (λ pushed all are. whole-nothing c.args.types.now all c.in-Whole.place c.args.left.now c.args.pieces.now c.push.new.self c.args.work c.in-Whole.is
    (not-within c.in-Whole.place (length c.args.types.now) c.in-None.ensures.lookup.0) are pushed)

pub returns-in-None-get-clause-listed : goal.returns-in-None-get-clause-listed
returns-in-None-get-clause-listed c = on-ok c.push-in-None-get.result c.push-in-None-get.ensures.ok
    (λ pushed all are. behind-nothing c.args.types.now all c.in-Behind.place c.in-Behind.done c.args.left.now c.args.pieces.now c.push-in-None-get.new.self c.args.work c.in-Behind.is
    (not-within c.in-Behind.place (length c.args.types.now) c.in-None-get.ensures.lookup.0) pushed)
