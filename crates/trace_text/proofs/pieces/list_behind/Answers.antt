use Rattle.std.proofs.Common.{sym}
use Rattle.trace_text.proofs.Works.{on-ok, behind-some, behind-close}
use Rattle.trace_text.proofs.pieces.list_behind.Goals as goal

pub returns-in_ok-push-in-Some-3-clause-listed : goal.returns-in_ok-push-in-Some-3-clause-listed
returns-in_ok-push-in-Some-3-clause-listed c = on-ok c.push-in-Some-3.result c.push-in-Some-3.ensures.ok
    (λ pushed all. behind-some c.args.types.now all c.args.row.now c.args.place _ c.args.done c.args.left.now _ c.push-in-Some-3.new.self c.args.pieces.now _ c.push-in-Some.new.self c.requires c.in_ok-push-in-Some-3.ensures.ok pushed (sym c.in-Some.ensures.place) c.in_ok-push-in-Some.ensures.ok c.in_ok-push-in-Some-2.ensures.ok)

pub returns-in-None-clause-listed : goal.returns-in-None-clause-listed
returns-in-None-clause-listed c = on-ok c.push-in-None.result c.push-in-None.ensures.ok
    (λ pushed all. behind-close c.args.types.now all c.args.row.now c.args.place c.args.done c.args.left.now c.args.pieces.now c.push-in-None.new.self c.closing.result c.closing.ensures c.requires (sym c.in-None.ensures.place) pushed)
