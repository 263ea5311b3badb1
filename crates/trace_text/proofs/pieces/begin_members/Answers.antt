use Rattle.trace_text.proofs.Works.{on-ok, begin-some, begin-none}
use Rattle.std.proofs.Common.{sym}
use Rattle.trace_text.proofs.pieces.begin_members.Goals as goal

pub returns-in-Some : goal.returns-in-Some
returns-in-Some c = on-ok c.push-in-Some.result c.push-in-Some.ensures.ok
    (λ pushed all. begin-some c.args.types.now all c.args.row.now c.args.place _ _ _ _ c.requires c.in_ok-push.ensures.ok pushed (sym c.in-Some.ensures.place))

pub returns-in-None : goal.returns-in-None
returns-in-None c = λ all. begin-none c.args.types.now all c.args.row.now c.args.place _ _ c.requires c.in_ok-push.ensures.ok (sym c.in-None.ensures.place)
