use Rattle.hamr_cli.specs.Outside.{outside}
use Rattle.hamr_cli.proofs.Served.{answer_done, answer_no_row}
use Rattle.hamr_cli.proofs.top.hamr.Goals as goal

pub returns-clause-complete : goal.returns-clause-complete
returns-clause-complete g c = λ command row serves.
    answer_done c.args.words.now command
    (outside (g.S.Store.means c.args.store.now) (g.O.Sink.means c.args.out.now))
    (outside (g.S.Store.means c.perform.new.store) (g.O.Sink.means c.perform.new.out))
    c.perform.result c.perform.ensures.answer row serves

pub returns-clause-no_row : goal.returns-clause-no_row
returns-clause-no_row g c = λ none.
    answer_no_row c.args.words.now
    (outside (g.S.Store.means c.args.store.now) (g.O.Sink.means c.args.out.now))
    (outside (g.S.Store.means c.perform.new.store) (g.O.Sink.means c.perform.new.out))
    c.perform.result c.perform.ensures.answer none
