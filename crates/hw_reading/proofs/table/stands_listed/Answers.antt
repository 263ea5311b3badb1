use Rattle.std.proofs.Common.{◌∙◌, ap}
use Rattle.std.specs.Prelude.{is_some}
use Rattle.hw_reading.proofs.Shapes.{listed-ahead}
use Rattle.hw_reading.proofs.table.stands_listed.Goals as goal

pub returns : goal.returns
returns g c = c.is_some.ensures ∙ ap is_some c.listed_ahead.ensures ∙ listed-ahead g.T.Shaped.shape g.T.Shaped.same c.args.rows.now _
