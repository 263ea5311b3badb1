use Rattle.std.proofs.Common.{◌∙◌, sym}
use Rattle.hw_text.specs.Reading.{Anything}
use Rattle.hw_text.proofs.Reading.{ahead-reached, ahead-stuck}
use Rattle.hw_reading.specs.Shapes.{one_listed}
use Rattle.hw_reading.proofs.Shapes.{a_listed}
use Rattle.hw_reading.proofs.table.read_listed.Goals as goal

pub returns-in_default : goal.returns-in_default
returns-in_default g c =
    let rows = c.args.rows.now in
    ahead-stuck (one_listed g.T.Shaped.shape g.T.Shaped.same rows) Anything _ (a_listed g.T.Shaped.shape g.T.Shaped.same rows c.requires g.met.T.Shaped.sample (record { line = 1; column = 1 })) (sym c.listed_ahead.ensures ∙ c.in_default.is)

pub returns : goal.returns
returns g c = ahead-reached (one_listed g.T.Shaped.shape g.T.Shaped.same c.args.rows.now) Anything _ _ _ (sym c.listed_ahead.ensures ∙ c.in-Some.is) c.pass.ensures
