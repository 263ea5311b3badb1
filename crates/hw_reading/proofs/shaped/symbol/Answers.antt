use Rattle.std.proofs.Common.{◌∙◌, sym}
use Rattle.hw_text.specs.Reading.{Anything}
use Rattle.hw_text.proofs.Reading.{ahead-reached, ahead-stuck}
use Rattle.hw_reading.specs.Shapes.{place_of}
use Rattle.hw_reading.proofs.Shapes.{a_symbol}
use Rattle.hw_reading.proofs.shaped.symbol.Goals as goal

pub returns-in_default : goal.returns-in_default
returns-in_default g c =
    let s = c.args.shape in
    ahead-stuck (place_of g.T.Shaped.shape g.T.Shaped.same s) Anything _ (a_symbol g.T.Shaped.shape g.T.Shaped.same s (g.met.T.Shaped.sample s) (record { line = 1; column = 1 })) (sym c.place_ahead.ensures ∙ c.in_default.is)

pub returns : goal.returns
returns g c = ahead-reached (place_of g.T.Shaped.shape g.T.Shaped.same c.args.shape) Anything _ _ _ (sym c.place_ahead.ensures ∙ c.in-Some.is) c.pass.ensures
