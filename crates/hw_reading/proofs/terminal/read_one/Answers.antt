use Rattle.std.proofs.Common.{sym, ◌∙◌}
use Rattle.hw_text.specs.Reading.{Anything}
use Rattle.hw_text.proofs.Reading.{ahead-reached, ahead-stuck}
use Rattle.hw_reading.proofs.terminal.read_one.Goals as goal

pub returns-in_default : goal.returns-in_default
returns-in_default g c = ahead-stuck g.K.Terminal.value Anything _ g.met.K.Terminal.sample (sym c.in_ok-found.ensures ∙ c.in_default.is)

pub returns : goal.returns
returns g c = ahead-reached g.K.Terminal.value Anything _ _ _ (sym c.in_ok-found.ensures ∙ c.in-Some.is) c.pass.ensures
