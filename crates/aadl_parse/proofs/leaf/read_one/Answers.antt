use Rattle.std.proofs.Common.{sym, ◌∙◌, []}
use Rattle.hw_text.proofs.Reading.{ahead-reached, ahead-stuck}
use Rattle.aadl_parse.specs.Shapes.{Without}
use Rattle.aadl_parse.proofs.leaf.read_one.Goals as goal

pub returns-in_default : goal.returns-in_default
returns-in_default g c = ahead-stuck g.T.Terminal.value (Without []) _ g.T.Terminal.sample (sym c.in_ok-found.ensures ∙ c.in_default.is)

pub returns : goal.returns
returns g c = ahead-reached g.T.Terminal.value (Without []) _ _ _ (sym c.in_ok-found.ensures ∙ c.in-Some.is) c.pass.ensures
