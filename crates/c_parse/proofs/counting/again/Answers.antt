use Rattle.std.proofs.Common.{sym, ◌∙◌}
use Rattle.hw_text.specs.Reading.{Anything}
use Rattle.hw_text.proofs.Reading.{ahead-reached, ahead-stuck}
use Rattle.c_parse.specs.Values.{again_of}
use Rattle.c_parse.proofs.CountTexts.{an_again}
use Rattle.c_parse.proofs.counting.again.Goals as goal

pub returns-in_default : goal.returns-in_default
returns-in_default c = ahead-stuck (again_of c.args.name.now) Anything _ (an_again c.args.name.now) (sym c.again_ahead.ensures ∙ c.in_default.is)

pub returns : goal.returns
returns c = ahead-reached (again_of c.args.name.now) Anything _ _ _ (sym c.again_ahead.ensures ∙ c.in-Some.is) c.pass.ensures
