use Rattle.std.proofs.Common.{◌∙◌, sym}
use Rattle.hw_text.specs.Reading.{Anything}
use Rattle.hw_text.proofs.Reading.{ahead-reached, ahead-stuck}
use Rattle.c_parse.specs.Values.{mark_of}
use Rattle.c_parse.proofs.Leaves.{a_sign}
use Rattle.c_parse.proofs.leaf.sign.Goals as goal

pub returns-in_default : goal.returns-in_default
returns-in_default c = ahead-stuck (mark_of c.args.mark) Anything _ (a_sign c.args.mark) (sym c.mark_ahead.ensures ∙ c.in_default.is)

pub returns : goal.returns
returns c = ahead-reached (mark_of c.args.mark) Anything _ _ _ (sym c.mark_ahead.ensures ∙ c.in-Some.is) c.pass.ensures
