use Rattle.std.proofs.Common.{◌++◌}
use Rattle.hw_text.specs.Language.{Each}
use Rattle.aadl_parse.specs.Shapes.{Without}
use Rattle.aadl_parse.proofs.Repeats.{from-none}
use Rattle.aadl_parse.proofs.repeat.each.Goals as goal

pub returns : goal.returns
returns g c = from-none (Each g.A.Part.spells) (Without (g.A.Part.starts ++ g.A.Part.goes_on)) _ _ _ c.new.ensures _ c.members.ensures
