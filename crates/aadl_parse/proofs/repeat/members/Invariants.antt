use Rattle.std.proofs.Common.{◌++◌, length}
use Rattle.hw_text.specs.Language.{Each, Made}
use Rattle.hw_text.specs.Reading.{Leaves}
use Rattle.aadl_parse.specs.Shapes.{Without}
use Rattle.aadl_parse.proofs.repeat.members.Given as goal

abbrev pub invariant-members : goal.invariant-members
invariant-members g l =
    Leaves (Made (λ later. l.fn.earlier ++ later) (Each g.A.Part.spells)) (Without (g.A.Part.starts ++ g.A.Part.goes_on)) l.fn.tokens l.tokens
    (λ later. l.members ++ later) (Each g.A.Part.spells)

abbrev pub decreases-members : goal.decreases-members
decreases-members g l = length l.tokens
