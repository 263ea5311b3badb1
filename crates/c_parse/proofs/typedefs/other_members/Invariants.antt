use Rattle.std.proofs.Common.{◌++◌, length}
use Rattle.hw_text.specs.Language.{Each}
use Rattle.hw_text.specs.Reading.{BeginsWith, Leaves}
use Rattle.c_parse.specs.declared.mark.Mark.TheVariants as mark
use Rattle.c_parse.specs.Values.{is_mark}
use Rattle.c_parse.specs.TypedefGrammar.{SpellsMember}
use Rattle.c_parse.proofs.typedefs.other_members.Given as goal

abbrev pub invariant-members : goal.invariant-members
invariant-members l = Leaves (Each SpellsMember) (BeginsWith (is_mark mark.CloseBrace)) l.fn.tokens l.tokens (λ later. l.members ++ later) (Each SpellsMember)

abbrev pub decreases-members : goal.decreases-members
decreases-members l = length l.tokens
