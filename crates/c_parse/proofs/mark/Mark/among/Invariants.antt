use Rattle.std.proofs.Common.{◌≡◌, drop}
use Rattle.hw_text.specs.Text.{mark_among}
use Rattle.c_parse.specs.Marks.{mark_text}
use Rattle.c_parse.proofs.mark.Mark.among.Given as goal

abbrev pub invariant-loop-mark : goal.invariant-loop-mark
invariant-loop-mark l = mark_among mark_text (drop l.mark-index l.marks) l.bytes ≡ mark_among mark_text l.marks l.bytes
