use Rattle.std.proofs.Common.{◌≡◌, drop}
use Rattle.hw_text.specs.Text.{mark_among}
use Rattle.gumbo_parse.specs.Marks.{mark_spelling}
use Rattle.gumbo_parse.proofs.mark.Mark.among.Given as goal

abbrev pub invariant-loop-mark : goal.invariant-loop-mark
invariant-loop-mark l = mark_among mark_spelling (drop l.mark-index l.marks) l.bytes ≡ mark_among mark_spelling l.marks l.bytes
