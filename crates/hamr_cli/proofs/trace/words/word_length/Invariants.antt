use Rattle.std.proofs.Common.{◌≡◌, ◌+◌, drop}
use Rattle.std.specs.List.{prefix_len}
use Rattle.hamr_cli.specs.TraceWord.{is_word_byte}
use Rattle.hamr_cli.proofs.trace.words.word_length.Given as goal

abbrev pub invariant-loop-length : goal.invariant-loop-length
invariant-loop-length l = l.length + prefix_len is_word_byte (drop l.length l.bytes) ≡ prefix_len is_word_byte l.bytes
