use Rattle.std.proofs.Common.{◌≡◌, drop}
use Rattle.gumbo_parse.specs.Words.{word_among}
use Rattle.gumbo_parse.proofs.word.Word.among.Given as goal

abbrev pub invariant-loop-word : goal.invariant-loop-word
invariant-loop-word l = word_among (drop l.word-index l.words) l.bytes ≡ word_among l.words l.bytes
