use Rattle.std.proofs.Common.{◌≡◌, drop}
use Rattle.c_parse.specs.Keywords.{keyword_among}
use Rattle.c_parse.proofs.keyword.Keyword.among.Given as goal

abbrev pub invariant-loop-word : goal.invariant-loop-word
invariant-loop-word l = keyword_among (drop l.word-index l.words) l.bytes ≡ keyword_among l.words l.bytes
