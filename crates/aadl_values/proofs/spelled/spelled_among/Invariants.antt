use Rattle.std.proofs.Common.{◌≡◌, drop}
use Rattle.aadl_values.specs.Spellings.{spelled_among}
use Rattle.aadl_values.proofs.spelled.spelled_among.Given as goal

abbrev pub invariant-loop-word : goal.invariant-loop-word
invariant-loop-word g l =
    spelled_among g.W.Spelled.spelling_of (drop l.word-index l.words) l.name ≡ spelled_among g.W.Spelled.spelling_of l.words l.name
