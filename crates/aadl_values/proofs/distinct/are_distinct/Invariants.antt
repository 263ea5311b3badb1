use Rattle.std.proofs.Common.{◌≡◌, drop}
use Rattle.aadl_values.specs.Distinct.{are_distinct}
use Rattle.aadl_values.proofs.SeenWords.{have_new_keys}
use Rattle.aadl_values.proofs.distinct.are_distinct.Given as goal

abbrev pub invariant-loop-word : goal.invariant-loop-word
invariant-loop-word l = have_new_keys l.seen (drop l.word-index l.words) ≡ are_distinct l.words
