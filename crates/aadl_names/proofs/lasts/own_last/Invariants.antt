use Rattle.std.proofs.Common.{◌≡◌, drop, option_copied}
use Rattle.aadl_names.specs.Counting.{own_last}
use Rattle.aadl_names.specs.Meanings.{first_there}
use Rattle.aadl_names.proofs.lasts.own_last.Given as goal

abbrev pub invariant-loop-association : goal.invariant-loop-association
invariant-loop-association l = first_there (own_last l.property (drop l.association-index l.all)) (option_copied l.last) ≡ own_last l.property l.all
