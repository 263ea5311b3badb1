use Rattle.std.proofs.Common.{◌≡◌, drop, option_copied}
use Rattle.aadl_names.specs.Counting.{led_last}
use Rattle.aadl_names.specs.Meanings.{first_there}
use Rattle.aadl_names.proofs.lasts.led_last.Given as goal

abbrev pub invariant-loop-association : goal.invariant-loop-association
invariant-loop-association l = first_there (led_last l.property l.names (drop l.association-index l.all)) (option_copied l.last) ≡ led_last l.property l.names l.all
