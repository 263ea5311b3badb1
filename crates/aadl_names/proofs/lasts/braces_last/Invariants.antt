use Rattle.std.proofs.Common.{◌≡◌, drop, option_copied}
use Rattle.aadl_names.specs.Counting.{braces_last}
use Rattle.aadl_names.specs.Meanings.{first_there}
use Rattle.aadl_names.proofs.lasts.braces_last.Given as goal

abbrev pub invariant-loop-subcomponent : goal.invariant-loop-subcomponent
invariant-loop-subcomponent l =
    first_there (braces_last l.property l.name l.names (drop l.subcomponent-index l.all)) (option_copied l.last) ≡ braces_last l.property l.name l.names l.all
