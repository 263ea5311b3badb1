use Rattle.std.proofs.Common.{◌≡◌, drop}
use Rattle.std.specs.List.{list_any}
use Rattle.aadl_names.specs.Counting.{is_path}
use Rattle.aadl_names.proofs.lasts.leads_to.Given as goal

abbrev pub invariant-loop-path : goal.invariant-loop-path
invariant-loop-path l = list_any (is_path l.names) (drop l.path-index l.association.applies_to) ≡ list_any (is_path l.names) l.association.applies_to
