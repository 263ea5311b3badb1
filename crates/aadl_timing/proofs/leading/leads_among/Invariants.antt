use Rattle.std.proofs.Common.{◌≡◌, drop}
use Rattle.std.specs.List.{list_any}
use Rattle.aadl_timing.specs.Bounds.{is_led_timing}
use Rattle.aadl_timing.proofs.leading.leads_among.Given as goal

abbrev pub invariant-loop-association : goal.invariant-loop-association
invariant-loop-association l = list_any is_led_timing (drop l.association-index l.associations) ≡ list_any is_led_timing l.associations
