use Rattle.std.proofs.Common.{◌≡◌, length}
use Rattle.aadl_domains.specs.Counting.{AreSpansOf}
use Rattle.aadl_domains.proofs.spans.Spans.of.Given as goal

abbrev pub invariant-loop-at : goal.invariant-loop-at
invariant-loop-at l = record { long : length l.spans ≡ length l.tables.implementations; spans : AreSpansOf l.tables.subcomponents l.at l.spans }
