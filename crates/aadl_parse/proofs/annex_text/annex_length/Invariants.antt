use Rattle.std.proofs.Common.{◌≡◌, ◌+◌, length}
use Rattle.aadl_tree.specs.Text.{annex_length}
use Rattle.aadl_parse.proofs.annex_text.annex_length.Given as goal

abbrev pub invariant-loop-after : goal.invariant-loop-after
invariant-loop-after l = record {
  same : l.count + annex_length l.rest ≡ annex_length l.bytes;
  within : l.count + length l.rest ≡ length l.bytes;
}

abbrev pub decreases-loop-after : goal.decreases-loop-after
decreases-loop-after l = length l.rest
