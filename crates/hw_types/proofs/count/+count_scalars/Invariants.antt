use Rattle.std.proofs.Common.{◌≡◌, ◌+◌, ◌-◌, ◌^◌, ◌≤◌, min, sum, map, drop}
use Rattle.hw_types.specs.Count.{told_count, scalar_count}
use Rattle.hw_types.proofs.count.+count_scalars.Given as goal

abbrev pub invariant-loop-field : goal.invariant-loop-field
invariant-loop-field l = record {
  small : l.count ≤ 2 ^ 64 - 1;
  value : min (l.count + sum (map scalar_count (drop l.field-index l.field-items))) (2 ^ 64 - 1) ≡ told_count l.ty;
}
