use Rattle.std.proofs.Common.{◌≡◌, drop, length}
use Rattle.std.specs.Cmp.Lexicographic.{pointwise}
use Rattle.std.specs.Str.{bytes_eq}
use Rattle.aadl_names.proofs.lasts.are_names.Given as goal

abbrev pub invariant-loop-place : goal.invariant-loop-place
invariant-loop-place l = record {
  long : length l.names ≡ length l.others;
  same : pointwise bytes_eq (drop l.place l.names) (drop l.place l.others) ≡ pointwise bytes_eq l.names l.others;
}
