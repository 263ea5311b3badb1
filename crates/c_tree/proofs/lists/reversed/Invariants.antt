use Rattle.std.proofs.Common.{◌≡◌, ◌++◌, length}
use Rattle.std.specs.Prelude.{reverse}
use Rattle.c_tree.proofs.lists.reversed.Given as goal

abbrev pub invariant-loop-last : goal.invariant-loop-last
invariant-loop-last g l = l.back ++ reverse l.left ≡ reverse l.initial.left

abbrev pub decreases-loop-last : goal.decreases-loop-last
decreases-loop-last g l = length l.left
