use Rattle.std.proofs.Common.{◌≡◌, ◌++◌, drop}
use Rattle.std.specs.Option.{option_map}
use Rattle.hamr_cli.specs.Parts.{all_of}
use Rattle.hamr_cli.proofs.package.part.all_of.Given as goal

abbrev pub invariant-loop-tree : goal.invariant-loop-tree
invariant-loop-tree g l = option_map (λ more. l.parts ++ more) (all_of g.P.ThinPart.part_of (drop l.tree-index l.trees)) ≡ all_of g.P.ThinPart.part_of l.trees
