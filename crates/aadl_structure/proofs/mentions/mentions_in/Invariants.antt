use Rattle.std.proofs.Common.{◌≡◌, ◌++◌, drop}
use Rattle.std.specs.List.{flat_map}
use Rattle.aadl_structure.specs.Mentions.{association_mentions}
use Rattle.aadl_structure.proofs.mentions.mentions_in.Given as goal

abbrev pub invariant-loop-row : goal.invariant-loop-row
invariant-loop-row l =
    l.mentions ++ flat_map (association_mentions l.classes) (drop l.row-index l.associations) ≡ flat_map (association_mentions l.classes) l.associations
