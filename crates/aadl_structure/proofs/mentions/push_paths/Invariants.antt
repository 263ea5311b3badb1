use Rattle.std.proofs.Common.{◌≡◌, ◌++◌, map, drop}
use Rattle.aadl_structure.specs.declared.mention.Mention.TheVariants as mention
use Rattle.aadl_structure.proofs.mentions.push_paths.Given as goal

abbrev pub invariant-loop-path : goal.invariant-loop-path
invariant-loop-path l = l.mentions ++ map (mention.Path l.from) (drop l.path-index l.paths) ≡ l.fn.mentions ++ map (mention.Path l.from) l.paths
