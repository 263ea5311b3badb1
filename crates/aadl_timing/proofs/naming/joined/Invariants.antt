use Rattle.std.proofs.Common.{◌≡◌, ◌++◌, drop}
use Rattle.std.specs.Prelude.{codes, flat_map, List, ℕ}
use Rattle.aadl_tree.specs.References.{parted}
use Rattle.aadl_timing.proofs.naming.joined.Given as goal

abbrev pub invariant-loop-name : goal.invariant-loop-name
invariant-loop-name l = l.text ++ flat_map (λ (m : List ℕ). codes "_" ++ m) (drop l.name-index l.others) ≡ parted (codes "_") l.names
