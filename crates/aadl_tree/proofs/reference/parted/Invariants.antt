use Rattle.std.proofs.Common.{◌≡◌, ◌++◌, List, ℕ, drop, codes}
use Rattle.std.specs.List.{flat_map}
use Rattle.aadl_tree.specs.References.{parted}
use Rattle.aadl_tree.proofs.reference.parted.Given as goal

abbrev pub invariant-loop-name : goal.invariant-loop-name
invariant-loop-name l = l.text ++ flat_map (λ (n : List ℕ). l.mark ++ n) (drop l.name-index l.others) ≡ l.first ++ flat_map (λ (n : List ℕ). l.mark ++ n) l.others
