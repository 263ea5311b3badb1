use Rattle.std.proofs.Common.{◌≡◌, ◌++◌, map, drop}
use Rattle.aadl_tree.specs.declared.subcomponent.Subcomponent.{Subcomponent}
use Rattle.aadl_names.specs.Meanings.{means}
use Rattle.aadl_structure.specs.Mentions.{classes_in}
use Rattle.aadl_structure.proofs.classes.classes_in.Given as goal

abbrev pub invariant-loop-part : goal.invariant-loop-part
invariant-loop-part l =
    l.classes ++ map (λ (s : Subcomponent). means l.scope.references.now l.scope.tables.now s.category s.class) (drop l.part-index l.implementation.subcomponents)
    ≡ classes_in l.scope.references.now l.scope.tables.now l.implementation
