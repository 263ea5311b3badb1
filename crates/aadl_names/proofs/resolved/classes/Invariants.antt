use Rattle.std.proofs.Common.{◌≡◌, ◌++◌, map, drop}
use Rattle.aadl_tree.specs.declared.subcomponent.Subcomponent.{Subcomponent}
use Rattle.aadl_names.specs.declared.parts.PartRow.{PartRow}
use Rattle.aadl_names.specs.Meanings.{means}
use Rattle.aadl_names.proofs.resolved.classes.Given as goal

abbrev pub invariant-loop-row : goal.invariant-loop-row
invariant-loop-row l = l.classes ++ map (λ (s : PartRow Subcomponent). means l.references l.tables s.part.category s.part.class) (drop l.row-index l.tables.subcomponents) ≡ map (λ (s : PartRow Subcomponent). means l.references l.tables s.part.category s.part.class) l.tables.subcomponents
