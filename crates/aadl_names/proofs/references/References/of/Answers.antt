use Rattle.std.proofs.Common.{map, ap, ◌∙◌}
use Rattle.aadl_tree.specs.declared.connection.Connection.{Connection}
use Rattle.aadl_tree.specs.declared.feature.Feature.{Feature}
use Rattle.aadl_tree.specs.declared.subcomponent.Subcomponent.{Subcomponent}
use Rattle.aadl_names.specs.Keys.{type_key, implementation_key}
use Rattle.aadl_names.specs.Meanings.{part_key}
use Rattle.aadl_names.proofs.SameNames.{same_names}
use Rattle.aadl_names.proofs.references.References.of.Goals as goal

pub returns : goal.returns
returns c = same_names _ _ _ _ _ _ _ _ _ _ _ _ c.in_ok-text.ensures
    (c.in_ok-of.ensures ∙ ap (map type_key) c.rows.ensures)
    (c.in_ok-of-2.ensures ∙ ap (map implementation_key) c.rows-2.ensures)
    (c.in_ok-of-3.ensures ∙ ap (map (part_key (λ (f : Feature). f.name))) c.rows-3.ensures)
    (c.in_ok-of-4.ensures ∙ ap (map (part_key (λ (s : Subcomponent). s.name))) c.rows-4.ensures)
    (c.in_ok-of-5.ensures ∙ ap (map (part_key (λ (n : Connection). n.name))) c.rows-5.ensures)
