-- Names that are given twice (after SAE AS5506, name spaces).
use Rattle.std.specs.Prelude.{List, [], ◌++◌, map}
use Rattle.hw_text.specs.declared.refusal.Refusal.{Refusal}
use Rattle.aadl_tree.specs.declared.component.ComponentType.{ComponentType}
use Rattle.aadl_tree.specs.declared.component.Implementation.{Implementation}
use Rattle.aadl_tree.specs.declared.connection.Connection.{Connection}
use Rattle.aadl_tree.specs.declared.feature.Feature.{Feature}
use Rattle.aadl_tree.specs.declared.names.Named.{Named}
use Rattle.aadl_tree.specs.declared.subcomponent.Subcomponent.{Subcomponent}
use Rattle.aadl_names.specs.declared.parts.PartRow.{PartRow}
use Rattle.aadl_names.specs.declared.tables.Tables.{Tables}
use Rattle.aadl_names.specs.Keys.{Key, type_key, implementation_key}
use Rattle.aadl_names.specs.Meanings.{part_key}
use Rattle.aadl_names.specs.Offences.{repeats_from}

-- those of parts of one kind, behind members of these names
abbrev pub repeated_parts : {T : Type 0} → (T → Named) → List Key → List (PartRow T) → List Refusal
repeated_parts {T} name seen rows = repeats_from (part_key name) (λ (row : PartRow T). (name row.part).place) seen rows

-- two members of an implementation, which are its subcomponents and its connections together
abbrev pub member_offences : List (PartRow Subcomponent) → List (PartRow Connection) → List Refusal
member_offences subcomponents connections =
    repeated_parts (λ (s : Subcomponent). s.name) [] subcomponents ++
    repeated_parts (λ (c : Connection). c.name) (map (part_key (λ (s : Subcomponent). s.name)) subcomponents) connections

-- two types, two implementations, two features of a type, or two members of an implementation
abbrev pub duplicate_offences : Tables → List Refusal
duplicate_offences t =
    repeats_from type_key (λ (c : ComponentType). c.name.place) [] t.types ++
    repeats_from implementation_key (λ (i : Implementation). i.name.component_type.place) [] t.implementations ++
    repeated_parts (λ (f : Feature). f.name) [] t.features ++
    member_offences t.subcomponents t.connections
