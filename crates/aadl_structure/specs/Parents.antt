-- Where components may stand (after SAE AS5506, component categories; this project's own: a process has exactly one thread).
use Rattle.std.specs.Prelude.{◌==◌, Bool, true, false, not, ◌||◌, length, count_by, map, List, ◌++◌, Option, Some, None, option_and_then, slice_index_or, if◌then◌else◌}
use Rattle.hw_text.specs.declared.code.Code.TheVariants as code
use Rattle.hw_text.specs.declared.refusal.Refusal.{Refusal}
use Rattle.aadl_tree.specs.declared.category.Category.{Category}
use Rattle.aadl_tree.specs.declared.category.Category.TheVariants as category
use Rattle.aadl_tree.specs.declared.component.ComponentType.{ComponentType}
use Rattle.aadl_tree.specs.declared.component.Implementation.{Implementation}
use Rattle.aadl_tree.specs.declared.names.Named.{Named}
use Rattle.aadl_tree.specs.declared.subcomponent.Subcomponent.{Subcomponent}
use Rattle.aadl_names.specs.declared.class_row.ClassRow.{ClassRow}
use Rattle.aadl_names.specs.declared.class_row.ClassRow.TheVariants as row
use Rattle.aadl_names.specs.declared.parts.PartRow.{PartRow}
use Rattle.aadl_names.specs.declared.references.References.{References}
use Rattle.aadl_names.specs.declared.tables.Tables.{Tables}
use Rattle.aadl_names.specs.Meanings.{means}
use Rattle.aadl_names.specs.Offences.{named, offences}
use Rattle.aadl_domains.specs.Components.{is}

-- the first may hold the second
abbrev pub may_hold : Category → Category → Bool
may_hold category.Data category.Data = true
may_hold category.Process category.Thread = true
may_hold category.System category.System = true
may_hold category.System category.Process = true
may_hold category.System category.Device = true
may_hold category.System category.Processor = true
may_hold _ _ = false

-- components without features
abbrev pub is_closed : Category → Bool
is_closed category.Data = true
is_closed category.Processor = true
is_closed _ = false

abbrev pub misplaced : Named → Refusal
misplaced name = named code.ModelWrongParent name.place name.name

abbrev pub child_offence : PartRow Subcomponent → Option Refusal
child_offence row = if may_hold row.category row.part.category then None else Some (misplaced row.part.name)

abbrev pub feature_offence : ComponentType → Option Refusal
feature_offence c = if not (is_closed c.category) || length c.features == 0 then None else Some (misplaced c.name)

abbrev pub is_thread : Subcomponent → Bool
is_thread s = is s.category category.Thread

abbrev pub has_one_thread : Implementation → Bool
has_one_thread i = count_by is_thread i.subcomponents == 1

-- an implementation of one thread, given of which that is true; a type alone has none
abbrev pub is_single : List Bool → ClassRow → Bool
is_single single row.Base = false
is_single single (row.Type n) = false
is_single single (row.Implementation n) = slice_index_or single n false

-- a process whose class means something that has not one thread
abbrev pub process_offence : References → Tables → List Bool → PartRow Subcomponent → Option Refusal
process_offence r t single row =
    if is row.part.category category.Process
    then option_and_then (λ class. if is_single single class then None else Some (misplaced row.part.name)) (means r t category.Process row.part.class)
    else None

abbrev pub process_offences : References → Tables → List Refusal
process_offences r t = offences (process_offence r t (map has_one_thread t.implementations)) t.subcomponents

-- subcomponents that their parents may not hold, types with features that they may not have, and processes without exactly one thread
abbrev pub parent_offences : References → Tables → List Refusal
parent_offences r t =
    offences child_offence t.subcomponents ++ offences feature_offence t.types ++ process_offences r t
