-- References that lead to nothing (after SAE AS5506, name spaces; this project's own: one package).
use Rattle.std.specs.Prelude.{ℕ, is_some, List, ◌++◌, Option, Some, None, option_and_then, if◌then◌else◌}
use Rattle.hw_text.specs.declared.code.Code.TheVariants as code
use Rattle.hw_text.specs.declared.place.Place.{Place}
use Rattle.hw_text.specs.declared.refusal.Refusal.{Refusal}
use Rattle.aadl_tree.specs.declared.category.Category.{Category}
use Rattle.aadl_tree.specs.declared.category.Category.TheVariants as category
use Rattle.aadl_tree.specs.declared.class.Class.{Class}
use Rattle.aadl_tree.specs.declared.class.Class.TheVariants.{Base, Model}
use Rattle.aadl_tree.specs.declared.component.Implementation.{Implementation}
use Rattle.aadl_tree.specs.declared.connection.Connection.{Connection}
use Rattle.aadl_tree.specs.declared.connection.ConnectionEnd.{ConnectionEnd}
use Rattle.aadl_tree.specs.declared.feature.Feature.{Feature}
use Rattle.aadl_tree.specs.declared.feature.PortKind.{PortKind}
use Rattle.aadl_tree.specs.declared.feature.PortKind.TheVariants as kind
use Rattle.aadl_tree.specs.declared.names.Path.{Path}
use Rattle.aadl_tree.specs.declared.subcomponent.Subcomponent.{Subcomponent}
use Rattle.aadl_tree.specs.References.{class_text, path_text, end_text}
use Rattle.aadl_names.specs.declared.class_row.ClassRow.{ClassRow}
use Rattle.aadl_names.specs.declared.parts.PartRow.{PartRow}
use Rattle.aadl_names.specs.declared.references.References.{References}
use Rattle.aadl_names.specs.declared.resolved.Resolved.{Resolved}
use Rattle.aadl_names.specs.declared.tables.Tables.{Tables}
use Rattle.aadl_names.specs.Meanings.{class_row, means, type_of, end_row, path_row}
use Rattle.aadl_names.specs.Offences.{named, offences}
use Rattle.aadl_structure.specs.declared.mention.Mention.{Mention}
use Rattle.aadl_structure.specs.declared.mention.Mention.TheVariants as mention
use Rattle.aadl_structure.specs.Mentions.{mentions_of}

-- nothing is told of what leads to something
abbrev pub unless_found : {X : Type 0} → Option X → Refusal → Option Refusal
unless_found found unknown = if is_some found then None else Some unknown

abbrev pub class_place : Class → Place
class_place (Base at base) = at
class_place (Model c) = c.place

-- what a classifier means where this category is asked for, or any
abbrev pub meant : References → Tables → Option Category → Class → Option ClassRow
meant r t None class = class_row r class
meant r t (Some asked) class = means r t asked class

abbrev pub class_offence : References → Tables → Option Category → Class → Option Refusal
class_offence r t asked class = unless_found (meant r t asked class) (named code.ModelUnknown (class_place class) (class_text class))

-- what a port carries is data
abbrev pub kind_offence : References → Tables → PortKind → Option Refusal
kind_offence r t (kind.Data class) = class_offence r t (Some category.Data) class
kind_offence r t kind.Event = None
kind_offence r t (kind.EventData class) = class_offence r t (Some category.Data) class

abbrev pub port_offence : References → Tables → PartRow Feature → Option Refusal
port_offence r t row = kind_offence r t row.part.kind

abbrev pub subcomponent_offence : References → Tables → PartRow Subcomponent → Option Refusal
subcomponent_offence r t row = class_offence r t (Some row.part.category) row.part.class

-- the type of an implementation
abbrev pub type_offence : References → Tables → Implementation → Option Refusal
type_offence r t i = unless_found (type_of r t i) (named code.ModelUnknown i.name.component_type.place i.name.component_type.name)

-- an end of a connection
abbrev pub end_offence : References → Resolved → ℕ → ConnectionEnd → Option Refusal
end_offence r to n e = unless_found (end_row r to n e) (named code.ModelUnknown e.first.place (end_text e))

abbrev pub source_offence : References → Resolved → PartRow Connection → Option Refusal
source_offence r to row = end_offence r to row.owner row.part.from

abbrev pub destination_offence : References → Resolved → PartRow Connection → Option Refusal
destination_offence r to row = end_offence r to row.owner row.part.to

abbrev pub path_offence : References → Resolved → Tables → Option ClassRow → Path → Option Refusal
path_offence r to t from p =
    unless_found (option_and_then (λ class. path_row r to t class p) from) (named code.ModelUnknown p.first.place (path_text p))

abbrev pub mention_offence : References → Resolved → Tables → Mention → Option Refusal
mention_offence r to t (mention.Path from p) = path_offence r to t from p
mention_offence r to t (mention.Class asked class) = class_offence r t asked class

-- the references of a model that lead to nothing: what ports carry, classes of subcomponents, types of implementations, ends of
-- connections, and what property associations refer to
abbrev pub unknown_offences : References → Resolved → Tables → List Refusal
unknown_offences r to t =
    offences (port_offence r t) t.features ++ offences (subcomponent_offence r t) t.subcomponents ++
    offences (type_offence r t) t.implementations ++ offences (source_offence r to) t.connections ++
    offences (destination_offence r to) t.connections ++ offences (mention_offence r to t) (mentions_of r t)
