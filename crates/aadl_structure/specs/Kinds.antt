-- Which ends of connections fit (after SAE AS5506, port connections).
use Rattle.std.specs.Prelude.{ℕ, Bool, true, false, ◌&&◌, List, Option, Some, None, option_map, option_and_then, slice_get, if◌then◌else◌}
use Rattle.hw_text.specs.declared.code.Code.TheVariants as code
use Rattle.hw_text.specs.declared.refusal.Refusal.{Refusal}
use Rattle.aadl_tree.specs.declared.connection.Connection.{Connection}
use Rattle.aadl_tree.specs.declared.connection.ConnectionEnd.{ConnectionEnd}
use Rattle.aadl_tree.specs.declared.feature.Direction.{Direction}
use Rattle.aadl_tree.specs.declared.feature.Direction.TheVariants.{In, Out}
use Rattle.aadl_tree.specs.declared.feature.Feature.{Feature}
use Rattle.aadl_tree.specs.declared.feature.PortKind.{PortKind}
use Rattle.aadl_tree.specs.declared.feature.PortKind.TheVariants as kind
use Rattle.aadl_names.specs.declared.parts.PartRow.{PartRow}
use Rattle.aadl_names.specs.declared.references.References.{References}
use Rattle.aadl_names.specs.declared.resolved.Resolved.{Resolved}
use Rattle.aadl_names.specs.declared.tables.Tables.{Tables}
use Rattle.aadl_names.specs.Meanings.{end_row}
use Rattle.aadl_names.specs.Offences.{named, offences}

-- whatever the classes are
abbrev pub is_same_kind : PortKind → PortKind → Bool
is_same_kind (kind.Data one) (kind.Data other) = true
is_same_kind kind.Event kind.Event = true
is_same_kind (kind.EventData one) (kind.EventData other) = true
is_same_kind _ _ = false

-- across, from an out port of a subcomponent to an in port of one; down, from an in port of the component itself to an in port of a
-- subcomponent; or up, from an out port to an out port: the ports of subcomponents are those with a name behind a dot
abbrev pub is_fitting : Option (List ℕ) → Option (List ℕ) → Direction → Direction → Bool
is_fitting (Some port) (Some other) Out In = true
is_fitting None (Some other) In In = true
is_fitting (Some port) None Out Out = true
is_fitting _ _ _ _ = false

abbrev pub ends_fit : Connection → Feature → Feature → Bool
ends_fit c from to = is_same_kind from.kind to.kind && is_fitting c.from.port c.to.port from.direction to.direction

-- the port that an end means
abbrev pub end_port : References → Resolved → Tables → ℕ → ConnectionEnd → Option Feature
end_port r to t n e = option_map (λ (port : PartRow Feature). port.part) (option_and_then (slice_get t.features) (end_row r to n e))

abbrev pub connection_differs : Connection → Refusal
connection_differs c = named code.ModelKindDiffers c.name.place c.name.name

-- a connection between ports that do not fit
abbrev pub kind_offence : References → Resolved → Tables → PartRow Connection → Option Refusal
kind_offence r to t row =
    option_and_then (λ from. option_and_then (λ into. if ends_fit row.part from into then None else Some (connection_differs row.part))
    (end_port r to t row.owner row.part.to)) (end_port r to t row.owner row.part.from)

abbrev pub kind_offences : References → Resolved → Tables → List Refusal
kind_offences r to t = offences (kind_offence r to t) t.connections
