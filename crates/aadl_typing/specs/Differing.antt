-- Connections whose ends carry different types (after SAE AS5506, port connections; this project's own).
use Rattle.std.specs.Prelude.{◌≡◌, ℕ, ◌==◌, Bool, false, not, if◌then◌else◌, List, Option, Some, None, option_and_then, slice_index_or}
use Rattle.hw_text.specs.declared.code.Code.TheVariants as code
use Rattle.hw_text.specs.declared.refusal.Refusal.{Refusal}
use Rattle.aadl_tree.specs.declared.connection.Connection.{Connection}
use Rattle.aadl_tree.specs.declared.connection.ConnectionEnd.{ConnectionEnd}
use Rattle.aadl_names.specs.declared.parts.PartRow.{PartRow}
use Rattle.aadl_names.specs.declared.references.References.{References}
use Rattle.aadl_names.specs.declared.resolved.Resolved.{Resolved}
use Rattle.aadl_names.specs.declared.tables.Tables.{Tables}
use Rattle.aadl_names.specs.Meanings.{at_row, end_row}
use Rattle.aadl_names.specs.Offences.{named, earliest_from, offences}
use Rattle.aadl_typing.specs.DataGraph.{nexts_of, payloads_of}
use Rattle.aadl_typing.specs.Walks.{AreEnds}

-- both carry data, which lead to different types
abbrev pub differ : List ℕ → Option ℕ → Option ℕ → Bool
differ types None other = false
differ types (Some one) None = false
differ types (Some one) (Some other) = not (slice_index_or types one one == slice_index_or types other other)

-- the data at an end of a connection of an implementation, those of the ports being given
abbrev pub end_data : References → Resolved → List (Option ℕ) → ℕ → ConnectionEnd → Option ℕ
end_data r to payloads n end = option_and_then (at_row payloads) (end_row r to n end)

abbrev pub difference_offence : References → Resolved → List (Option ℕ) → List ℕ → PartRow Connection → Option Refusal
difference_offence r to payloads types row =
    if differ types (end_data r to payloads row.owner row.part.from) (end_data r to payloads row.owner row.part.to)
    then Some (named code.ModelTypeDiffers row.part.name.place row.part.name.name) else None

-- the first of these refusals, by the types to which the data lead
pub record IsFirstDifference (r : References) (to : Resolved) (t : Tables) (first : Option Refusal) : Type 0 where
  pub types : List ℕ
  pub lead : AreEnds (nexts_of r t) types
  pub told : first ≡ earliest_from None (offences (difference_offence r to (payloads_of r t) types) t.connections)
