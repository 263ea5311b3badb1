-- The earliest name that a member has twice, told of one table behind the other.
use Rattle.std.proofs.Common.{◌≡◌, List, [], ◌++◌, Option, map, sym}
use Rattle.hw_text.specs.declared.refusal.Refusal.{Refusal}
use Rattle.aadl_tree.specs.declared.connection.Connection.{Connection}
use Rattle.aadl_tree.specs.declared.subcomponent.Subcomponent.{Subcomponent}
use Rattle.aadl_names.specs.declared.parts.PartRow.{PartRow}
use Rattle.aadl_names.specs.Keys.{Key}
use Rattle.aadl_names.specs.Meanings.{part_key}
use Rattle.aadl_names.specs.Offences.{earliest_from}
use Rattle.aadl_structure.specs.Duplicates.{repeated_parts, member_offences}
use Rattle.aadl_structure.proofs.Earliest.{earliest_append}

abbrev pub subcomponents_behind : List Key → List (PartRow Subcomponent) → List Refusal
subcomponents_behind seen rows = repeated_parts (λ (s : Subcomponent). s.name) seen rows

abbrev pub connections_behind : List Key → List (PartRow Connection) → List Refusal
connections_behind seen rows = repeated_parts (λ (c : Connection). c.name) seen rows

abbrev pub names : List (PartRow Subcomponent) → List Key
names rows = map (part_key (λ (s : Subcomponent). s.name)) rows

pub members_told : (subcomponents : List (PartRow Subcomponent)) (connections : List (PartRow Connection)) (known start first last : Option Refusal)
    (none seen : List Key) → none ≡ [] → start ≡ known → seen ≡ none ++ names subcomponents →
    first ≡ earliest_from start (subcomponents_behind none subcomponents) → last ≡ earliest_from first (connections_behind seen connections) →
    last ≡ earliest_from known (member_offences subcomponents connections)
members_told subcomponents connections known start first last none seen n k s f l =
    rw (l, f, s, n, k) (sym (earliest_append known (subcomponents_behind [] subcomponents) (connections_behind (names subcomponents) connections)))
