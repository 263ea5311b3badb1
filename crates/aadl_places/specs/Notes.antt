-- What of a model is ignored, and noted (this project's own).
use Rattle.std.specs.Prelude.{ℕ, ◌+◌, Bool, true, not, if◌then◌else◌, List, [], ◌∷◌, ◌++◌, map, take, drop, filter_map, Option, Some, None}
use Rattle.std.specs.List.{list_any}
use Rattle.hw_text.specs.declared.place.Place.{Place}
use Rattle.aadl_tree.specs.declared.annex.Annex.{Annex}
use Rattle.aadl_tree.specs.declared.association.Association.{Association}
use Rattle.aadl_tree.specs.References.{qualified_text}
use Rattle.aadl_names.specs.declared.associations.AssociationRow.{AssociationRow}
use Rattle.aadl_names.specs.declared.element.Element.{Element}
use Rattle.aadl_names.specs.declared.references.References.{References}
use Rattle.aadl_names.specs.declared.resolved.Resolved.{Resolved}
use Rattle.aadl_names.specs.declared.tables.Tables.{Tables}
use Rattle.aadl_names.specs.Offences.{is_before}
use Rattle.aadl_values.specs.declared.property.Property.{Property}
use Rattle.aadl_values.specs.Columns.{property_named}
use Rattle.aadl_places.specs.declared.note.Note.{Note}
use Rattle.aadl_places.specs.ContractAnnexes.{ignored_annexes}
use Rattle.aadl_places.specs.PropertyPlaces.{leads_to_place}
use Rattle.aadl_places.specs.Sites.{sites_of}

abbrev pub leads_elsewhere : Tables → Property → Option Element → Bool
leads_elsewhere t p site = not (leads_to_place t p site)

-- a property outside the table has no place; one of the table is ignored where it stands in another place, also if by one path alone
abbrev pub is_misplaced : References → Resolved → Tables → AssociationRow → Option Property → Bool
is_misplaced r to t a None = true
is_misplaced r to t a (Some p) = list_any (leads_elsewhere t p) (sites_of r to t a)

abbrev pub if_ignored : References → Resolved → Tables → AssociationRow → Option Association
if_ignored r to t a = if is_misplaced r to t a (property_named a.association.property) then Some a.association else None

abbrev pub ignored_associations : References → Resolved → Tables → List Association
ignored_associations r to t = filter_map (if_ignored r to t) t.associations

-- the name as it is written, set name included, where it stands
abbrev pub association_note : Association → Note
association_note a = record { place = a.property.first.place; name = qualified_text a.property }

abbrev pub annex_note : Annex → Note
annex_note a = record { place = a.name.place; name = a.name.name }

-- how many annexes at the front stand before a place
abbrev pub count_before : Place → List Annex → ℕ
count_before place [] = 0
count_before place (a ∷ annexes) = if is_before a.name.place place then count_before place annexes + 1 else 0

-- the notes of associations, each behind those of the annexes that stand before it
abbrev pub merged : List Association → List Annex → List Note
merged [] annexes = map annex_note annexes
merged (a ∷ associations) annexes =
    let before = count_before a.property.first.place annexes in
    map annex_note (take before annexes) ++ association_note a ∷ merged associations (drop before annexes)

-- the notes of all that is ignored
abbrev pub notes_of : References → Resolved → Tables → List Note
notes_of r to t = merged (ignored_associations r to t) (ignored_annexes t t.annexes)
