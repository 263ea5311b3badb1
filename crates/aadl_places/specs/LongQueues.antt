-- Which queues are longer than the limit (this project's own).
use Rattle.std.specs.Prelude.{ℕ, ℤ, ◌-◌, ◌^◌, pos, codes, if◌then◌else◌, List, Option, None, option_map, option_and_then}
use Rattle.hw_text.specs.declared.code.Code.TheVariants as code
use Rattle.hw_text.specs.declared.place.Place.{Place}
use Rattle.hw_text.specs.declared.refusal.Refusal.{Refusal}
use Rattle.aadl_tree.specs.declared.value.PropertyValue.{PropertyValue}
use Rattle.aadl_names.specs.declared.associations.AssociationRow.{AssociationRow}
use Rattle.aadl_names.specs.declared.references.References.{References}
use Rattle.aadl_names.specs.declared.resolved.Resolved.{Resolved}
use Rattle.aadl_names.specs.declared.tables.Tables.{Tables}
use Rattle.aadl_names.specs.Offences.{offences}
use Rattle.aadl_values.specs.declared.property.Property.{Property}
use Rattle.aadl_values.specs.declared.property.Property.TheVariants as property
use Rattle.aadl_values.specs.Columns.{property_named}
use Rattle.aadl_values.specs.Layers.{sole_value}
use Rattle.aadl_values.specs.Times.{integer_between}
use Rattle.aadl_places.specs.PropertyPlaces.{has_effect}

-- so many of a kind, where so many are allowed
abbrev pub limit : Place → List ℕ → ℤ → ℤ → Refusal
limit at kind counted allowed = record { code = code.ModelLimit; place = at; word = kind; low = counted; high = allowed; length = pos 0 }

-- a size above 64; integers of a model are below 2^127
abbrev pub long_size_of : PropertyValue → Option ℕ
long_size_of v = integer_between 65 (2 ^ 127 - 1) v

-- the size that an association gives to a queue, where it is above 64
abbrev pub long_size : References → Resolved → Tables → Property → AssociationRow → Option ℕ
long_size r to t property.QueueSize a =
    if has_effect r to t property.QueueSize a then option_and_then long_size_of (sole_value a.association) else None
long_size r to t _ a = None

abbrev pub long_queue : References → Resolved → Tables → AssociationRow → Option Refusal
long_queue r to t a =
    let name = a.association.property in
    option_map (λ size. limit name.first.place (codes "queue") (pos size) (pos 64)) (option_and_then (λ p. long_size r to t p a) (property_named name))

-- the refusals of all associations that ask for such queues
abbrev pub long_queues : References → Resolved → Tables → List Refusal
long_queues r to t = offences (long_queue r to t) t.associations
