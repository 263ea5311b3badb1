-- How many ports threads and devices may have (this project's own; docs/formats/refusals.md).
use Rattle.std.specs.Prelude.{ℕ, pos, Bool, true, false, length, codes, List, Option, None, option_map, slice_get, if◌then◌else◌}
use Rattle.hw_text.specs.declared.code.Code.TheVariants as code
use Rattle.hw_text.specs.declared.place.Place.{Place}
use Rattle.hw_text.specs.declared.refusal.Refusal.{Refusal}
use Rattle.aadl_tree.specs.declared.category.Category.{Category}
use Rattle.aadl_tree.specs.declared.category.Category.TheVariants as category
use Rattle.aadl_tree.specs.declared.component.ComponentType.{ComponentType}
use Rattle.aadl_tree.specs.declared.feature.Feature.{Feature}
use Rattle.aadl_names.specs.declared.tables.Tables.{Tables}
use Rattle.aadl_names.specs.Offences.{offences}

abbrev pub is_ported : Category → Bool
is_ported category.Thread = true
is_ported category.Device = true
is_ported _ = false

-- `Limit ports COUNTED 32`
abbrev pub too_many : ℕ → Place → Refusal
too_many counted place = record { code = code.ModelLimit; place = place; word = codes "ports"; low = pos counted; high = pos 32; length = pos 0 }

-- a thread or device type with a 33rd port, which is the place
abbrev pub width_offence : ComponentType → Option Refusal
width_offence c = if is_ported c.category then option_map (λ (over : Feature). too_many (length c.features) over.name.place) (slice_get c.features 32) else None

abbrev pub width_offences : Tables → List Refusal
width_offences t = offences width_offence t.types
