-- Payloads of more scalars than a port may carry (this project's own; types and their scalars are those of hw_types).
use Rattle.std.specs.Prelude.{◌≡◌, ℕ, pos, codes, List, Option, Some, None, option_and_then}
use Rattle.hw_text.specs.declared.code.Code.TheVariants as code
use Rattle.hw_text.specs.declared.place.Place.{Place}
use Rattle.hw_text.specs.declared.refusal.Refusal.{Refusal}
use Rattle.hw_types.specs.declared.extent.Extent.{Extent}
use Rattle.hw_types.specs.declared.extent.Extent.TheVariants as extent
use Rattle.aadl_tree.specs.declared.category.Category.TheVariants as category
use Rattle.aadl_tree.specs.declared.class.Class.{Class}
use Rattle.aadl_tree.specs.declared.class.Class.TheVariants.{Base, Model}
use Rattle.aadl_tree.specs.declared.feature.Feature.{Feature}
use Rattle.aadl_tree.specs.declared.feature.PortKind.{PortKind}
use Rattle.aadl_tree.specs.declared.feature.PortKind.TheVariants as kind
use Rattle.aadl_names.specs.declared.parts.PartRow.{PartRow}
use Rattle.aadl_names.specs.declared.references.References.{References}
use Rattle.aadl_names.specs.declared.tables.Tables.{Tables}
use Rattle.aadl_names.specs.Meanings.{means}
use Rattle.aadl_names.specs.Offences.{earliest_from, offences}
use Rattle.aadl_types.specs.Extents.{Known, extent_at, AreAnswers}
use Rattle.aadl_types.specs.Shaping.{shapes_of}

-- so many scalars, of which 256 are allowed
abbrev pub too_many_scalars : Place → ℕ → Refusal
too_many_scalars at count =
    record { code = code.ModelLimit; place = at; word = codes "scalars"; low = pos count; high = pos 256; length = pos 0 }

-- where a classifier begins
abbrev pub class_place : Class → Place
class_place (Base at base) = at
class_place (Model c) = c.place

-- only what has no layout for its many scalars is too wide
abbrev pub extent_offence : Place → Option Extent → Option Refusal
extent_offence at None = None
extent_offence at (Some (extent.Laid layout)) = None
extent_offence at (Some (extent.TooWide width)) = Some (too_many_scalars at width.count)

abbrev pub class_offence : References → Tables → Known → Class → Option Refusal
class_offence r t known class = extent_offence (class_place class) (option_and_then (extent_at known) (means r t category.Data class))

-- a port with such a payload is refused at its class
abbrev pub port_offence : References → Tables → Known → PortKind → Option Refusal
port_offence r t known (kind.Data class) = class_offence r t known class
port_offence r t known kind.Event = None
port_offence r t known (kind.EventData class) = class_offence r t known class

-- the refusals of all ports of all types
abbrev pub width_offences : References → Tables → Known → List Refusal
width_offences r t known = offences (λ (port : PartRow Feature). port_offence r t known port.part.kind) t.features

-- it is the first of these, by what is known of the types that the model's data stand for
pub record IsFirstWide (r : References) (t : Tables) (first : Option Refusal) : Type 0 where
  pub known : Known
  pub answers : AreAnswers (shapes_of r t) known
  pub told : first ≡ earliest_from None (width_offences r t known)
