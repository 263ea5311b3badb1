-- Models with no root, or with several (this project's own; after SAE AS5506, system instances).
use Rattle.std.specs.Prelude.{ℕ, List, [], ◌∷◌, Option, Some, None, slice_get, option_map}
use Rattle.hw_text.specs.declared.code.Code.TheVariants as code
use Rattle.hw_text.specs.declared.place.Place.{Place}
use Rattle.hw_text.specs.declared.refusal.Refusal.{Refusal}
use Rattle.aadl_tree.specs.declared.component.Implementation.{Implementation}
use Rattle.aadl_tree.specs.References.{implementation_text}
use Rattle.aadl_names.specs.declared.tables.Tables.{Tables}
use Rattle.aadl_names.specs.Offences.{named}

-- where a model begins
abbrev pub beginning : Place
beginning = record { line = 1; column = 1 }

abbrev pub second_root : Implementation → Refusal
second_root i = named code.ModelManyRoots i.name.component_type.place (implementation_text i.name)

abbrev pub unused_offence : Option Implementation → Option Refusal
unused_offence i = option_map second_root i

abbrev pub listed : Option Refusal → List Refusal
listed None = []
listed (Some r) = r ∷ []

-- the refusal of a model of which the system implementations in these rows are unused: one of them is the root
abbrev pub root_offences : Tables → List ℕ → List Refusal
root_offences t [] = named code.ModelNoRoot beginning [] ∷ []
root_offences t (root ∷ []) = []
root_offences t (root ∷ second ∷ roots) = listed (unused_offence (slice_get t.implementations second))
