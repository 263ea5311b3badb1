-- Names behind `end` (after SAE AS5506, packages, component types and component implementations).
use Rattle.std.specs.Prelude.{ℕ, List, [], ◌∷◌, ◌++◌, Option, Some, None, if◌then◌else◌}
use Rattle.std.specs.Str.{bytes_eq}
use Rattle.hw_text.specs.declared.code.Code.TheVariants as code
use Rattle.hw_text.specs.declared.place.Place.{Place}
use Rattle.hw_text.specs.declared.refusal.Refusal.{Refusal}
use Rattle.aadl_tree.specs.declared.component.ComponentType.{ComponentType}
use Rattle.aadl_tree.specs.declared.component.Implementation.{Implementation}
use Rattle.aadl_tree.specs.declared.package.Package.{Package}
use Rattle.aadl_tree.specs.References.{qualified_text, implementation_text}
use Rattle.aadl_names.specs.declared.tables.Tables.{Tables}
use Rattle.aadl_names.specs.Offences.{named, offences}

-- the refusal of a name that stands there behind `end`, where it is another than the declared one
abbrev pub end_offence : List ℕ → List ℕ → Place → Option Refusal
end_offence declared end place = if bytes_eq end declared then None else Some (named code.ModelEndName place end)

abbrev pub package_end : Package → Option Refusal
package_end p = end_offence (qualified_text p.name) (qualified_text p.end_name) p.end_name.first.place

abbrev pub type_end : ComponentType → Option Refusal
type_end c = end_offence c.name.name c.end_name.name c.end_name.place

abbrev pub implementation_end : Implementation → Option Refusal
implementation_end i = end_offence (implementation_text i.name) (implementation_text i.end_name) i.end_name.component_type.place

-- those of a package, its types and its implementations
abbrev pub end_offences : Package → Tables → List Refusal
end_offences p t = offences package_end (p ∷ []) ++ offences type_end t.types ++ offences implementation_end t.implementations
