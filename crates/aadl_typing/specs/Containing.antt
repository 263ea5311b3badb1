-- What the declarations of a model contain, and which of them contains itself (after SAE AS5506, components; this project's own).
use Rattle.std.specs.Prelude.{◌≡◌, ℕ, ◌+◌, List, [], ◌∷◌, ◌++◌, map, filter_map, Option, Some, None, option_and_then, slice_get}
use Rattle.hw_text.specs.declared.code.Code.TheVariants as code
use Rattle.hw_text.specs.declared.refusal.Refusal.{Refusal}
use Rattle.aadl_tree.specs.declared.package.Declaration.{Declaration}
use Rattle.aadl_tree.specs.declared.package.Declaration.TheVariants as declaration
use Rattle.aadl_tree.specs.declared.package.Package.{Package}
use Rattle.aadl_tree.specs.declared.subcomponent.Subcomponent.{Subcomponent}
use Rattle.aadl_tree.specs.References.{implementation_text}
use Rattle.aadl_names.specs.declared.class_row.ClassRow.{ClassRow}
use Rattle.aadl_names.specs.declared.class_row.ClassRow.TheVariants as row
use Rattle.aadl_names.specs.declared.references.References.{References}
use Rattle.aadl_names.specs.declared.tables.Tables.{Tables}
use Rattle.aadl_names.specs.Meanings.{means}
use Rattle.aadl_names.specs.Offences.{named}
use Rattle.aadl_loops.specs.Loops.{IsFirstOnLoop}
use Rattle.aadl_types.specs.declared.shape.Part.{Part}
use Rattle.aadl_types.specs.declared.shape.Part.TheVariants as part
use Rattle.aadl_types.specs.declared.shape.Shape.{Shape}
use Rattle.aadl_types.specs.declared.shape.Shape.TheVariants as shape
use Rattle.aadl_types.specs.Shaping.{type_shape, implementation_shape}
use Rattle.aadl_typing.specs.declared.standing.Standing.{Standing}

abbrev pub class_of_part : Part → List ClassRow
class_of_part (part.Base base) = []
class_of_part (part.Row class) = class ∷ []

-- what an array or an alias is made of
abbrev pub based_on : Option Shape → List ClassRow
based_on None = []
based_on (Some (shape.Enum names)) = []
based_on (Some (shape.Array element times)) = class_of_part element
based_on (Some (shape.Alias base)) = class_of_part base
based_on (Some (shape.Struct members)) = []

abbrev pub classes_in : References → Tables → List Subcomponent → List ClassRow
classes_in r t subcomponents = filter_map (λ (s : Subcomponent). means r t s.category s.class) subcomponents

-- what a declaration contains: the classes of its subcomponents, and what it is an array or an alias of. An implementation does not
-- contain its type
abbrev pub contained_in : References → Tables → Declaration → List ClassRow
contained_in r t (declaration.Type c) = based_on (type_shape r t c)
contained_in r t (declaration.Implementation i) = classes_in r t i.subcomponents ++ based_on (implementation_shape r t i)
contained_in r t (declaration.Annex a) = []

-- where types stand among declarations, which are counted on
abbrev pub type_places : ℕ → List Declaration → List ℕ
type_places at [] = []
type_places at (declaration.Type c ∷ ds) = at ∷ type_places (at + 1) ds
type_places at (declaration.Implementation c ∷ ds) = type_places (at + 1) ds
type_places at (declaration.Annex a ∷ ds) = type_places (at + 1) ds

-- and where implementations stand
abbrev pub implementation_places : ℕ → List Declaration → List ℕ
implementation_places at [] = []
implementation_places at (declaration.Type c ∷ ds) = implementation_places (at + 1) ds
implementation_places at (declaration.Implementation c ∷ ds) = at ∷ implementation_places (at + 1) ds
implementation_places at (declaration.Annex a ∷ ds) = implementation_places (at + 1) ds

abbrev pub standing_of : List Declaration → Standing
standing_of ds = record { types = type_places 0 ds; implementations = implementation_places 0 ds }

-- where the declaration of a row stands
abbrev pub place_in : Standing → ClassRow → Option ℕ
place_in s row.Base = None
place_in s (row.Type n) = slice_get s.types n
place_in s (row.Implementation n) = slice_get s.implementations n

abbrev pub places_in : Standing → List ClassRow → List ℕ
places_in s classes = filter_map (place_in s) classes

-- where what each of these contains stands
abbrev pub edges_by : References → Tables → Standing → List Declaration → List (List ℕ)
edges_by r t standing ds = map (λ d. places_in standing (contained_in r t d)) ds

-- the declarations as a graph, in text order: each leads to those that it contains
abbrev pub edges_of : References → Tables → List Declaration → List (List ℕ)
edges_of r t ds = edges_by r t (standing_of ds) ds

-- the refusal of a type or an implementation at its own name
abbrev pub refusal_of : Declaration → Option Refusal
refusal_of (declaration.Type c) = Some (named code.ModelContainsItself c.name.place c.name.name)
refusal_of (declaration.Implementation i) = Some (named code.ModelContainsItself i.name.component_type.place (implementation_text i.name))
refusal_of (declaration.Annex a) = None

-- the refusal of the first declaration that contains itself
pub record IsFirstItself (r : References) (t : Tables) (p : Package) (refusal : Refusal) : Type 0 where
  pub at : ℕ
  pub first : IsFirstOnLoop (edges_of r t p.declarations) at
  pub told : option_and_then refusal_of (slice_get p.declarations at) ≡ Some refusal
