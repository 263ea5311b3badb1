-- Names under which the rows of a table are found (after SAE AS5506, name spaces).
use Rattle.std.specs.Prelude.{ℕ, ◌+◌, ◌==◌, Bool, ◌&&◌, List, [], ◌∷◌, Option, Some, None, if◌then◌else◌}
use Rattle.std.specs.Str.{bytes_eq}
use Rattle.aadl_tree.specs.declared.component.ComponentType.{ComponentType}
use Rattle.aadl_tree.specs.declared.component.Implementation.{Implementation}

-- in which declaration a thing is named, and its name: that of an implementation has two parts
pub record Key : Type 0 where
  pub owner : ℕ
  pub first : List ℕ
  pub second : List ℕ

abbrev pub key : ℕ → List ℕ → List ℕ → Key
key owner first second = record { owner = owner; first = first; second = second }

abbrev pub type_key : ComponentType → Key
type_key t = key 0 t.name.name []

abbrev pub implementation_key : Implementation → Key
implementation_key i = key 0 i.name.component_type.name i.name.name

abbrev pub same_key : Key → Key → Bool
same_key a b = (a.owner == b.owner && bytes_eq a.first b.first) && bytes_eq a.second b.second

-- the first of these keys that is this one, counted on
abbrev pub place_from : ℕ → List Key → Key → Option ℕ
place_from at [] k = None
place_from at (other ∷ keys) k = if same_key k other then Some at else place_from (at + 1) keys k

-- the first row that has the key
abbrev pub place_of : List Key → Key → Option ℕ
place_of keys k = place_from 0 keys k
