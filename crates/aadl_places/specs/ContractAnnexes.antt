-- Which annexes are the contracts of threads (this project's own).
use Rattle.std.specs.Prelude.{ℕ, ◌+◌, ◌==◌, Bool, false, ◌&&◌, ◌||◌, not, if◌then◌else◌, codes, List, [], ◌∷◌, ◌++◌, Option, Some, None}
use Rattle.std.specs.Str.{bytes_eq}
use Rattle.aadl_tree.specs.declared.annex.Annex.{Annex}
use Rattle.aadl_tree.specs.declared.category.Category.TheVariants as category
use Rattle.aadl_names.specs.declared.element.Element.{Element}
use Rattle.aadl_names.specs.declared.element.Element.TheVariants as element
use Rattle.aadl_names.specs.declared.tables.AnnexRow.{AnnexRow}
use Rattle.aadl_names.specs.declared.tables.Tables.{Tables}
use Rattle.aadl_names.specs.Meanings.{first_there, is_of}
use Rattle.aadl_places.specs.Sites.{component_category}

abbrev pub is_gumbo : Annex → Bool
is_gumbo a = bytes_eq a.name.name (codes "gumbo")

abbrev pub is_type : ℕ → Option Element → Bool
is_type n None = false
is_type n (Some (element.Type m)) = n == m
is_type n (Some (element.Implementation m)) = false
is_type n (Some (element.Feature m part)) = false
is_type n (Some (element.Subcomponent m part)) = false
is_type n (Some (element.Connection m part)) = false

abbrev pub is_implementation : ℕ → Option Element → Bool
is_implementation n None = false
is_implementation n (Some (element.Type m)) = false
is_implementation n (Some (element.Implementation m)) = n == m
is_implementation n (Some (element.Feature m part)) = false
is_implementation n (Some (element.Subcomponent m part)) = false
is_implementation n (Some (element.Connection m part)) = false

-- the holder of an annex is this type or this implementation
abbrev pub is_declaration : Element → Option Element → Bool
is_declaration (element.Type n) holder = is_type n holder
is_declaration (element.Implementation n) holder = is_implementation n holder
is_declaration (element.Feature n part) holder = false
is_declaration (element.Subcomponent n part) holder = false
is_declaration (element.Connection n part) holder = false

-- the last of the GUMBO annexes in a declaration, the rows being numbered on
abbrev pub last_gumbo : Element → ℕ → List AnnexRow → Option ℕ
last_gumbo declaration at [] = None
last_gumbo declaration at (a ∷ later) =
    first_there (last_gumbo declaration (at + 1) later) (if is_declaration declaration a.holder && is_gumbo a.annex then Some at else None)

abbrev pub implementation_gumbo : Tables → Option ℕ → Option ℕ
implementation_gumbo t None = None
implementation_gumbo t (Some i) = last_gumbo (element.Implementation i) 0 t.annexes

-- the row of the contract of a thread of this type and implementation: that of the implementation, else that of the type
abbrev pub contract_annex : Tables → ℕ → Option ℕ → Option ℕ
contract_annex t type implementation = first_there (implementation_gumbo t implementation) (last_gumbo (element.Type type) 0 t.annexes)

-- among the rows of the declaration that come next there is a GUMBO annex; annexes of one declaration stand together
abbrev pub is_followed : Element → List AnnexRow → Bool
is_followed declaration [] = false
is_followed declaration (a ∷ later) = is_declaration declaration a.holder && (is_gumbo a.annex || is_followed declaration later)

-- the last in a thread type or a thread implementation
abbrev pub is_last_of_thread : Tables → Option Element → List AnnexRow → Bool
is_last_of_thread t None later = false
is_last_of_thread t (Some holder) later = is_of category.Thread (component_category t holder) && not (is_followed holder later)

abbrev pub is_contract : Tables → AnnexRow → List AnnexRow → Bool
is_contract t a later = is_gumbo a.annex && is_last_of_thread t a.holder later

-- the annexes that are the contract of no type or implementation
abbrev pub ignored_annexes : Tables → List AnnexRow → List Annex
ignored_annexes t [] = []
ignored_annexes t (a ∷ later) = (if is_contract t a later then [] else a.annex ∷ []) ++ ignored_annexes t later
