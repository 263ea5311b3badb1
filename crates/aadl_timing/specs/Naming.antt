-- The names of domains, and which of them clash (this project's own: docs/formats/model.md).
use Rattle.std.specs.Prelude.{ℕ, Bool, ◌&&◌, ◌||◌, if◌then◌else◌, List, [], ◌∷◌, ◌++◌, codes, Option, Some, None, option_map, option_and_then, filter_map}
use Rattle.std.specs.List.{cons_option, list_any}
use Rattle.std.specs.Str.{bytes_eq}
use Rattle.hw_text.specs.declared.code.Code.TheVariants as code
use Rattle.hw_text.specs.declared.refusal.Refusal.{Refusal}
use Rattle.aadl_tree.specs.declared.category.Category.TheVariants as category
use Rattle.aadl_tree.specs.declared.subcomponent.Subcomponent.{Subcomponent}
use Rattle.aadl_tree.specs.References.{parted}
use Rattle.aadl_names.specs.declared.tables.Tables.{Tables}
use Rattle.aadl_names.specs.Offences.{named}
use Rattle.aadl_domains.specs.Components.{is}
use Rattle.aadl_timing.specs.Located.{last_row, part_at}

abbrev pub name_at : Tables → ℕ → Option (List ℕ)
name_at t s = option_map (λ (part : Subcomponent). part.name.name) (part_at t s)

-- the names of the subcomponents on the way
abbrev pub domain_name : Tables → List ℕ → List ℕ
domain_name t path = parted (codes "_") (filter_map (name_at t) path)

abbrev pub last_part : Tables → List ℕ → Option Subcomponent
last_part t path = option_and_then (part_at t) (last_row path)

-- the name is that of an earlier domain, or one that no process may have
abbrev pub is_taken : List (List ℕ) → List ℕ → Subcomponent → Bool
is_taken seen name part = list_any (bytes_eq name) seen || (is part.category category.Process && bytes_eq name (codes "types"))

abbrev pub clash : List (List ℕ) → List ℕ → Subcomponent → Option Refusal
clash seen name part = if is_taken seen name part then Some (named code.ModelNameClash part.name.place name) else None

abbrev pub clash_at : Tables → List (List ℕ) → List ℕ → Option Refusal
clash_at t seen path = option_and_then (clash seen (domain_name t path)) (last_part t path)

-- the clashes of these domains, behind domains of these names
abbrev pub clashes_from : Tables → List (List ℕ) → List (List ℕ) → List Refusal
clashes_from t seen [] = []
clashes_from t seen (path ∷ paths) = cons_option (clash_at t seen path) (clashes_from t (seen ++ domain_name t path ∷ []) paths)
