-- Which implementation the instance of a model begins with (after SAE AS5506, system instances).
use Rattle.std.specs.Prelude.{ℕ, ◌+◌, ◌==◌, Bool, false, not, ◌&&◌, ◌||◌, List, [], ◌∷◌, Option, Some, None, if◌then◌else◌}
use Rattle.aadl_tree.specs.declared.category.Category.TheVariants as category
use Rattle.aadl_tree.specs.declared.component.Implementation.{Implementation}
use Rattle.aadl_tree.specs.declared.subcomponent.Subcomponent.{Subcomponent}
use Rattle.aadl_names.specs.declared.class_row.ClassRow.{ClassRow}
use Rattle.aadl_names.specs.declared.class_row.ClassRow.TheVariants as row
use Rattle.aadl_names.specs.declared.parts.PartRow.{PartRow}
use Rattle.aadl_names.specs.declared.resolved.Resolved.{Resolved}
use Rattle.aadl_names.specs.declared.tables.Tables.{Tables}
use Rattle.aadl_names.specs.Meanings.{at_row}
use Rattle.aadl_domains.specs.Components.{is}

-- the class is this implementation
abbrev pub is_row : ℕ → Option ClassRow → Bool
is_row n None = false
is_row n (Some row.Base) = false
is_row n (Some (row.Type other)) = false
is_row n (Some (row.Implementation other)) = other == n

-- one of these subcomponents, which stand in rows that are counted on, refers to the implementation from another one
abbrev pub uses_from : Resolved → ℕ → ℕ → List (PartRow Subcomponent) → Bool
uses_from to n s [] = false
uses_from to n s (row ∷ rows) = (is_row n (at_row to.classes s) && not (row.owner == n)) || uses_from to n (s + 1) rows

-- the system implementations that no other implementation uses, in text order, the rows being counted on
abbrev pub roots_from : Tables → Resolved → ℕ → List Implementation → List ℕ
roots_from t to n [] = []
roots_from t to n (i ∷ is_next) =
    if is i.category category.System && not (uses_from to n 0 t.subcomponents) then n ∷ roots_from t to (n + 1) is_next else roots_from t to (n + 1) is_next

abbrev pub roots_of : Tables → Resolved → List ℕ
roots_of t to = roots_from t to 0 t.implementations
