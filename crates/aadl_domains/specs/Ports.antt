-- The thread of a domain, and its ports (after SAE AS5506, processes, features).
use Rattle.std.specs.Prelude.{ℕ, ◌+◌, ◌==◌, ◌&&◌, List, [], ◌∷◌, Option, Some, None, if◌then◌else◌}
use Rattle.aadl_tree.specs.declared.category.Category.TheVariants as category
use Rattle.aadl_tree.specs.declared.subcomponent.Subcomponent.{Subcomponent}
use Rattle.aadl_names.specs.declared.parts.PartRow.{PartRow}
use Rattle.aadl_domains.specs.Components.{is}

-- the rows of the parts of a declaration in order, the rows being counted on
abbrev pub rows_from : {T : Type 0} → ℕ → ℕ → List (PartRow T) → List ℕ
rows_from owner at [] = []
rows_from owner at (row ∷ rows) = if row.owner == owner then at ∷ rows_from owner (at + 1) rows else rows_from owner (at + 1) rows

-- the features of a type, or the subcomponents of an implementation, in order of declaration
abbrev pub rows_of : {T : Type 0} → ℕ → List (PartRow T) → List ℕ
rows_of owner rows = rows_from owner 0 rows

-- the first thread among the subcomponents of an implementation: a process has one, and stands for it
abbrev pub thread_from : ℕ → ℕ → List (PartRow Subcomponent) → Option ℕ
thread_from n at [] = None
thread_from n at (row ∷ rows) = if row.owner == n && is row.part.category category.Thread then Some at else thread_from n (at + 1) rows

abbrev pub thread_of : ℕ → List (PartRow Subcomponent) → Option ℕ
thread_of n rows = thread_from n 0 rows
