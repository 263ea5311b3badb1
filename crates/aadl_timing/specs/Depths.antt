-- Systems in systems, and how deep they may lie (after SAE AS5506, system instances; this project's own: the limit).
use Rattle.std.specs.Prelude.{◌≡◌, ℕ, zero, suc, ◌+◌, ◌==◌, nat_lt, List, [], ◌∷◌, ◌++◌, codes, length, Option, Some, None, option_map, option_and_then, slice_get, slice_index_or, slice_set, if◌then◌else◌}
use Rattle.hw_text.specs.declared.refusal.Refusal.{Refusal}
use Rattle.aadl_tree.specs.declared.category.Category.{Category}
use Rattle.aadl_tree.specs.declared.category.Category.TheVariants as category
use Rattle.aadl_tree.specs.declared.subcomponent.Subcomponent.{Subcomponent}
use Rattle.aadl_names.specs.declared.parts.PartRow.{PartRow}
use Rattle.aadl_names.specs.declared.resolved.Resolved.{Resolved}
use Rattle.aadl_names.specs.declared.tables.Tables.{Tables}
use Rattle.aadl_names.specs.Meanings.{first_there}
use Rattle.aadl_domains.specs.Components.{is, led_to}
use Rattle.aadl_timing.specs.Limits.{limit}
use Rattle.aadl_timing.specs.Located.{part_at}

abbrev pub rows_in : (ℕ → List ℕ) → Option ℕ → List ℕ
rows_in inside None = []
rows_in inside (Some n) = inside n

-- the systems so many levels below a subcomponent; at none it is one itself
abbrev pub systems_at : (ℕ → List ℕ) → Resolved → ℕ → ℕ → Category → List ℕ
systems_at inside to zero s c = if is c category.System then s ∷ [] else []
systems_at inside to (suc levels) s c = rows_in inside (led_to to s c)

-- those at and below the subcomponents of an implementation that stand in these rows, which are counted on
abbrev pub systems_among : (ℕ → List ℕ) → Resolved → ℕ → ℕ → ℕ → List (PartRow Subcomponent) → List ℕ
systems_among inside to levels n s [] = []
systems_among inside to levels n s (row ∷ rows) =
    (if row.owner == n then systems_at inside to levels s row.part.category else []) ++ systems_among inside to levels n (s + 1) rows

abbrev pub systems_inside : (ℕ → List ℕ) → Tables → Resolved → ℕ → ℕ → List ℕ
systems_inside inside t to levels n = if nat_lt n (length t.implementations) then systems_among inside to levels n 0 t.subcomponents else []

-- the systems at a depth of an implementation, in depth-first order: those directly in it have depth 1
abbrev pub systems_of_depth : Tables → Resolved → ℕ → ℕ → List ℕ
systems_of_depth t to zero n = []
systems_of_depth t to (suc levels) n = systems_inside (systems_of_depth t to levels) t to levels n

unfoldable pub too_deep : Tables → Resolved → ℕ → List ℕ
too_deep t to root = systems_of_depth t to 33 root

-- told at the first of these
abbrev pub deep_among : Tables → List ℕ → Option Refusal
deep_among t systems =
    option_map (λ (part : Subcomponent). limit part.name.place (codes "depth") 33 32) (option_and_then (part_at t) (slice_get systems 0))

-- of an implementation
abbrev pub first_of : List (Option ℕ) → ℕ → Option ℕ
first_of firsts n = slice_index_or firsts n None

-- the first of these systems inside of each implementation
abbrev pub AreFirsts : List (Option ℕ) → (ℕ → List ℕ) → Type 0
AreFirsts firsts inside = (n : ℕ) → first_of firsts n ≡ slice_get (inside n) 0

abbrev pub met : List (Option ℕ) → ℕ → Option ℕ → List (Option ℕ)
met firsts n found = slice_set firsts n (first_there (first_of firsts n) found)
