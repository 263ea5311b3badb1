-- The components of an instance, in the order in which a walk through its systems meets them (after SAE AS5506, system instances).
use Rattle.std.specs.Prelude.{ℕ, zero, suc, min, ◌-◌, ◌^◌, ◌+◌, ◌==◌, nat_lt, Bool, ◌||◌, List, [], ◌∷◌, ◌++◌, map, length, Option, Some, None, option_and_then, if◌then◌else◌}
use Rattle.aadl_tree.specs.declared.category.Category.{Category}
use Rattle.aadl_tree.specs.declared.category.Category.TheVariants as category
use Rattle.aadl_tree.specs.declared.subcomponent.Subcomponent.{Subcomponent}
use Rattle.aadl_names.specs.declared.class_row.ClassRow.{ClassRow}
use Rattle.aadl_names.specs.declared.class_row.ClassRow.TheVariants as row
use Rattle.aadl_names.specs.declared.parts.PartRow.{PartRow}
use Rattle.aadl_names.specs.declared.resolved.Resolved.{Resolved}
use Rattle.aadl_names.specs.declared.tables.Tables.{Tables}
use Rattle.aadl_names.specs.Meanings.{at_row, number_of}
use Rattle.aadl_domains.specs.declared.sought.Sought.{Sought}
use Rattle.aadl_domains.specs.declared.sought.Sought.TheVariants as sought

abbrev pub is : Category → Category → Bool
is a b = number_of a == number_of b

-- domains are processes and devices
abbrev pub is_sought : Sought → Category → Bool
is_sought sought.Domain c = is c category.Process || is c category.Device
is_sought sought.Processor c = is c category.Processor

abbrev pub implementation_in : ClassRow → Option ℕ
implementation_in row.Base = None
implementation_in (row.Type n) = None
implementation_in (row.Implementation n) = Some n

-- the implementation of a subcomponent that is a system; a system of a type alone holds nothing
abbrev pub led_to : Resolved → ℕ → Category → Option ℕ
led_to to s c = if is c category.System then option_and_then implementation_in (at_row to.classes s) else None

abbrev pub inside_of : (ℕ → List (List ℕ)) → Option ℕ → List (List ℕ)
inside_of inside None = []
inside_of inside (Some n) = inside n

-- at and below one subcomponent, where these are the components inside of each implementation
abbrev pub at_subcomponent : Sought → (ℕ → List (List ℕ)) → Resolved → ℕ → Category → List (List ℕ)
at_subcomponent asked inside to s c =
    if is_sought asked c then (s ∷ []) ∷ [] else map (λ path. s ∷ path) (inside_of inside (led_to to s c))

-- at and below those subcomponents of an implementation that stand in these rows, which are counted on
abbrev pub in_rows : Sought → (ℕ → List (List ℕ)) → Resolved → ℕ → ℕ → List (PartRow Subcomponent) → List (List ℕ)
in_rows asked inside to n s [] = []
in_rows asked inside to n s (row ∷ rows) =
    (if row.owner == n then at_subcomponent asked inside to s row.part.category else []) ++ in_rows asked inside to n (s + 1) rows

-- inside of an implementation
abbrev pub inside_implementation : Sought → (ℕ → List (List ℕ)) → Tables → Resolved → ℕ → List (List ℕ)
inside_implementation asked inside t to n = if nat_lt n (length t.implementations) then in_rows asked inside to n 0 t.subcomponents else []

-- the components inside of an implementation, so many levels deep: each is the path of the rows of its subcomponents, from outside
abbrev pub components_within : Sought → Tables → Resolved → ℕ → ℕ → List (List ℕ)
components_within asked t to zero n = []
components_within asked t to (suc depth) n = inside_implementation asked (components_within asked t to depth) t to n

-- the components below a root, in at most 32 systems
unfoldable pub components_of : Sought → Tables → Resolved → ℕ → List (List ℕ)
components_of asked t to root = components_within asked t to 33 root

abbrev pub domains_of : Tables → Resolved → ℕ → List (List ℕ)
domains_of t to root = components_of sought.Domain t to root

-- a count of components, as far as it can be told
abbrev pub counted : ℕ → ℕ
counted many = min many (2 ^ 64 - 1)
