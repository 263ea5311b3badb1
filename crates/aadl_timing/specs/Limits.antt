-- How many domains and processors an instance may have (this project's own: docs/formats/model.md).
use Rattle.std.specs.Prelude.{ℕ, pos, List, codes, length, Option, option_map, option_and_then, slice_get}
use Rattle.hw_text.specs.declared.code.Code.TheVariants as code
use Rattle.hw_text.specs.declared.place.Place.{Place}
use Rattle.hw_text.specs.declared.refusal.Refusal.{Refusal}
use Rattle.aadl_tree.specs.declared.subcomponent.Subcomponent.{Subcomponent}
use Rattle.aadl_names.specs.declared.resolved.Resolved.{Resolved}
use Rattle.aadl_names.specs.declared.tables.Tables.{Tables}
use Rattle.aadl_domains.specs.declared.sought.Sought.{Sought}
use Rattle.aadl_domains.specs.declared.sought.Sought.TheVariants as sought
use Rattle.aadl_domains.specs.Components.{components_of, counted}
use Rattle.aadl_timing.specs.Naming.{last_part}

-- what there is more of than is allowed, how much, and how much is allowed
abbrev pub limit : Place → List ℕ → ℕ → ℕ → Refusal
limit place kind many allowed =
    record { code = code.ModelLimit; place = place; word = kind; low = pos many; high = pos allowed; length = pos 0 }

unfoldable pub kind_of : Sought → List ℕ
kind_of sought.Domain = codes "domains"
kind_of sought.Processor = codes "processors"

abbrev pub allowed_of : Sought → ℕ
allowed_of sought.Domain = 60
allowed_of sought.Processor = 1

-- told at the first of these components over the limit
abbrev pub over_among : Sought → Tables → List (List ℕ) → Option Refusal
over_among asked t components =
    option_map (λ (part : Subcomponent). limit part.name.place (kind_of asked) (counted (length components)) (allowed_of asked))
    (option_and_then (last_part t) (slice_get components (allowed_of asked)))

abbrev pub over : Sought → Tables → Resolved → ℕ → Option Refusal
over asked t to root = over_among asked t (components_of asked t to root)
