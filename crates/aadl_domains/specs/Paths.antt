-- What it is to be a component of an instance (after SAE AS5506, system instances).
use Rattle.std.specs.Prelude.{◌≡◌, ℕ, ◌<◌, true, false, List, [], ◌∷◌, length, Some, slice_get}
use Rattle.aadl_tree.specs.declared.subcomponent.Subcomponent.{Subcomponent}
use Rattle.aadl_names.specs.declared.parts.PartRow.{PartRow}
use Rattle.aadl_names.specs.declared.resolved.Resolved.{Resolved}
use Rattle.aadl_names.specs.declared.tables.Tables.{Tables}
use Rattle.aadl_domains.specs.declared.sought.Sought.{Sought}
use Rattle.aadl_domains.specs.Components.{is_sought, led_to}

-- the subcomponent stands in this row, and is one of the implementation
pub record StandsIn (t : Tables) (n s : ℕ) (row : PartRow Subcomponent) : Type 0 where
  pub there : n < length t.implementations
  pub found : slice_get t.subcomponents s ≡ Some row
  pub own : row.owner ≡ n

-- each subcomponent on the way is one of the implementation to which the one before it leads, and the last is what is sought
abbrev pub IsComponent : Sought → Tables → Resolved → ℕ → List ℕ → Type 0
IsComponent asked t to n [] = ⊥
IsComponent asked t to n (s ∷ []) = (row : PartRow Subcomponent) × StandsIn t n s row × (is_sought asked row.part.category ≡ true)
IsComponent asked t to n (s ∷ next ∷ path) =
    (row : PartRow Subcomponent) × StandsIn t n s row × (is_sought asked row.part.category ≡ false) × (inner : ℕ) × (led_to to s row.part.category ≡ Some inner) × IsComponent asked t to inner (next ∷ path)
