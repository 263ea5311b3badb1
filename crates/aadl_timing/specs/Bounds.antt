-- Where refusals of threads may stand, before the threads are looked at one by one. No clause of a public function cites this.
use Rattle.std.specs.Prelude.{◌≡◌, ℕ, ◌<◌, ◌==◌, Bool, true, false, not, ◌&&◌, ◌||◌, if◌then◌else◌, List, [], ◌∷◌, ◌++◌, length, Option, Some, None, slice_index_or, slice_set}
use Rattle.std.specs.List.{list_any}
use Rattle.hw_text.specs.declared.place.Place.{Place}
use Rattle.hw_text.specs.declared.refusal.Refusal.{Refusal}
use Rattle.aadl_tree.specs.declared.association.Association.{Association}
use Rattle.aadl_tree.specs.declared.component.Implementation.{Implementation}
use Rattle.aadl_tree.specs.declared.subcomponent.Subcomponent.{Subcomponent}
use Rattle.aadl_names.specs.declared.resolved.Resolved.{Resolved}
use Rattle.aadl_names.specs.declared.tables.Tables.{Tables}
use Rattle.aadl_names.specs.Counting.{is_of_property}
use Rattle.aadl_names.specs.Offences.{is_before, earliest_from}
use Rattle.aadl_names.specs.Parts.{in_braces}
use Rattle.aadl_values.specs.declared.property.Property.TheVariants as property
use Rattle.aadl_values.specs.Spellings.{property_word}
use Rattle.aadl_domains.specs.declared.sought.Sought.TheVariants as sought
use Rattle.aadl_domains.specs.Components.{components_within}
use Rattle.aadl_timing.specs.Untimed.{untimed_at, untimed_behind}

-- the refusal stands at the place or before it, or no place is told
abbrev pub is_past : Option Refusal → Option Place → Bool
is_past known None = true
is_past None (Some bound) = false
is_past (Some r) (Some bound) = not (is_before bound r.place)

-- where such a refusal is known, these domains change nothing, whatever is before them on the way
abbrev pub IsBoundOf : Tables → Resolved → Option Place → List (List ℕ) → Type 0
IsBoundOf t to bound domains =
    (known : Option Refusal) (before : List ℕ) → is_past known bound ≡ true → earliest_from known (untimed_behind t to before domains) ≡ known

-- a refusal of the domain of this row stands at the place, whatever is before it on the way
abbrev pub IsPlaceOf : Tables → Resolved → Option Place → ℕ → Type 0
IsPlaceOf t to place s = (before : List ℕ) (r : Refusal) → untimed_at t to (before ++ s ∷ []) ≡ Some r → place ≡ Some r.place

-- that of an implementation
abbrev pub bound_of : List (Option Place) → ℕ → Option Place
bound_of bounds n = slice_index_or bounds n None

abbrev pub sooner : Option Place → Option Place → Option Place
sooner None other = other
sooner (Some one) None = Some one
sooner (Some one) (Some two) = if is_before two one then Some two else Some one

abbrev pub lowered : List (Option Place) → ℕ → Option Place → List (Option Place)
lowered bounds n place = slice_set bounds n (sooner (bound_of bounds n) place)

-- the bounds of these domains inside of each implementation
abbrev pub AreBounds : Tables → Resolved → List (Option Place) → (ℕ → List (List ℕ)) → Type 0
AreBounds t to bounds inside = (n : ℕ) → IsBoundOf t to (bound_of bounds n) (inside n)

-- those of each depth
abbrev pub AreDeepBounds : Tables → Resolved → List (List (Option Place)) → Type 0
AreDeepBounds t to rounds =
    (depth : ℕ) → depth < length rounds → AreBounds t to (slice_index_or rounds depth []) (components_within sought.Domain t to depth)

-- the association sets the timing of what it applies to
abbrev pub is_led_timing : Association → Bool
is_led_timing a =
    not (length a.applies_to == 0) && (is_of_property (property_word property.DispatchProtocol) a || is_of_property (property_word property.Period) a)

abbrev pub leads_in_braces : Subcomponent → Bool
leads_in_braces s = list_any is_led_timing (in_braces s.own)

abbrev pub leads_inside : Implementation → Bool
leads_inside i = list_any is_led_timing i.properties || list_any leads_in_braces i.subcomponents

-- some implementation sets the timing of other components
abbrev pub leads_anywhere : Tables → Bool
leads_anywhere t = list_any leads_inside t.implementations
