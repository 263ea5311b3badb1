-- The frame period of an instance (this project's own: docs/formats/model.md). Times are in picoseconds.
use Rattle.std.specs.Prelude.{ℕ, min, List, [], ◌∷◌, take, filter_map, Option, Some, None, option_and_then, slice_get}
use Rattle.aadl_names.specs.declared.resolved.Resolved.{Resolved}
use Rattle.aadl_names.specs.declared.tables.Tables.{Tables}
use Rattle.aadl_names.specs.Meanings.{first_there}
use Rattle.aadl_values.specs.declared.property.Property.TheVariants as property
use Rattle.aadl_values.specs.declared.words.Dispatch.{Dispatch}
use Rattle.aadl_values.specs.declared.words.Dispatch.TheVariants as dispatch
use Rattle.aadl_values.specs.Times.{positive_time_of}
use Rattle.aadl_names.specs.declared.counting.Component.{Component}
use Rattle.aadl_domains.specs.declared.sought.Sought.TheVariants as sought
use Rattle.aadl_domains.specs.Components.{components_of, domains_of}
use Rattle.aadl_timing.specs.Located.{component_at, thread_at}
use Rattle.aadl_timing.specs.Timings.{counting_value, timing_of}

abbrev pub if_periodic : Option Dispatch → Option ℕ → Option ℕ
if_periodic None period = None
if_periodic (Some dispatch.Periodic) period = period
if_periodic (Some dispatch.Sporadic) period = None

-- the period of a periodic thread
abbrev pub period_of : Component → Option ℕ
period_of c = let timing = timing_of c in if_periodic timing.dispatch timing.period

abbrev pub period_at : Tables → Resolved → List ℕ → Option ℕ
period_at t to path = option_and_then period_of (thread_at t to path)

abbrev pub lesser : Option ℕ → Option ℕ → Option ℕ
lesser None other = other
lesser (Some n) None = Some n
lesser (Some n) (Some m) = Some (min n m)

-- the least of these and of the known one
abbrev pub least_from : Option ℕ → List ℕ → Option ℕ
least_from known [] = known
least_from known (n ∷ ns) = least_from (lesser known (Some n)) ns

-- the least period of the threads of these domains
abbrev pub least_period : Tables → Resolved → List (List ℕ) → Option ℕ
least_period t to domains = least_from None (filter_map (period_at t to) domains)

-- Frame_Period of the first of these processors
abbrev pub own_frame_period : Tables → Resolved → List (List ℕ) → Option ℕ
own_frame_period t to processors =
    option_and_then (λ c. option_and_then positive_time_of (counting_value property.FramePeriod c))
    (option_and_then (component_at t to) (slice_get processors 0))

abbrev pub or_millisecond : Option ℕ → ℕ
or_millisecond None = 1000000000
or_millisecond (Some period) = period

-- that of the processor, else the least period of the first 60 domains, else a millisecond
abbrev pub frame_period : Tables → Resolved → ℕ → ℕ
frame_period t to root =
    or_millisecond (first_there (own_frame_period t to (components_of sought.Processor t to root)) (least_period t to (take 60 (domains_of t to root))))
