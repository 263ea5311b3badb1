-- Threads that do not say when they are dispatched (after SAE AS5506, thread properties; this project's own: docs/formats/model.md).
use Rattle.std.specs.Prelude.{ℕ, Bool, true, false, not, is_some, ◌++◌, if◌then◌else◌, List, Option, Some, None, option_and_then, filter_map}
use Rattle.hw_text.specs.declared.code.Code.TheVariants as code
use Rattle.hw_text.specs.declared.refusal.Refusal.{Refusal}
use Rattle.aadl_names.specs.declared.counting.Component.{Component}
use Rattle.aadl_names.specs.declared.resolved.Resolved.{Resolved}
use Rattle.aadl_names.specs.declared.tables.Tables.{Tables}
use Rattle.aadl_names.specs.Offences.{named}
use Rattle.aadl_values.specs.declared.words.Dispatch.{Dispatch}
use Rattle.aadl_values.specs.declared.words.Dispatch.TheVariants as dispatch
use Rattle.aadl_timing.specs.declared.timing.Timing.{Timing}
use Rattle.aadl_timing.specs.Located.{thread_at}
use Rattle.aadl_timing.specs.Timings.{timing_of}

-- no dispatch protocol, or periodic without a period
abbrev pub is_untimed_by : Option Dispatch → Option ℕ → Bool
is_untimed_by None period = true
is_untimed_by (Some dispatch.Periodic) period = not (is_some period)
is_untimed_by (Some dispatch.Sporadic) period = false

abbrev pub is_untimed : Timing → Bool
is_untimed timing = is_untimed_by timing.dispatch timing.period

-- told at the name of the thread's type
abbrev pub untimed : Component → Option Refusal
untimed c = if is_untimed (timing_of c) then Some (named code.ModelNoPeriod c.declared.name.place c.declared.name.name) else None

abbrev pub untimed_at : Tables → Resolved → List ℕ → Option Refusal
untimed_at t to path = option_and_then untimed (thread_at t to path)

-- those of the threads of these domains
abbrev pub untimed_offences : Tables → Resolved → List (List ℕ) → List Refusal
untimed_offences t to domains = filter_map (untimed_at t to) domains

-- those of the threads of these domains, the paths of which go on behind this one
abbrev pub untimed_behind : Tables → Resolved → List ℕ → List (List ℕ) → List Refusal
untimed_behind t to before domains = filter_map (λ (path : List ℕ). untimed_at t to (before ++ path)) domains
