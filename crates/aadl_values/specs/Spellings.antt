-- The words of the table of properties (SAE AS5506, predeclared properties and the data model annex; this project's own: which of
-- them have a meaning). Words are in lower case, as names are.
use Rattle.std.specs.Prelude.{ℕ, if◌then◌else◌, List, [], ◌∷◌, codes, Option, Some, None}
use Rattle.std.specs.Str.{bytes_eq}
use Rattle.aadl_values.specs.declared.property.Property.{Property}
use Rattle.aadl_values.specs.declared.property.Property.TheVariants as property
use Rattle.aadl_values.specs.declared.unit.TimeUnit.{TimeUnit}
use Rattle.aadl_values.specs.declared.unit.TimeUnit.TheVariants as unit
use Rattle.aadl_values.specs.declared.words.Dispatch.{Dispatch}
use Rattle.aadl_values.specs.declared.words.Dispatch.TheVariants as dispatch
use Rattle.aadl_values.specs.declared.words.Dequeue.{Dequeue}
use Rattle.aadl_values.specs.declared.words.Dequeue.TheVariants as dequeue
use Rattle.aadl_values.specs.declared.words.Overflow.{Overflow}
use Rattle.aadl_values.specs.declared.words.Overflow.TheVariants as overflow
use Rattle.aadl_values.specs.declared.words.Representation.{Representation}
use Rattle.aadl_values.specs.declared.words.Representation.TheVariants as representation

-- the first of these that is spelled so
abbrev pub spelled_among : {W : Type 0} → (W → List ℕ) → List W → List ℕ → Option W
spelled_among spelling [] name = None
spelled_among spelling (w ∷ ws) name = if bytes_eq name (spelling w) then Some w else spelled_among spelling ws name

unfoldable pub property_word : Property → List ℕ
property_word property.DispatchProtocol = codes "dispatch_protocol"
property_word property.Period = codes "period"
property_word property.ComputeExecutionTime = codes "compute_execution_time"
property_word property.FramePeriod = codes "frame_period"
property_word property.QueueSize = codes "queue_size"
property_word property.OverflowHandlingProtocol = codes "overflow_handling_protocol"
property_word property.DequeueProtocol = codes "dequeue_protocol"
property_word property.ActualProcessorBinding = codes "actual_processor_binding"
property_word property.DataRepresentation = codes "data_representation"
property_word property.Enumerators = codes "enumerators"
property_word property.BaseType = codes "base_type"
property_word property.Dimension = codes "dimension"

abbrev pub all_properties : List Property
all_properties =
    property.DispatchProtocol ∷ property.Period ∷ property.ComputeExecutionTime ∷ property.FramePeriod ∷ property.QueueSize ∷
    property.OverflowHandlingProtocol ∷ property.DequeueProtocol ∷ property.ActualProcessorBinding ∷ property.DataRepresentation ∷
    property.Enumerators ∷ property.BaseType ∷ property.Dimension ∷ []

unfoldable pub unit_word : TimeUnit → List ℕ
unit_word unit.Picoseconds = codes "ps"
unit_word unit.Nanoseconds = codes "ns"
unit_word unit.Microseconds = codes "us"
unit_word unit.Milliseconds = codes "ms"
unit_word unit.Seconds = codes "sec"
unit_word unit.Minutes = codes "min"
unit_word unit.Hours = codes "hr"

abbrev pub all_units : List TimeUnit
all_units =
    unit.Picoseconds ∷ unit.Nanoseconds ∷ unit.Microseconds ∷ unit.Milliseconds ∷ unit.Seconds ∷ unit.Minutes ∷ unit.Hours ∷ []

unfoldable pub dispatch_word : Dispatch → List ℕ
dispatch_word dispatch.Periodic = codes "periodic"
dispatch_word dispatch.Sporadic = codes "sporadic"

abbrev pub all_dispatches : List Dispatch
all_dispatches = dispatch.Periodic ∷ dispatch.Sporadic ∷ []

unfoldable pub dequeue_word : Dequeue → List ℕ
dequeue_word dequeue.OneItem = codes "oneitem"
dequeue_word dequeue.AllItems = codes "allitems"

abbrev pub all_dequeues : List Dequeue
all_dequeues = dequeue.OneItem ∷ dequeue.AllItems ∷ []

unfoldable pub overflow_word : Overflow → List ℕ
overflow_word overflow.DropOldest = codes "dropoldest"

abbrev pub all_overflows : List Overflow
all_overflows = overflow.DropOldest ∷ []

unfoldable pub representation_word : Representation → List ℕ
representation_word representation.Enum = codes "enum"
representation_word representation.Array = codes "array"
representation_word representation.Struct = codes "struct"
representation_word representation.Integer = codes "integer"
representation_word representation.Boolean = codes "boolean"

abbrev pub all_representations : List Representation
all_representations =
    representation.Enum ∷ representation.Array ∷ representation.Struct ∷ representation.Integer ∷ representation.Boolean ∷ []
