-- When a thread is dispatched, and how long a dispatch takes (after SAE AS5506, thread properties). Times are in picoseconds.
use Rattle.std.specs.Prelude.{ℕ, Option, Some, None, option_and_then}
use Rattle.aadl_tree.specs.declared.value.PropertyValue.{PropertyValue}
use Rattle.aadl_names.specs.declared.counting.Component.{Component}
use Rattle.aadl_names.specs.Counting.{counts_for_component}
use Rattle.aadl_values.specs.declared.property.Property.{Property}
use Rattle.aadl_values.specs.declared.property.Property.TheVariants as property
use Rattle.aadl_values.specs.declared.time_range.TimeRange.{TimeRange}
use Rattle.aadl_values.specs.Columns.{dispatch_of}
use Rattle.aadl_values.specs.Layers.{sole_value}
use Rattle.aadl_values.specs.Spellings.{property_word}
use Rattle.aadl_values.specs.Times.{positive_time_of, time_range_of}
use Rattle.aadl_timing.specs.declared.timing.Timing.{Timing}

-- the value of the association that counts for a component
abbrev pub counting_value : Property → Component → Option PropertyValue
counting_value p c = option_and_then sole_value (counts_for_component (property_word p) c)

abbrev pub high_end : Option TimeRange → ℕ
high_end None = 0
high_end (Some range) = range.high

-- a value that its property may not have is none
abbrev pub timing_of : Component → Timing
timing_of c = record {
  dispatch = option_and_then dispatch_of (counting_value property.DispatchProtocol c);
  period = option_and_then positive_time_of (counting_value property.Period c);
  upper = high_end (option_and_then time_range_of (counting_value property.ComputeExecutionTime c));
}
