-- Numbers and times as values of properties (SAE AS5506, property expressions and Time_Units). Times are in picoseconds.
use Rattle.std.specs.Prelude.{ℕ, ◌*◌, ◌^◌, Bool, ◌&&◌, nat_lt, nat_le, is_none, if◌then◌else◌, List, Option, Some, None, option_and_then}
use Rattle.aadl_tree.specs.declared.value.Number.{Number}
use Rattle.aadl_tree.specs.declared.value.Number.TheVariants as number
use Rattle.aadl_tree.specs.declared.value.PropertyValue.{PropertyValue}
use Rattle.aadl_tree.specs.declared.value.Quantity.{Quantity}
use Rattle.aadl_values.specs.declared.time_range.TimeRange.{TimeRange}
use Rattle.aadl_values.specs.declared.unit.TimeUnit.{TimeUnit}
use Rattle.aadl_values.specs.declared.unit.TimeUnit.TheVariants as unit
use Rattle.aadl_values.specs.Layers.{quantity_in, range_in}
use Rattle.aadl_values.specs.Spellings.{spelled_among, unit_word, all_units}

-- the picoseconds of a unit
abbrev pub picoseconds : TimeUnit → ℕ
picoseconds unit.Picoseconds = 1
picoseconds unit.Nanoseconds = 1000
picoseconds unit.Microseconds = 1000000
picoseconds unit.Milliseconds = 1000000000
picoseconds unit.Seconds = 1000000000000
picoseconds unit.Minutes = 60000000000000
picoseconds unit.Hours = 3600000000000000

abbrev pub unit_named : List ℕ → Option TimeUnit
unit_named name = spelled_among unit_word all_units name

abbrev pub kept_if : {X : Type 0} → (X → Bool) → X → Option X
kept_if test x = if test x then Some x else None

-- an integer; a number with a point is none
abbrev pub integer_in : Number → Option ℕ
integer_in (number.Integer n) = Some n
integer_in (number.Real r) = None

-- an integer without a sign, whatever the unit
abbrev pub unsigned_in : Quantity → Option ℕ
unsigned_in q = if is_none q.sign then integer_in q.number else None

-- an integer without a sign and a unit
abbrev pub plain_in : Quantity → Option ℕ
plain_in q = if is_none q.unit then unsigned_in q else None

abbrev pub is_below_limit : ℕ → Bool
is_below_limit time = nat_lt time (2 ^ 64)

-- so many of a unit, where that is below 2^64
abbrev pub time_of_units : ℕ → TimeUnit → Option ℕ
time_of_units many u = kept_if is_below_limit (many * picoseconds u)

abbrev pub time_with : ℕ → List ℕ → Option ℕ
time_with many unit_name = option_and_then (time_of_units many) (unit_named unit_name)

abbrev pub time_in : Quantity → Option ℕ
time_in q = option_and_then (λ many. option_and_then (time_with many) q.unit) (unsigned_in q)

-- an integer without a sign and a time unit behind it
abbrev pub time_of : PropertyValue → Option ℕ
time_of v = option_and_then time_in (quantity_in v)

-- a time above 0
abbrev pub positive_time_of : PropertyValue → Option ℕ
positive_time_of v = option_and_then (kept_if (nat_lt 0)) (time_of v)

abbrev pub range_between : ℕ → ℕ → Option TimeRange
range_between low high = if nat_le low high then Some (record { low = low; high = high }) else None

abbrev pub range_of_two : Quantity × Quantity → Option TimeRange
range_of_two two = option_and_then (λ low. option_and_then (range_between low) (time_in two.1)) (time_in two.0)

-- two times, the first not above the second
abbrev pub time_range_of : PropertyValue → Option TimeRange
time_range_of v = option_and_then range_of_two (range_in v)

-- an integer without a sign, a unit and a range
abbrev pub integer_of : PropertyValue → Option ℕ
integer_of v = option_and_then plain_in (quantity_in v)

abbrev pub is_between : ℕ → ℕ → ℕ → Bool
is_between least most n = nat_le least n && nat_le n most

-- one of at least `least` and at most `most`
abbrev pub integer_between : ℕ → ℕ → PropertyValue → Option ℕ
integer_between least most v = option_and_then (kept_if (is_between least most)) (integer_of v)
