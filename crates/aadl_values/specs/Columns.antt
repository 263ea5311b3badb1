-- The table of properties: which values each property may have (after SAE AS5506, predeclared properties and the data model annex;
-- this project's own: docs/formats/model.md).
use Rattle.std.specs.Prelude.{ℕ, ◌-◌, ◌^◌, Bool, ◌&&◌, not, ◌==◌, length, is_some, if◌then◌else◌, List, [], ◌∷◌, ◌++◌, Option, Some, None, option_and_then}
use Rattle.hw_text.specs.Name.{is_name, lowered}
use Rattle.aadl_tree.specs.declared.association.Association.{Association}
use Rattle.aadl_tree.specs.declared.class.Class.{Class}
use Rattle.aadl_tree.specs.declared.names.Path.{Path}
use Rattle.aadl_tree.specs.declared.names.QualifiedName.{QualifiedName}
use Rattle.aadl_tree.specs.declared.value.PropertyValue.{PropertyValue}
use Rattle.aadl_tree.specs.References.{last_name}
use Rattle.aadl_values.specs.declared.property.Property.{Property}
use Rattle.aadl_values.specs.declared.property.Property.TheVariants as property
use Rattle.aadl_values.specs.declared.words.Dispatch.{Dispatch}
use Rattle.aadl_values.specs.declared.words.Dequeue.{Dequeue}
use Rattle.aadl_values.specs.declared.words.Overflow.{Overflow}
use Rattle.aadl_values.specs.declared.words.Representation.{Representation}
use Rattle.aadl_values.specs.Distinct.{are_distinct}
use Rattle.aadl_values.specs.Layers.{text_in, word_in, list_in, class_in, path_in, bracketed, sole_value}
use Rattle.aadl_values.specs.Spellings.{spelled_among, property_word, all_properties, dispatch_word, all_dispatches, dequeue_word, all_dequeues, overflow_word, all_overflows, representation_word, all_representations}
use Rattle.aadl_values.specs.Times.{positive_time_of, time_range_of, integer_between, kept_if}

abbrev pub one_word : {W : Type 0} → (W → List ℕ) → List W → PropertyValue → Option W
one_word spelling words v = option_and_then (spelled_among spelling words) (word_in v)

abbrev pub dispatch_of : PropertyValue → Option Dispatch
dispatch_of v = one_word dispatch_word all_dispatches v

abbrev pub dequeue_of : PropertyValue → Option Dequeue
dequeue_of v = one_word dequeue_word all_dequeues v

abbrev pub overflow_of : PropertyValue → Option Overflow
overflow_of v = one_word overflow_word all_overflows v

abbrev pub representation_of : PropertyValue → Option Representation
representation_of v = one_word representation_word all_representations v

-- an integer from 1 on; integers of a model are below 2^127
abbrev pub queue_size_of : PropertyValue → Option ℕ
queue_size_of v = integer_between 1 (2 ^ 127 - 1) v

-- the path of the one `reference` in brackets
abbrev pub reference_of : PropertyValue → Option Path
reference_of v = option_and_then path_in (bracketed v)

-- the class of the one `classifier` in brackets
abbrev pub classifier_of : PropertyValue → Option Class
classifier_of v = option_and_then class_in (bracketed v)

-- the one integer in brackets, which is at least 1 and below 2^32
abbrev pub dimension_of : PropertyValue → Option ℕ
dimension_of v = option_and_then (integer_between 1 (2 ^ 32 - 1)) (bracketed v)

-- a text that is a name, in lower case
abbrev pub lower_name : List ℕ → Option (List ℕ)
lower_name text = if is_name text then Some (lowered text) else None

abbrev pub name_in : PropertyValue → Option (List ℕ)
name_in v = option_and_then lower_name (text_in v)

-- the names that all of these are, behind others
abbrev pub names_from : List (List ℕ) → List PropertyValue → Option (List (List ℕ))
names_from before [] = Some before
names_from before (v ∷ vs) = option_and_then (λ name. names_from (before ++ name ∷ []) vs) (name_in v)

abbrev pub is_some_distinct : List (List ℕ) → Bool
is_some_distinct names = not (length names == 0) && are_distinct names

-- texts in brackets, at least one, each of them a name, which differ in lower case
abbrev pub enumerators_of : PropertyValue → Option (List (List ℕ))
enumerators_of v = option_and_then (λ vs. option_and_then (kept_if is_some_distinct) (names_from [] vs)) (list_in v)

-- the property of this name, whatever set name stands before it
abbrev pub property_named : QualifiedName → Option Property
property_named name = spelled_among property_word all_properties (last_name name)

-- the value is one that the property may have; what a reference leads to is not asked
abbrev pub fits : Property → PropertyValue → Bool
fits property.DispatchProtocol v = is_some (dispatch_of v)
fits property.Period v = is_some (positive_time_of v)
fits property.ComputeExecutionTime v = is_some (time_range_of v)
fits property.FramePeriod v = is_some (positive_time_of v)
fits property.QueueSize v = is_some (queue_size_of v)
fits property.OverflowHandlingProtocol v = is_some (overflow_of v)
fits property.DequeueProtocol v = is_some (dequeue_of v)
fits property.ActualProcessorBinding v = is_some (reference_of v)
fits property.DataRepresentation v = is_some (representation_of v)
fits property.Enumerators v = is_some (enumerators_of v)
fits property.BaseType v = is_some (classifier_of v)
fits property.Dimension v = is_some (dimension_of v)

-- the association has one value alone, which fits
abbrev pub suits : Property → Association → Bool
suits p a = is_some (option_and_then (kept_if (fits p)) (sole_value a))
