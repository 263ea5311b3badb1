-- The component to which a path of subcomponents leads, and the thread of a process (after SAE AS5506, system instances, processes).
use Rattle.std.specs.Prelude.{ℕ, ◌-◌, List, [], ◌∷◌, ◌++◌, length, Option, Some, None, option_map, option_and_then, slice_get, if◌then◌else◌}
use Rattle.aadl_tree.specs.declared.category.Category.TheVariants as category
use Rattle.aadl_tree.specs.declared.component.ComponentType.{ComponentType}
use Rattle.aadl_tree.specs.declared.component.Implementation.{Implementation}
use Rattle.aadl_tree.specs.declared.subcomponent.Subcomponent.{Subcomponent}
use Rattle.aadl_names.specs.declared.class_row.ClassRow.{ClassRow}
use Rattle.aadl_names.specs.declared.counting.Component.{Component}
use Rattle.aadl_names.specs.declared.counting.Step.{Step}
use Rattle.aadl_names.specs.declared.parts.PartRow.{PartRow}
use Rattle.aadl_names.specs.declared.resolved.Resolved.{Resolved}
use Rattle.aadl_names.specs.declared.tables.Tables.{Tables}
use Rattle.aadl_names.specs.Meanings.{at_row, type_row}
use Rattle.aadl_domains.specs.Components.{is, implementation_in}
use Rattle.aadl_domains.specs.Ports.{thread_of}

abbrev pub step_within : Subcomponent → Implementation → Step
step_within s i = record { within = i; name = s.name.name }

-- the implementation in which a subcomponent stands, and its name
abbrev pub step_of : Tables → PartRow Subcomponent → Option Step
step_of t row = option_map (step_within row.part) (slice_get t.implementations row.owner)

abbrev pub step_at : Tables → ℕ → Option Step
step_at t s = option_and_then (step_of t) (slice_get t.subcomponents s)

-- the steps of these subcomponents, behind others
abbrev pub steps_from : Tables → List Step → List ℕ → Option (List Step)
steps_from t before [] = Some before
steps_from t before (s ∷ path) = option_and_then (λ (step : Step). steps_from t (before ++ step ∷ []) path) (step_at t s)

abbrev pub last_row : List ℕ → Option ℕ
last_row path = slice_get path (length path - 1)

abbrev pub part_at : Tables → ℕ → Option Subcomponent
part_at t s = option_map (λ (row : PartRow Subcomponent). row.part) (slice_get t.subcomponents s)

-- the implementation of a class, which may be a type alone
abbrev pub implementation_of : Tables → ClassRow → Option Implementation
implementation_of t class = option_and_then (slice_get t.implementations) (implementation_in class)

abbrev pub declared_of : Tables → Resolved → ClassRow → Option ComponentType
declared_of t to class = option_and_then (slice_get t.types) (type_row to class)

-- the component of a subcomponent behind these steps
abbrev pub component_from : List Step → Subcomponent → Option Implementation → ComponentType → Component
component_from steps s implementation declared =
    record { steps = steps; subcomponent = s; implementation = implementation; declared = declared }

abbrev pub component_of : Tables → Resolved → List Step → Subcomponent → ClassRow → Option Component
component_of t to steps s class = option_map (component_from steps s (implementation_of t class)) (declared_of t to class)

abbrev pub component_in : Tables → Resolved → ℕ → List Step → Option Component
component_in t to s steps = option_and_then (λ part. option_and_then (component_of t to steps part) (at_row to.classes s)) (part_at t s)

-- the component at the end of a path
abbrev pub component_at : Tables → Resolved → List ℕ → Option Component
component_at t to path = option_and_then (λ s. option_and_then (component_in t to s) (steps_from t [] path)) (last_row path)

abbrev pub thread_in : Tables → ClassRow → Option ℕ
thread_in t class = option_and_then (λ n. thread_of n t.subcomponents) (implementation_in class)

-- the row of the thread of a subcomponent, which only a process has
abbrev pub thread_below : Tables → Resolved → ℕ → Subcomponent → Option ℕ
thread_below t to s part = if is part.category category.Process then option_and_then (thread_in t) (at_row to.classes s) else None

abbrev pub thread_row : Tables → Resolved → ℕ → Option ℕ
thread_row t to s = option_and_then (thread_below t to s) (part_at t s)

-- the thread of the process at the end of a path
abbrev pub thread_at : Tables → Resolved → List ℕ → Option Component
thread_at t to path =
    option_and_then (λ s. option_and_then (λ thread. component_at t to (path ++ thread ∷ [])) (thread_row t to s)) (last_row path)
