-- Which association of a property counts for a component or a feature: the last of the strongest group (after SAE AS5506, property
-- values; this project's own where associations of one group meet).
use Rattle.std.specs.Prelude.{ℕ, Bool, ◌&&◌, ◌==◌, length, List, [], ◌∷◌, ◌++◌, map, drop, Option, Some, None, if◌then◌else◌}
use Rattle.std.specs.List.{list_any}
use Rattle.std.specs.Cmp.Lexicographic.{pointwise}
use Rattle.std.specs.Str.{bytes_eq}
use Rattle.aadl_tree.specs.declared.association.Association.{Association}
use Rattle.aadl_tree.specs.declared.component.Implementation.{Implementation}
use Rattle.aadl_tree.specs.declared.feature.Feature.{Feature}
use Rattle.aadl_tree.specs.declared.names.Path.{Path}
use Rattle.aadl_tree.specs.declared.subcomponent.Subcomponent.{Subcomponent}
use Rattle.aadl_tree.specs.References.{last_name}
use Rattle.aadl_names.specs.declared.counting.Component.{Component}
use Rattle.aadl_names.specs.declared.counting.Step.{Step}
use Rattle.aadl_names.specs.Meanings.{first_there}
use Rattle.aadl_names.specs.Parts.{in_braces}

-- a name before it, as that of its set, does not matter
abbrev pub is_of_property : List ℕ → Association → Bool
is_of_property property a = bytes_eq (last_name a.property) property

abbrev pub is_path : List (List ℕ) → Path → Bool
is_path names p = pointwise bytes_eq (p.first.name ∷ p.others) names

-- `applies to` these names, maybe beside others
abbrev pub leads_to : List (List ℕ) → Association → Bool
leads_to names a = list_any (is_path names) a.applies_to

-- it has no `applies to`
abbrev pub stands_alone : List ℕ → Association → Bool
stands_alone property a = is_of_property property a && length a.applies_to == 0

abbrev pub is_led : List ℕ → List (List ℕ) → Association → Bool
is_led property names a = is_of_property property a && leads_to names a

abbrev pub if_that : Bool → Association → Option Association
if_that b a = if b then Some a else None

abbrev pub last_that : (Association → Bool) → List Association → Option Association
last_that test [] = None
last_that test (a ∷ all) = first_there (last_that test all) (if_that (test a) a)

-- the last without `applies to`
abbrev pub own_last : List ℕ → List Association → Option Association
own_last property all = last_that (stands_alone property) all

-- the last that applies to these names
abbrev pub led_last : List ℕ → List (List ℕ) → List Association → Option Association
led_last property names all = last_that (is_led property names) all

abbrev pub braces_of : List ℕ → List ℕ → List (List ℕ) → Subcomponent → Option Association
braces_of property name names s = if bytes_eq s.name.name name then led_last property names (in_braces s.own) else None

-- the last in the braces of subcomponents of the name, from which paths in their braces count
abbrev pub braces_last : List ℕ → List ℕ → List (List ℕ) → List Subcomponent → Option Association
braces_last property name names [] = None
braces_last property name names (s ∷ all) =
    first_there (braces_last property name names all) (braces_of property name names s)

-- the last in the text of an implementation that applies to what these names lead to
abbrev pub applied : List ℕ → List (List ℕ) → Implementation → Option Association
applied property [] within = None
applied property (name ∷ names) within =
    first_there (led_last property (name ∷ names) within.properties) (braces_last property name names within.subcomponents)

-- that of the outermost implementation on the way, at the first of which these names begin
abbrev pub outermost : List ℕ → List Step → List (List ℕ) → Option Association
outermost property [] names = None
outermost property (step ∷ steps) names = first_there (applied property names step.within) (outermost property steps (drop 1 names))

abbrev pub step_names : List Step → List (List ℕ)
step_names steps = map (λ (step : Step). step.name) steps

abbrev pub properties_of : Option Implementation → List Association
properties_of None = []
properties_of (Some i) = i.properties

abbrev pub applied_inside : List ℕ → List (List ℕ) → Option Implementation → Option Association
applied_inside property names None = None
applied_inside property names (Some i) = applied property names i

-- for a component: `applies to` it, its braces, its implementation, its type
abbrev pub counts_for_component : List ℕ → Component → Option Association
counts_for_component property c =
    first_there (outermost property c.steps (step_names c.steps))
    (first_there (own_last property (in_braces c.subcomponent.own))
    (first_there (own_last property (properties_of c.implementation)) (own_last property c.declared.properties)))

-- for a feature: `applies to` it, its component's implementation among them, its braces, its type
abbrev pub counts_for_feature : List ℕ → Component → Feature → Option Association
counts_for_feature property c f =
    first_there (outermost property c.steps (step_names c.steps ++ f.name.name ∷ []))
    (first_there (applied_inside property (f.name.name ∷ []) c.implementation)
    (first_there (own_last property (in_braces f.own)) (led_last property (f.name.name ∷ []) c.declared.properties)))
