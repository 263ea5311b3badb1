-- Threads whose timing nothing outside sets.
use Rattle.std.proofs.Common.{◌≡◌, ℕ, zero, suc, Bool, true, false, cond, not, ◌&&◌, ◌||◌, eqb, List, [], ◌∷◌, ◌++◌, length, drop, Option, Some, None, refl, ap, subst, ◌∙◌, arith}
use Rattle.std.specs.List.{slice_get, list_any}
use Rattle.std.specs.Option.{option_map, option_and_then}
use Rattle.std.proofs.lemmas.Bool.{or_parts, or_from, and_left, and_right, ne_eqb}
use Rattle.std.proofs.lemmas.Option.{option_and_then_some}
use Rattle.aadl_tree.specs.declared.association.Association.{Association}
use Rattle.aadl_tree.specs.declared.component.Implementation.{Implementation}
use Rattle.aadl_tree.specs.declared.names.Path.{Path}
use Rattle.aadl_tree.specs.declared.subcomponent.Subcomponent.{Subcomponent}
use Rattle.aadl_names.specs.declared.counting.Step.{Step}
use Rattle.aadl_names.specs.declared.tables.Tables.{Tables}
use Rattle.aadl_names.specs.Counting.{applied, outermost, led_last, is_led, is_path, is_of_property, braces_last, if_that}
use Rattle.aadl_names.specs.Meanings.{first_there}
use Rattle.aadl_names.specs.Parts.{in_braces}
use Rattle.aadl_values.specs.declared.property.Property.TheVariants as property
use Rattle.aadl_values.specs.Spellings.{property_word}
use Rattle.aadl_timing.specs.Bounds.{is_led_timing, leads_in_braces, leads_inside, leads_anywhere}
use Rattle.aadl_timing.specs.Located.{step_at, step_of, step_within, steps_from}

-- a property that no association leads to where none sets a timing
abbrev pub IsTiming : List ℕ → Type 0
IsTiming p = (a : Association) → is_led_timing a ≡ false → (names : List (List ℕ)) → is_led p names a ≡ false

not_led : (x y : Bool) (names : List (List ℕ)) (paths : List Path) → (not (eqb (length paths) 0) && (x || y)) ≡ false →
    ((x && list_any (is_path names) paths) ≡ false) × ((y && list_any (is_path names) paths) ≡ false)
not_led x y names [] quiet = (and_right x false refl, and_right y false refl)
not_led x y names (path ∷ paths) quiet =
    let some : eqb (length (path ∷ paths)) 0 ≡ false = ne_eqb (length (path ∷ paths)) 0 (λ none. omega arith) in
    let neither = or_parts x y (subst (λ (b : Bool). (not b && (x || y)) ≡ false) some quiet) in
    (and_left x (list_any (is_path names) (path ∷ paths)) neither.0, and_left y (list_any (is_path names) (path ∷ paths)) neither.1)

pub protocol_is : IsTiming (property_word property.DispatchProtocol)
protocol_is a quiet names =
    (not_led (is_of_property (property_word property.DispatchProtocol) a) (is_of_property (property_word property.Period) a) names a.applies_to quiet).0

pub period_is : IsTiming (property_word property.Period)
period_is a quiet names =
    (not_led (is_of_property (property_word property.DispatchProtocol) a) (is_of_property (property_word property.Period) a) names a.applies_to quiet).1

led_none : (p : List ℕ) → IsTiming p → (names : List (List ℕ)) (all : List Association) → list_any is_led_timing all ≡ false → led_last p names all ≡ None
led_none p is names [] quiet = refl
led_none p is names (a ∷ all) quiet =
    let parts = or_parts (is_led_timing a) (list_any is_led_timing all) quiet in
    ap (λ (o : Option Association). first_there o (if_that (is_led p names a) a)) (led_none p is names all parts.1)
    ∙ ap (λ (b : Bool). if_that b a) (is a parts.0 names)

either_none : (b : Bool) (o : Option Association) → o ≡ None → cond b o None ≡ None
either_none true o none = none
either_none false o none = refl

braces_none : (p : List ℕ) → IsTiming p → (name : List ℕ) (names : List (List ℕ)) (all : List Subcomponent) → list_any leads_in_braces all ≡ false →
    braces_last p name names all ≡ None
braces_none p is name names [] quiet = refl
braces_none p is name names (s ∷ all) quiet =
    let parts = or_parts (leads_in_braces s) (list_any leads_in_braces all) quiet in
    ap (λ (o : Option Association). first_there o (Rattle.aadl_names.specs.Counting.braces_of p name names s)) (braces_none p is name names all parts.1)
    ∙ either_none (Rattle.std.specs.Str.bytes_eq s.name.name name) (led_last p names (in_braces s.own)) (led_none p is names (in_braces s.own) parts.0)

applied_none : (p : List ℕ) → IsTiming p → (names : List (List ℕ)) (i : Implementation) → leads_inside i ≡ false → applied p names i ≡ None
applied_none p is [] i quiet = refl
applied_none p is (name ∷ names) i quiet =
    let parts = or_parts (list_any is_led_timing i.properties) (list_any leads_in_braces i.subcomponents) quiet in
    ap (λ (o : Option Association). first_there o (braces_last p name names i.subcomponents)) (led_none p is (name ∷ names) i.properties parts.0)
    ∙ braces_none p is name names i.subcomponents parts.1

-- nothing on the way sets a timing
abbrev pub leads_on : Step → Bool
leads_on step = leads_inside step.within

pub outermost_none : (p : List ℕ) → IsTiming p → (steps : List Step) (names : List (List ℕ)) → list_any leads_on steps ≡ false → outermost p steps names ≡ None
outermost_none p is [] names quiet = refl
outermost_none p is (step ∷ steps) names quiet =
    let parts = or_parts (leads_on step) (list_any leads_on steps) quiet in
    ap (λ (o : Option Association). first_there o (outermost p steps (drop 1 names))) (applied_none p is names step.within parts.0)
    ∙ outermost_none p is steps (drop 1 names) parts.1

any_push : {X : Type 0} (test : X → Bool) (xs : List X) (x : X) → list_any test xs ≡ false → test x ≡ false → list_any test (xs ++ x ∷ []) ≡ false
any_push test [] x quiet last = or_from (test x) false last refl
any_push test (y ∷ xs) x quiet last =
    let parts = or_parts (test y) (list_any test xs) quiet in
    or_from (test y) (list_any test (xs ++ x ∷ [])) parts.0 (any_push test xs x parts.1 last)

none_at : {X : Type 0} (test : X → Bool) (xs : List X) (k : ℕ) (x : X) → list_any test xs ≡ false → slice_get xs k ≡ Some x → test x ≡ false
none_at test [] k x quiet found = absurd (cc)
none_at {X} test (y ∷ xs) zero x quiet found =
    subst (λ (z : X). test z ≡ false) (ap (λ (o : Option X). Rattle.std.specs.Option.unwrap_or o y) found) (or_parts (test y) (list_any test xs) quiet).0
none_at test (y ∷ xs) (suc k) x quiet found = none_at test xs k x (or_parts (test y) (list_any test xs) quiet).1 found

mapped : (s : Subcomponent) (found : Option Implementation) (step : Step) → option_map (step_within s) found ≡ Some step → found ≡ Some step.within
mapped s None step is = absurd (cc)
mapped s (Some i) step is = ap (λ (o : Option Step). Some (Rattle.std.specs.Option.unwrap_or o step).within) is

step_quiet : (t : Tables) → leads_anywhere t ≡ false → (s : ℕ) (step : Step) → step_at t s ≡ Some step → leads_on step ≡ false
step_quiet t quiet s step is =
    option_and_then_some (step_of t) (slice_get t.subcomponents s) step is (λ row found rest.
    none_at leads_inside t.implementations row.owner step.within quiet (mapped row.part (slice_get t.implementations row.owner) step rest))

pub steps_quiet : (t : Tables) → leads_anywhere t ≡ false → (before : List Step) (path : List ℕ) (steps : List Step) → list_any leads_on before ≡ false →
    steps_from t before path ≡ Some steps → list_any leads_on steps ≡ false
steps_quiet t quiet before [] steps none is = subst (λ (all : List Step). list_any leads_on all ≡ false) (ap (λ (o : Option (List Step)). Rattle.std.specs.Option.unwrap_or o before) is) none
steps_quiet t quiet before (s ∷ path) steps none is =
    option_and_then_some (λ (step : Step). steps_from t (before ++ step ∷ []) path) (step_at t s) steps is (λ step found rest.
    steps_quiet t quiet (before ++ step ∷ []) path steps (any_push leads_on before step none (step_quiet t quiet s step found)) rest)
