-- The thread of a domain, whatever is before it on the way.
use Rattle.std.proofs.Common.{◌≡◌, ℕ, ◌-◌, Bool, true, false, cond, List, [], ◌∷◌, ◌++◌, length, Option, Some, None, refl, sym, ap, subst, ◌∙◌, arith, length-append}
use Rattle.std.specs.List.{slice_get, list_any}
use Rattle.std.specs.Option.{option_map, option_and_then}
use Rattle.std.proofs.lemmas.Option.{option_and_then_some}
use Rattle.hw_text.specs.declared.place.Place.{Place}
use Rattle.hw_text.specs.declared.refusal.Refusal.{Refusal}
use Rattle.aadl_tree.specs.declared.association.Association.{Association}
use Rattle.aadl_tree.specs.declared.component.ComponentType.{ComponentType}
use Rattle.aadl_tree.specs.declared.component.Implementation.{Implementation}
use Rattle.aadl_tree.specs.declared.subcomponent.Subcomponent.{Subcomponent}
use Rattle.aadl_tree.specs.declared.value.PropertyValue.{PropertyValue}
use Rattle.aadl_names.specs.declared.class_row.ClassRow.{ClassRow}
use Rattle.aadl_names.specs.declared.counting.Component.{Component}
use Rattle.aadl_names.specs.declared.counting.Step.{Step}
use Rattle.aadl_names.specs.declared.resolved.Resolved.{Resolved}
use Rattle.aadl_names.specs.declared.tables.Tables.{Tables}
use Rattle.aadl_names.specs.Counting.{step_names, own_last, properties_of}
use Rattle.aadl_names.specs.Meanings.{first_there, at_row}
use Rattle.aadl_names.specs.Parts.{in_braces}
use Rattle.aadl_values.specs.declared.property.Property.{Property}
use Rattle.aadl_values.specs.declared.property.Property.TheVariants as property
use Rattle.aadl_values.specs.Columns.{dispatch_of}
use Rattle.aadl_values.specs.Layers.{sole_value}
use Rattle.aadl_values.specs.Spellings.{property_word}
use Rattle.aadl_values.specs.Times.{positive_time_of}
use Rattle.aadl_timing.specs.Bounds.{leads_anywhere, IsPlaceOf}
use Rattle.aadl_timing.specs.Located.{last_row, part_at, implementation_of, declared_of, component_from, component_of, component_in, component_at, steps_from, thread_row, thread_at}
use Rattle.aadl_timing.specs.Timings.{counting_value, timing_of}
use Rattle.aadl_timing.specs.Untimed.{is_untimed, is_untimed_by, untimed, untimed_at}
use Rattle.aadl_timing.proofs.Quiet.{IsTiming, protocol_is, period_is, leads_on, outermost_none, steps_quiet}

-- the component as if no steps led to it
abbrev pub unled : Component → Component
unled c = component_from [] c.subcomponent c.implementation c.declared

at_end : (before : List ℕ) (s : ℕ) → slice_get (before ++ s ∷ []) (length before) ≡ Some s
at_end [] s = refl
at_end (b ∷ before) s = at_end before s

last_is : (before : List ℕ) (s : ℕ) → last_row (before ++ s ∷ []) ≡ Some s
last_is before s =
    let long = length-append before (s ∷ []) in
    let e : length (before ++ s ∷ []) - 1 ≡ length before = omega arith in
    ap (slice_get (before ++ s ∷ [])) e ∙ at_end before s

bare_of : (steps : List Step) (s : Subcomponent) (i : Option Implementation) (declared : Option ComponentType) →
    option_map (component_from [] s i) declared ≡ option_map unled (option_map (component_from steps s i) declared)
bare_of steps s i None = refl
bare_of steps s i (Some c) = refl

bare_in : (t : Tables) (to : Resolved) (steps : List Step) (part : Option Subcomponent) (class : Option ClassRow) →
    option_and_then (λ (s : Subcomponent). option_and_then (component_of t to [] s) class) part
    ≡ option_map unled (option_and_then (λ (s : Subcomponent). option_and_then (component_of t to steps s) class) part)
bare_in t to steps None class = refl
bare_in t to steps (Some s) None = refl
bare_in t to steps (Some s) (Some class) = bare_of steps s (implementation_of t class) (declared_of t to class)

-- the steps do not matter to what a component is declared as
pub bare : (t : Tables) (to : Resolved) (s : ℕ) (steps : List Step) → component_in t to s [] ≡ option_map unled (component_in t to s steps)
bare t to s steps = bare_in t to steps (part_at t s) (at_row to.classes s)

steps_of : (steps : List Step) (s : Subcomponent) (i : Option Implementation) (declared : Option ComponentType) (c : Component) →
    option_map (component_from steps s i) declared ≡ Some c → c.steps ≡ steps
steps_of steps s i None c is = absurd (cc)
steps_of steps s i (Some d) c is = sym (ap (λ (o : Option Component). (Rattle.std.specs.Option.unwrap_or o c).steps) is)

led_steps : (t : Tables) (to : Resolved) (s : ℕ) (steps : List Step) (c : Component) → component_in t to s steps ≡ Some c → c.steps ≡ steps
led_steps t to s steps c is =
    option_and_then_some (λ (part : Subcomponent). option_and_then (component_of t to steps part) (at_row to.classes s)) (part_at t s) c is (λ part found rest.
    option_and_then_some (component_of t to steps part) (at_row to.classes s) c rest (λ class class_is last.
    steps_of steps part (implementation_of t class) (declared_of t to class) c last))

-- of an association that counts, where nothing on the way sets the property
same_counting : (p : Property) → IsTiming (property_word p) → (c : Component) → list_any leads_on c.steps ≡ false → counting_value p c ≡ counting_value p (unled c)
same_counting p is c quiet =
    ap (λ (o : Option Association). option_and_then sole_value (first_there o
    (first_there (own_last (property_word p) (in_braces c.subcomponent.own))
    (first_there (own_last (property_word p) (properties_of c.implementation)) (own_last (property_word p) c.declared.properties)))))
    (outermost_none (property_word p) is c.steps (step_names c.steps) quiet)

same_timing : (c : Component) → list_any leads_on c.steps ≡ false → is_untimed (timing_of c) ≡ is_untimed (timing_of (unled c))
same_timing c quiet =
    ap (λ (v : Option PropertyValue). is_untimed_by (option_and_then dispatch_of v) (option_and_then positive_time_of (counting_value property.Period c)))
    (same_counting property.DispatchProtocol protocol_is c quiet)
    ∙ ap (λ (v : Option PropertyValue). is_untimed_by (option_and_then dispatch_of (counting_value property.DispatchProtocol (unled c))) (option_and_then positive_time_of v))
    (same_counting property.Period period_is c quiet)

-- where a thread is refused
told_there : (b : Bool) (c : Component) (told r : Refusal) → cond b (Some told) None ≡ Some r → (b ≡ true) × (told ≡ r)
told_there true c told r is = (refl, ap (λ (o : Option Refusal). Rattle.std.specs.Option.unwrap_or o told) is)
told_there false c told r is = absurd (cc)

-- what is known of a thread that is refused
pub record Refused (t : Tables) (to : Resolved) (s : ℕ) (r : Refusal) : Type 0 where
  pub thread : ℕ
  pub steps : List Step
  pub component : Component
  pub row : thread_row t to s ≡ Some thread
  pub led : component_in t to thread steps ≡ Some component
  pub on : component.steps ≡ steps
  pub quiet : leads_anywhere t ≡ false → list_any leads_on steps ≡ false
  pub late : is_untimed (timing_of component) ≡ true
  pub place : component.declared.name.place ≡ r.place

pub refused : (t : Tables) (to : Resolved) (before : List ℕ) (s : ℕ) (r : Refusal) → untimed_at t to (before ++ s ∷ []) ≡ Some r → Refused t to s r
refused t to before s r is =
    let path = before ++ s ∷ [] in
    option_and_then_some untimed (thread_at t to path) r is (λ c thread_is told.
    option_and_then_some (λ (last : ℕ). option_and_then (λ (thread : ℕ). component_at t to (path ++ thread ∷ [])) (thread_row t to last)) (last_row path) c thread_is (λ last last_found rest.
    let same : last ≡ s = ap (λ (o : Option ℕ). Rattle.std.specs.Option.unwrap_or o s) (sym last_found ∙ last_is before s) in
    option_and_then_some (λ (thread : ℕ). component_at t to (path ++ thread ∷ [])) (thread_row t to last) c rest (λ thread row_is at_path.
    let whole = path ++ thread ∷ [] in
    option_and_then_some (λ (last : ℕ). option_and_then (component_in t to last) (steps_from t [] whole)) (last_row whole) c at_path (λ end end_found below.
    let end_is : end ≡ thread = ap (λ (o : Option ℕ). Rattle.std.specs.Option.unwrap_or o thread) (sym end_found ∙ last_is path thread) in
    option_and_then_some (component_in t to end) (steps_from t [] whole) c below (λ steps steps_are led.
    let about = told_there (is_untimed (timing_of c)) c (Rattle.aadl_names.specs.Offences.named Rattle.hw_text.specs.declared.code.Code.TheVariants.ModelNoPeriod c.declared.name.place c.declared.name.name) r told in
    record {
      thread = thread;
      steps = steps;
      component = c;
      row = subst (λ (i : ℕ). thread_row t to i ≡ Some thread) same row_is;
      led = subst (λ (i : ℕ). component_in t to i steps ≡ Some c) end_is led;
      on = led_steps t to end steps c led;
      quiet = λ nowhere. steps_quiet t nowhere [] whole steps refl steps_are;
      late = about.0;
      place = ap (λ (x : Refusal). x.place) about.1;
    })))))

clash : {X : Type 0} (o : Option X) (x : X) → o ≡ None → o ≡ Some x → ⊥
clash None x none some = cc
clash (Some y) x none some = cc

-- a domain without a thread is not refused
pub no_thread : (t : Tables) (to : Resolved) (s : ℕ) (place : Option Place) → thread_row t to s ≡ None → IsPlaceOf t to place s
no_thread t to s place none before r is = let it = refused t to before s r is in absurd (clash (thread_row t to s) it.thread none it.row)

-- the thread as it is declared
alone_is : (t : Tables) (to : Resolved) (s thread : ℕ) (r : Refusal) (it : Refused t to s r) → thread_row t to s ≡ Some thread → component_in t to thread [] ≡ Some (unled it.component)
alone_is t to s thread r it row =
    let same : it.thread ≡ thread = ap (λ (o : Option ℕ). Rattle.std.specs.Option.unwrap_or o thread) (sym it.row ∙ row) in
    ap (λ (i : ℕ). component_in t to i []) (sym same) ∙ (bare t to it.thread it.steps ∙ ap (option_map unled) it.led)

pub no_component : (t : Tables) (to : Resolved) (s thread : ℕ) (place : Option Place) → thread_row t to s ≡ Some thread → component_in t to thread [] ≡ None → IsPlaceOf t to place s
no_component t to s thread place row none before r is =
    let it = refused t to before s r is in absurd (clash (component_in t to thread []) (unled it.component) none (alone_is t to s thread r it row))

both_some : (one two : Component) → Some one ≡ Some two → one ≡ two
both_some one two is = ap (λ (o : Option Component). Rattle.std.specs.Option.unwrap_or o one) is

pub at_type : (t : Tables) (to : Resolved) (s thread : ℕ) (alone : Component) → thread_row t to s ≡ Some thread → component_in t to thread [] ≡ Some alone →
    IsPlaceOf t to (Some alone.declared.name.place) s
at_type t to s thread alone row found before r is =
    let it = refused t to before s r is in
    let same = both_some alone (unled it.component) (sym found ∙ alone_is t to s thread r it row) in
    ap (λ (c : Component). Some c.declared.name.place) same ∙ ap (λ (p : Place). Some p) it.place

other_truth : (b : Bool) → b ≡ false → b ≡ true → ⊥
other_truth b is_false is_true = let both : false ≡ true = sym is_false ∙ is_true in cc

pub well_timed : (t : Tables) (to : Resolved) (s thread : ℕ) (alone : Component) (place : Option Place) → thread_row t to s ≡ Some thread → component_in t to thread [] ≡ Some alone →
    leads_anywhere t ≡ false → is_untimed (timing_of alone) ≡ false → IsPlaceOf t to place s
well_timed t to s thread alone place row found nowhere timed before r is =
    let it = refused t to before s r is in
    let same = both_some alone (unled it.component) (sym found ∙ alone_is t to s thread r it row) in
    let late : is_untimed (timing_of alone) ≡ true =
    ap (λ (c : Component). is_untimed (timing_of c)) same ∙ (sym (same_timing it.component (subst (λ (steps : List Step). list_any leads_on steps ≡ false) (sym it.on) (it.quiet nowhere))) ∙ it.late) in
    absurd (other_truth (is_untimed (timing_of alone)) timed late)
