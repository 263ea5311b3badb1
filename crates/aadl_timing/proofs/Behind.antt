-- Refusals of lists that have several parts.
use Rattle.std.proofs.Common.{◌≡◌, ℕ, suc, ◌+◌, ◌-◌, ◌<◌, ◌≤◌, Bool, false, cond, nat_eq, List, [], ◌∷◌, ◌++◌, map, length, get_or, drop, Option, Some, refl, sym, ap, subst, ◌∙◌, arith, append_assoc}
use Rattle.std.specs.List.{cons_option}
use Rattle.std.proofs.lemmas.Bool.{eq-eqb, ne_eqb}
use Rattle.std.proofs.lemmas.List.{at_drop_more, drop_all}
use Rattle.std.proofs.lemmas.List.Elements.{filter_map-append}
use Rattle.hw_text.specs.declared.refusal.Refusal.{Refusal}
use Rattle.aadl_tree.specs.declared.category.Category.{Category}
use Rattle.aadl_tree.specs.declared.subcomponent.Subcomponent.{Subcomponent}
use Rattle.aadl_names.specs.declared.parts.PartRow.{PartRow}
use Rattle.aadl_names.specs.declared.resolved.Resolved.{Resolved}
use Rattle.aadl_names.specs.declared.tables.Tables.{Tables}
use Rattle.aadl_names.specs.Offences.{earlier, earliest_from}
use Rattle.aadl_domains.specs.declared.sought.Sought.TheVariants as sought
use Rattle.aadl_domains.specs.Components.{is_sought, led_to, inside_of, in_rows, at_subcomponent, components_within}
use Rattle.aadl_domains.proofs.Opened.{level}
use Rattle.aadl_timing.specs.Untimed.{untimed_at, untimed_behind}

pub earliest_append : (known : Option Refusal) (a b : List Refusal) → earliest_from known (a ++ b) ≡ earliest_from (earliest_from known a) b
earliest_append known [] b = refl
earliest_append known (r ∷ a) b = earliest_append (earlier known (Some r)) a b

-- the refusals of a list of paths, all of which begin with a row
pub behind_row : (t : Tables) (to : Resolved) (before : List ℕ) (s : ℕ) (paths : List (List ℕ)) →
    untimed_behind t to before (map (λ (path : List ℕ). s ∷ path) paths) ≡ untimed_behind t to (before ++ s ∷ []) paths
behind_row t to before s [] = refl
behind_row t to before s (path ∷ paths) =
    ap (λ (rs : List Refusal). cons_option (untimed_at t to (before ++ s ∷ path)) rs) (behind_row t to before s paths)
    ∙ ap (λ (whole : List ℕ). cons_option (untimed_at t to whole) (untimed_behind t to (before ++ s ∷ []) paths)) (sym (append_assoc before (s ∷ []) path))

-- those of two lists, one after the other
pub behind_both : (t : Tables) (to : Resolved) (before : List ℕ) (known : Option Refusal) (a b : List (List ℕ)) →
    earliest_from known (untimed_behind t to before (a ++ b)) ≡ earliest_from (earliest_from known (untimed_behind t to before a)) (untimed_behind t to before b)
behind_both t to before known a b =
    ap (earliest_from known) (filter_map-append (λ path. untimed_at t to (before ++ path)) a b)
    ∙ earliest_append known (untimed_behind t to before a) (untimed_behind t to before b)

abbrev Row : Type 0
Row = PartRow Subcomponent

abbrev Inside : Type 0
Inside = ℕ → List (List ℕ)

opened : (inside : Inside) (to : Resolved) (n at : ℕ) (rows : List Row) (here : Row) → at < length rows → here ≡ get_or rows at here →
    in_rows sought.Domain inside to n at (drop at rows)
    ≡ cond (nat_eq here.owner n) (at_subcomponent sought.Domain inside to at here.part.category) [] ++ in_rows sought.Domain inside to n (at + 1) (drop (at + 1) rows)
opened inside to n at rows here below is =
    at_drop_more (in_rows sought.Domain inside to n at) rows at here below ∙ ap (λ (r : Row). in_rows sought.Domain inside to n at (r ∷ drop (at + 1) rows)) (sym is)

-- the walk goes on behind a row of the implementation
pub walked_own : (t : Tables) (to : Resolved) (before : List ℕ) (inside : Inside) (n at : ℕ) (rows items : List Row) (here : Row) (s : Subcomponent) (first after whole : Option Refusal) →
    items ≡ rows → here ≡ get_or items at here → at < length items → s ≡ here.part → here.owner ≡ n →
    after ≡ earliest_from first (untimed_behind t to before (at_subcomponent sought.Domain inside to at s.category)) →
    earliest_from first (untimed_behind t to before (in_rows sought.Domain inside to n at (drop at rows))) ≡ whole →
    earliest_from after (untimed_behind t to before (in_rows sought.Domain inside to n (at + 1) (drop (at + 1) rows))) ≡ whole
walked_own t to before inside n at rows items here s first after whole same is below part own found kept =
    let rest = in_rows sought.Domain inside to n (at + 1) (drop (at + 1) rows) in
    let paths = at_subcomponent sought.Domain inside to at s.category in
    let within : at < length rows = subst (λ (rs : List Row). at < length rs) same below in
    let here_is : here ≡ get_or rows at here = subst (λ (rs : List Row). here ≡ get_or rs at here) same is in
    let shown : in_rows sought.Domain inside to n at (drop at rows) ≡ paths ++ rest =
    opened inside to n at rows here within here_is
    ∙ (ap (λ (b : Bool). cond b (at_subcomponent sought.Domain inside to at here.part.category) [] ++ rest) (eq-eqb here.owner n own)
    ∙ ap (λ (p : Subcomponent). at_subcomponent sought.Domain inside to at p.category ++ rest) (sym part)) in
    ap (λ (r : Option Refusal). earliest_from r (untimed_behind t to before rest)) found
    ∙ (sym (behind_both t to before first paths rest)
    ∙ (sym (ap (λ (ps : List (List ℕ)). earliest_from first (untimed_behind t to before ps)) shown) ∙ kept))

-- and behind one of another
pub walked_other : (t : Tables) (to : Resolved) (before : List ℕ) (inside : Inside) (n at : ℕ) (rows items : List Row) (here : Row) (first after whole : Option Refusal) →
    items ≡ rows → here ≡ get_or items at here → at < length items → (here.owner ≡ n → ⊥) → after ≡ first →
    earliest_from first (untimed_behind t to before (in_rows sought.Domain inside to n at (drop at rows))) ≡ whole →
    earliest_from after (untimed_behind t to before (in_rows sought.Domain inside to n (at + 1) (drop (at + 1) rows))) ≡ whole
walked_other t to before inside n at rows items here first after whole same is below other stays kept =
    let rest = in_rows sought.Domain inside to n (at + 1) (drop (at + 1) rows) in
    let within : at < length rows = subst (λ (rs : List Row). at < length rs) same below in
    let here_is : here ≡ get_or rows at here = subst (λ (rs : List Row). here ≡ get_or rs at here) same is in
    let shown : in_rows sought.Domain inside to n at (drop at rows) ≡ rest =
    opened inside to n at rows here within here_is
    ∙ ap (λ (b : Bool). cond b (at_subcomponent sought.Domain inside to at here.part.category) [] ++ rest) (ne_eqb here.owner n other) in
    ap (λ (r : Option Refusal). earliest_from r (untimed_behind t to before rest)) stays
    ∙ (sym (ap (λ (ps : List (List ℕ)). earliest_from first (untimed_behind t to before ps)) shown) ∙ kept)

-- the walk through a whole implementation
pub walked_whole : (t : Tables) (to : Resolved) (before : List ℕ) (depth n at : ℕ) (known first : Option Refusal) → (depth ≡ 0 → ⊥) → n < length t.implementations → length t.subcomponents ≤ at →
    earliest_from first (untimed_behind t to before (in_rows sought.Domain (components_within sought.Domain t to (depth - 1)) to n at (drop at t.subcomponents)))
    ≡ earliest_from known (untimed_behind t to before (in_rows sought.Domain (components_within sought.Domain t to (depth - 1)) to n 0 t.subcomponents)) →
    first ≡ earliest_from known (untimed_behind t to before (components_within sought.Domain t to depth n))
walked_whole t to before depth n at known first some within past kept =
    let inside = components_within sought.Domain t to (depth - 1) in
    let e : suc (depth - 1) ≡ depth = omega arith in
    sym (ap (λ (rs : List Row). earliest_from first (untimed_behind t to before (in_rows sought.Domain inside to n at rs))) (drop_all at t.subcomponents past))
    ∙ (kept
    ∙ (ap (λ (ps : List (List ℕ)). earliest_from known (untimed_behind t to before ps)) (sym (level sought.Domain t to (depth - 1) n within))
    ∙ ap (λ (d : ℕ). earliest_from known (untimed_behind t to before (components_within sought.Domain t to d n))) e))

-- at a subcomponent that leads to an implementation
pub walked_below : (t : Tables) (to : Resolved) (before path : List ℕ) (inside : Inside) (s inner : ℕ) (c : Category) (known first : Option Refusal) → is_sought sought.Domain c ≡ false →
    led_to to s c ≡ Some inner → path ≡ before ++ s ∷ [] → first ≡ earliest_from known (untimed_behind t to path (inside inner)) →
    first ≡ earliest_from known (untimed_behind t to before (at_subcomponent sought.Domain inside to s c))
walked_below t to before path inside s inner c known first other leads longer found =
    found
    ∙ (ap (λ (p : List ℕ). earliest_from known (untimed_behind t to p (inside inner))) longer
    ∙ (ap (earliest_from known) (sym (behind_row t to before s (inside inner)))
    ∙ (ap (λ (o : Option ℕ). earliest_from known (untimed_behind t to before (map (λ (p : List ℕ). s ∷ p) (inside_of inside o)))) (sym leads)
    ∙ ap (λ (b : Bool). earliest_from known (untimed_behind t to before (cond b ((s ∷ []) ∷ []) (map (λ (p : List ℕ). s ∷ p) (inside_of inside (led_to to s c)))))) (sym other))))
