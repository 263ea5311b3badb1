-- Bounds of the places of refusals, put together.
use Rattle.std.proofs.Common.{◌≡◌, ℕ, suc, ◌+◌, ◌<◌, ◌≤◌, Bool, true, false, cond, nat_eq, List, [], ◌∷◌, ◌++◌, map, length, get_or, set, take, Option, Some, None, inl, inr, refl, sym, ap, subst, ◌∙◌, arith, append_assoc, append-nil}
use Rattle.std.specs.List.{cons_option}
use Rattle.std.specs.Prelude.{if◌then◌else◌}
use Rattle.std.proofs.lemmas.Bool.{cases_eq, eq-eqb, ne_eqb, cases_lt, lt-ltb, le-ltb}
use Rattle.std.proofs.lemmas.List.{get_or-set_same, get_or-set_other, take_more, take_all, length-take-le, length-set, length_push, get_or_push, get_or_append_left, get_or_default}
use Rattle.hw_text.specs.declared.place.Place.{Place}
use Rattle.hw_text.specs.declared.refusal.Refusal.{Refusal}
use Rattle.aadl_tree.specs.declared.category.Category.{Category}
use Rattle.aadl_tree.specs.declared.subcomponent.Subcomponent.{Subcomponent}
use Rattle.aadl_names.specs.declared.parts.PartRow.{PartRow}
use Rattle.aadl_names.specs.declared.resolved.Resolved.{Resolved}
use Rattle.aadl_names.specs.declared.tables.Tables.{Tables}
use Rattle.aadl_names.specs.Offences.{is_before, earlier, earliest_from}
use Rattle.aadl_domains.specs.declared.sought.Sought.{Sought}
use Rattle.aadl_domains.specs.declared.sought.Sought.TheVariants as sought
use Rattle.aadl_domains.specs.Components.{is_sought, led_to, inside_of, in_rows, at_subcomponent, inside_implementation, components_within}
use Rattle.aadl_timing.specs.Bounds.{is_past, IsBoundOf, IsPlaceOf, bound_of, sooner, lowered, AreBounds, AreDeepBounds}
use Rattle.aadl_timing.specs.Untimed.{untimed_at, untimed_behind}
use Rattle.aadl_timing.proofs.Behind.{behind_row, behind_both}
use Rattle.aadl_timing.proofs.PlacesOrder.{behind_both_places, before_one, not_true, not_false}

abbrev Inside : Type 0
Inside = ℕ → List (List ℕ)

abbrev Row : Type 0
Row = PartRow Subcomponent

past_of : (b : Bool) (r : Refusal) (x y : Place) → is_before y x ≡ b → is_past (Some r) (if b then Some y else Some x) ≡ true →
    (is_past (Some r) (Some x) ≡ true) × (is_past (Some r) (Some y) ≡ true)
past_of true r x y is past = (not_false (is_before x r.place) (before_one x y r.place is (not_true (is_before y r.place) past)), past)
past_of false r x y is past = (past, not_false (is_before y r.place) (behind_both_places y x r.place is (not_true (is_before x r.place) past)))

past_none : (b : Bool) (x y : Place) → is_past None (if b then Some y else Some x) ≡ true → ⊥
past_none true x y past = cc
past_none false x y past = cc

-- what is past the sooner of two is past both
past_sooner : (known : Option Refusal) (a b : Option Place) → is_past known (sooner a b) ≡ true → (is_past known a ≡ true) × (is_past known b ≡ true)
past_sooner known None b past = (refl, past)
past_sooner known (Some x) None past = (past, refl)
past_sooner None (Some x) (Some y) past = absurd (past_none (is_before y x) x y past)
past_sooner (Some r) (Some x) (Some y) past = past_of (is_before y x) r x y refl past

pub bound_both : (t : Tables) (to : Resolved) (a b : Option Place) (xs ys : List (List ℕ)) → IsBoundOf t to a xs → IsBoundOf t to b ys → IsBoundOf t to (sooner a b) (xs ++ ys)
bound_both t to a b xs ys left right known before past =
    let parts = past_sooner known a b past in
    behind_both t to before known xs ys
    ∙ (ap (λ (first : Option Refusal). earliest_from first (untimed_behind t to before ys)) (left known before parts.0) ∙ right known before parts.1)

pub bound_row : (t : Tables) (to : Resolved) (bound : Option Place) (s : ℕ) (paths : List (List ℕ)) → IsBoundOf t to bound paths →
    IsBoundOf t to bound (map (λ (path : List ℕ). s ∷ path) paths)
bound_row t to bound s paths is known before past = ap (earliest_from known) (behind_row t to before s paths) ∙ is known (before ++ s ∷ []) past

pub bound_nothing : (t : Tables) (to : Resolved) (bound : Option Place) → IsBoundOf t to bound []
bound_nothing t to bound known before past = refl

stays : (known : Option Refusal) (r : Refusal) → is_past known (Some r.place) ≡ true → earlier known (Some r) ≡ known
stays None r past = absurd (cc)
stays (Some k) r past = ap (λ (b : Bool). if b then Some r else Some k) (not_true (is_before r.place k.place) past)

one_told : (known : Option Refusal) (place : Option Place) (found : Option Refusal) → ((r : Refusal) → found ≡ Some r → place ≡ Some r.place) → is_past known place ≡ true →
    earliest_from known (cons_option found []) ≡ known
one_told known place None is past = refl
one_told known place (Some r) is past = stays known r (subst (λ (p : Option Place). is_past known p ≡ true) (is r refl) past)

bound_one : (t : Tables) (to : Resolved) (place : Option Place) (s : ℕ) → IsPlaceOf t to place s → IsBoundOf t to place ((s ∷ []) ∷ [])
bound_one t to place s is known before past = one_told known place (untimed_at t to (before ++ s ∷ [])) (is before) past

-- at a domain
pub bound_domain : (t : Tables) (to : Resolved) (inside : Inside) (place : Option Place) (s : ℕ) (c : Category) → is_sought sought.Domain c ≡ true → IsPlaceOf t to place s →
    IsBoundOf t to place (at_subcomponent sought.Domain inside to s c)
bound_domain t to inside place s c domain is =
    subst (λ (b : Bool). IsBoundOf t to place (cond b ((s ∷ []) ∷ []) (map (λ (path : List ℕ). s ∷ path) (inside_of inside (led_to to s c))))) (sym domain) (bound_one t to place s is)

bound_led : (t : Tables) (to : Resolved) (inside : Inside) (below : List (Option Place)) (bound : Option Place) (led : Option ℕ) → AreBounds t to below inside →
    ((inner : ℕ) → led ≡ Some inner → bound ≡ bound_of below inner) → IsBoundOf t to bound (inside_of inside led)
bound_led t to inside below bound None are is = bound_nothing t to bound
bound_led t to inside below bound (Some inner) are is = subst (λ (b : Option Place). IsBoundOf t to b (inside inner)) (sym (is inner refl)) (are inner)

-- below another subcomponent
pub bound_below : (t : Tables) (to : Resolved) (inside : Inside) (below : List (Option Place)) (bound : Option Place) (s : ℕ) (c : Category) → is_sought sought.Domain c ≡ false →
    AreBounds t to below inside → ((inner : ℕ) → led_to to s c ≡ Some inner → bound ≡ bound_of below inner) → IsBoundOf t to bound (at_subcomponent sought.Domain inside to s c)
bound_below t to inside below bound s c other are is =
    subst (λ (b : Bool). IsBoundOf t to bound (cond b ((s ∷ []) ∷ []) (map (λ (path : List ℕ). s ∷ path) (inside_of inside (led_to to s c))))) (sym other)
    (bound_row t to bound s (inside_of inside (led_to to s c)) (bound_led t to inside below bound (led_to to s c) are is))

-- one row more
rows_more : (asked : Sought) (inside : Inside) (to : Resolved) (n start : ℕ) (rows : List Row) (row : Row) →
    in_rows asked inside to n start (rows ++ row ∷ [])
    ≡ in_rows asked inside to n start rows ++ cond (nat_eq row.owner n) (at_subcomponent asked inside to (start + length rows) row.part.category) []
rows_more asked inside to n start [] row =
    append-nil (cond (nat_eq row.owner n) (at_subcomponent asked inside to start row.part.category) [])
    ∙ ap (λ (s : ℕ). cond (nat_eq row.owner n) (at_subcomponent asked inside to s row.part.category) []) (let e : start ≡ start + 0 = omega arith in e)
rows_more asked inside to n start (first ∷ rows) row =
    let here = cond (nat_eq first.owner n) (at_subcomponent asked inside to start first.part.category) [] in
    ap (λ (rest : List (List ℕ)). here ++ rest) (rows_more asked inside to n (start + 1) rows row
    ∙ ap (λ (s : ℕ). in_rows asked inside to n (start + 1) rows ++ cond (nat_eq row.owner n) (at_subcomponent asked inside to s row.part.category) [])
    (let e : start + 1 + length rows ≡ start + length (first ∷ rows) = omega arith in e))
    ∙ sym (append_assoc here (in_rows asked inside to n (start + 1) rows) (cond (nat_eq row.owner n) (at_subcomponent asked inside to (start + length (first ∷ rows)) row.part.category) []))

-- the bounds so far are those of the rows so far, also of one more
pub bounds_on : (t : Tables) (to : Resolved) (inside : Inside) (n at : ℕ) (rows : List Row) (row : Row) (s : Subcomponent) (bounds : List (Option Place)) (bound : Option Place) →
    n < length bounds → at < length rows → row ≡ get_or rows at row → s ≡ row.part →
    IsBoundOf t to bound (at_subcomponent sought.Domain inside to at s.category) →
    IsBoundOf t to (bound_of bounds n) (in_rows sought.Domain inside to n 0 (take at rows)) →
    IsBoundOf t to (bound_of (lowered bounds row.owner bound) n) (in_rows sought.Domain inside to n 0 (take (at + 1) rows))
bounds_on t to inside n at rows row s bounds bound within below is part here before =
    let front = take at rows in
    let at_row = λ (i : ℕ). at_subcomponent sought.Domain inside to i row.part.category in
    let long : length front ≡ at = length-take-le at rows (let e : at ≤ length rows = omega arith in e) in
    let taken : take (at + 1) rows ≡ front ++ row ∷ [] = take_more rows at row below ∙ ap (λ (r : Row). front ++ r ∷ []) (sym is) in
    let whole : in_rows sought.Domain inside to n 0 (take (at + 1) rows) ≡ in_rows sought.Domain inside to n 0 front ++ cond (nat_eq row.owner n) (at_row at) [] =
    ap (in_rows sought.Domain inside to n 0) taken ∙ (rows_more sought.Domain inside to n 0 front row
    ∙ ap (λ (i : ℕ). in_rows sought.Domain inside to n 0 front ++ cond (nat_eq row.owner n) (at_row i) []) (let e : 0 + length front ≡ at = omega arith in e)) in
    elim (cases_eq n row.owner) [
      | inl same ↦
          let now : bound_of (lowered bounds row.owner bound) n ≡ sooner (bound_of bounds n) bound =
          subst (λ (m : ℕ). get_or (set bounds m (sooner (bound_of bounds m) bound)) n None ≡ sooner (bound_of bounds n) bound) same
          (get_or-set_same bounds n (sooner (bound_of bounds n) bound) None within) in
          let paths : in_rows sought.Domain inside to n 0 (take (at + 1) rows) ≡ in_rows sought.Domain inside to n 0 front ++ at_subcomponent sought.Domain inside to at s.category =
          whole ∙ (ap (λ (b : Bool). in_rows sought.Domain inside to n 0 front ++ cond b (at_row at) []) (eq-eqb row.owner n (sym same))
          ∙ ap (λ (p : Subcomponent). in_rows sought.Domain inside to n 0 front ++ at_subcomponent sought.Domain inside to at p.category) (sym part)) in
          subst (λ (b : Option Place). IsBoundOf t to b (in_rows sought.Domain inside to n 0 (take (at + 1) rows))) (sym now)
          (subst (λ (ps : List (List ℕ)). IsBoundOf t to (sooner (bound_of bounds n) bound) ps) (sym paths)
          (bound_both t to (bound_of bounds n) bound (in_rows sought.Domain inside to n 0 front) (at_subcomponent sought.Domain inside to at s.category) before here))
      | inr other ↦
          let now : bound_of (lowered bounds row.owner bound) n ≡ bound_of bounds n = get_or-set_other bounds row.owner n (sooner (bound_of bounds row.owner) bound) None other in
          let paths : in_rows sought.Domain inside to n 0 (take (at + 1) rows) ≡ in_rows sought.Domain inside to n 0 front =
          whole ∙ (ap (λ (b : Bool). in_rows sought.Domain inside to n 0 front ++ cond b (at_row at) []) (ne_eqb row.owner n (λ owner. other (sym owner)))
          ∙ append-nil (in_rows sought.Domain inside to n 0 front)) in
          subst (λ (b : Option Place). IsBoundOf t to b (in_rows sought.Domain inside to n 0 (take (at + 1) rows))) (sym now)
          (subst (λ (ps : List (List ℕ)). IsBoundOf t to (bound_of bounds n) ps) (sym paths) before)
    ]

-- the bounds with one row more
pub bounds_kept : (t : Tables) (to : Resolved) (rows items : List Row) (here : Row) (s : Subcomponent) (below bounds after : List (Option Place)) (many at : ℕ) (bound : Option Place) →
    items ≡ rows → here ≡ get_or items at here → at < length items → s ≡ here.part → after ≡ lowered bounds here.owner bound →
    ((inside : Inside) → AreBounds t to below inside → IsBoundOf t to bound (at_subcomponent sought.Domain inside to at s.category)) →
    length bounds ≡ many →
    ((inside : Inside) → AreBounds t to below inside → (n : ℕ) → n < length bounds → IsBoundOf t to (bound_of bounds n) (in_rows sought.Domain inside to n 0 (take at rows))) →
    record {
      long : length after ≡ many;
      bounds : (inside : Inside) → AreBounds t to below inside → (n : ℕ) → n < length after → IsBoundOf t to (bound_of after n) (in_rows sought.Domain inside to n 0 (take (at + 1) rows));
    }
bounds_kept t to rows items here s below bounds after many at bound same is within part more bound_is long kept =
    let as_long : length after ≡ length bounds = ap (λ (bs : List (Option Place)). length bs) more ∙ length-set bounds here.owner (sooner (bound_of bounds here.owner) bound) in
    record {
      long = as_long ∙ long;
      bounds = λ (inside : Inside) (are : AreBounds t to below inside) (n : ℕ) (below_all : n < length after).
          let within_bounds : n < length bounds = subst (λ (m : ℕ). n < m) as_long below_all in
          let within_rows : at < length rows = subst (λ (rs : List Row). at < length rs) same within in
          let here_is : here ≡ get_or rows at here = subst (λ (rs : List Row). here ≡ get_or rs at here) same is in
          subst (λ (bs : List (Option Place)). IsBoundOf t to (bound_of bs n) (in_rows sought.Domain inside to n 0 (take (at + 1) rows))) (sym more)
          (bounds_on t to inside n at rows here s bounds bound within_bounds within_rows here_is part (bound_is inside are) (kept inside are n within_bounds));
    }

-- the bounds of all rows
pub bounds_whole : (t : Tables) (to : Resolved) (inside : Inside) (bounds : List (Option Place)) (at : ℕ) → length bounds ≡ length t.implementations → length t.subcomponents ≤ at →
    ((n : ℕ) → n < length bounds → IsBoundOf t to (bound_of bounds n) (in_rows sought.Domain inside to n 0 (take at t.subcomponents))) →
    AreBounds t to bounds (inside_implementation sought.Domain inside t to)
bounds_whole t to inside bounds at long past are n =
    let all = in_rows sought.Domain inside to n 0 t.subcomponents in
    elim (cases_lt n (length t.implementations)) [
      | inl within ↦
          subst (λ (b : Bool). IsBoundOf t to (bound_of bounds n) (cond b all [])) (sym (lt-ltb n (length t.implementations) within))
          (subst (λ (rows : List Row). IsBoundOf t to (bound_of bounds n) (in_rows sought.Domain inside to n 0 rows)) (take_all at t.subcomponents past)
          (are n (subst (λ (m : ℕ). n < m) (sym long) within)))
      | inr past ↦ subst (λ (b : Bool). IsBoundOf t to (bound_of bounds n) (cond b all [])) (sym (le-ltb n (length t.implementations) past)) (bound_nothing t to (bound_of bounds n))
    ]

-- the bounds of one depth more
pub more_rounds : (t : Tables) (to : Resolved) (rounds after : List (List (Option Place))) (next : List (Option Place)) (depth : ℕ) → AreDeepBounds t to rounds →
    length rounds ≡ depth → AreBounds t to next (components_within sought.Domain t to depth) → after ≡ rounds ++ next ∷ [] → AreDeepBounds t to after
more_rounds t to rounds after next many old long new are = rw are (λ (depth : ℕ) below.
    let more = length_push rounds next in
    elim (cases_lt depth (length rounds)) [
      | inl before ↦ subst (λ (bounds : List (Option Place)). AreBounds t to bounds (components_within sought.Domain t to depth)) (sym (get_or_append_left rounds (next ∷ []) [] depth before)) (old depth before)
      | inr last ↦
          let here : depth ≡ many = omega arith in
          subst (λ (i : ℕ). AreBounds t to (get_or (rounds ++ next ∷ []) i []) (components_within sought.Domain t to i)) (sym here)
          (subst (λ (bounds : List (Option Place)). AreBounds t to bounds (components_within sought.Domain t to many)) (sym (get_or_push rounds next [] many long)) new)
    ])

-- the bounds that were read
pub round_at : (t : Tables) (to : Resolved) (rounds rows : List (List (Option Place))) (below : List (Option Place)) (depth : ℕ) → AreDeepBounds t to rounds →
    rows ≡ rounds → below ≡ get_or rows depth below → depth < length rounds → AreBounds t to below (components_within sought.Domain t to depth)
round_at t to rounds rows below depth are same is within =
    subst (λ (bounds : List (Option Place)). AreBounds t to bounds (components_within sought.Domain t to depth))
    (sym (is ∙ (ap (λ (all : List (List (Option Place))). get_or all depth below) same ∙ get_or_default rounds depth below [] within))) (are depth within)

pub next_round : (t : Tables) (to : Resolved) (bounds : List (Option Place)) (depth : ℕ) → AreBounds t to bounds (components_within sought.Domain t to (suc depth)) →
    AreBounds t to bounds (components_within sought.Domain t to (depth + 1))
next_round t to bounds depth are = subst (λ (d : ℕ). AreBounds t to bounds (components_within sought.Domain t to d)) (let e : suc depth ≡ depth + 1 = omega arith in e) are
