-- The first systems of a depth, by the rows of subcomponents.
use Rattle.std.proofs.Common.{◌≡◌, ℕ, zero, suc, ◌+◌, ◌<◌, ◌≤◌, Bool, cond, nat_eq, List, [], ◌∷◌, ◌++◌, length, get_or, set, take, Option, Some, None, inl, inr, refl, sym, ap, subst, ◌∙◌, arith, append_assoc, append-nil}
use Rattle.std.specs.List.{slice_get}
use Rattle.std.proofs.lemmas.Bool.{cases_eq, eq-eqb, ne_eqb, cases_lt, lt-ltb, le-ltb}
use Rattle.std.proofs.lemmas.List.{get_or-set_same, get_or-set_other, take_more, take_all, length-take-le, length-set}
use Rattle.aadl_tree.specs.declared.category.Category.{Category}
use Rattle.aadl_tree.specs.declared.subcomponent.Subcomponent.{Subcomponent}
use Rattle.aadl_names.specs.declared.parts.PartRow.{PartRow}
use Rattle.aadl_names.specs.declared.resolved.Resolved.{Resolved}
use Rattle.aadl_names.specs.declared.tables.Tables.{Tables}
use Rattle.aadl_names.specs.Meanings.{first_there}
use Rattle.aadl_domains.specs.Components.{led_to}
use Rattle.aadl_timing.specs.Depths.{rows_in, systems_at, systems_among, systems_inside, systems_of_depth, too_deep, first_of, AreFirsts, met}

abbrev Inside : Type 0
Inside = ℕ → List ℕ

abbrev Row : Type 0
Row = PartRow Subcomponent

pub whole : (t : Tables) (to : Resolved) (root : ℕ) → systems_of_depth t to 33 root ≡ too_deep t to root
unfolding too_deep
whole t to root = refl

first_led : (inside : Inside) (below : List (Option ℕ)) (found led : Option ℕ) → AreFirsts below inside → ((inner : ℕ) → led ≡ Some inner → found ≡ first_of below inner) →
    (led ≡ None → found ≡ None) → found ≡ slice_get (rows_in inside led) 0
first_led inside below found None are some none = none refl
first_led inside below found (Some inner) are some none = some inner refl ∙ are inner

-- levels below a subcomponent
pub first_below : (inside : Inside) (to : Resolved) (below : List (Option ℕ)) (levels s : ℕ) (c : Category) (found : Option ℕ) → (levels ≡ 0 → ⊥) → AreFirsts below inside →
    ((inner : ℕ) → led_to to s c ≡ Some inner → found ≡ first_of below inner) → (led_to to s c ≡ None → found ≡ None) → found ≡ slice_get (systems_at inside to levels s c) 0
first_below inside to below zero s c found some are led none = absurd (some refl)
first_below inside to below (suc levels) s c found some are led none = first_led inside below found (led_to to s c) are led none

first_joined : (xs ys : List ℕ) → slice_get (xs ++ ys) 0 ≡ first_there (slice_get xs 0) (slice_get ys 0)
first_joined [] ys = refl
first_joined (x ∷ xs) ys = refl

no_other : (found : Option ℕ) → found ≡ first_there found None
no_other None = refl
no_other (Some x) = refl

rows_more : (inside : Inside) (to : Resolved) (levels n start : ℕ) (rows : List Row) (row : Row) →
    systems_among inside to levels n start (rows ++ row ∷ [])
    ≡ systems_among inside to levels n start rows ++ cond (nat_eq row.owner n) (systems_at inside to levels (start + length rows) row.part.category) []
rows_more inside to levels n start [] row =
    append-nil (cond (nat_eq row.owner n) (systems_at inside to levels start row.part.category) [])
    ∙ ap (λ (s : ℕ). cond (nat_eq row.owner n) (systems_at inside to levels s row.part.category) []) (let e : start ≡ start + 0 = omega arith in e)
rows_more inside to levels n start (first ∷ rows) row =
    let here = cond (nat_eq first.owner n) (systems_at inside to levels start first.part.category) [] in
    ap (λ (rest : List ℕ). here ++ rest) (rows_more inside to levels n (start + 1) rows row
    ∙ ap (λ (s : ℕ). systems_among inside to levels n (start + 1) rows ++ cond (nat_eq row.owner n) (systems_at inside to levels s row.part.category) [])
    (let e : start + 1 + length rows ≡ start + length (first ∷ rows) = omega arith in e))
    ∙ sym (append_assoc here (systems_among inside to levels n (start + 1) rows) (cond (nat_eq row.owner n) (systems_at inside to levels (start + length (first ∷ rows)) row.part.category) []))

firsts_on : (inside : Inside) (to : Resolved) (levels n at : ℕ) (rows : List Row) (row : Row) (s : Subcomponent) (firsts : List (Option ℕ)) (found : Option ℕ) →
    n < length firsts → at < length rows → row ≡ get_or rows at row → s ≡ row.part → found ≡ slice_get (systems_at inside to levels at s.category) 0 →
    first_of firsts n ≡ slice_get (systems_among inside to levels n 0 (take at rows)) 0 →
    first_of (met firsts row.owner found) n ≡ slice_get (systems_among inside to levels n 0 (take (at + 1) rows)) 0
firsts_on inside to levels n at rows row s firsts found within below is part here before =
    let front = take at rows in
    let known = systems_among inside to levels n 0 front in
    let at_row = λ (i : ℕ). systems_at inside to levels i row.part.category in
    let long : length front ≡ at = length-take-le at rows (let e : at ≤ length rows = omega arith in e) in
    let taken : take (at + 1) rows ≡ front ++ row ∷ [] = take_more rows at row below ∙ ap (λ (r : Row). front ++ r ∷ []) (sym is) in
    let all : systems_among inside to levels n 0 (take (at + 1) rows) ≡ known ++ cond (nat_eq row.owner n) (at_row at) [] =
    ap (systems_among inside to levels n 0) taken ∙ (rows_more inside to levels n 0 front row
    ∙ ap (λ (i : ℕ). known ++ cond (nat_eq row.owner n) (at_row i) []) (let e : 0 + length front ≡ at = omega arith in e)) in
    let after : slice_get (systems_among inside to levels n 0 (take (at + 1) rows)) 0 ≡ first_there (slice_get known 0) (slice_get (cond (nat_eq row.owner n) (at_row at) []) 0) =
    ap (λ (xs : List ℕ). slice_get xs 0) all ∙ first_joined known (cond (nat_eq row.owner n) (at_row at) []) in
    elim (cases_eq n row.owner) [
      | inl same ↦
          let now : first_of (met firsts row.owner found) n ≡ first_there (first_of firsts n) found =
          subst (λ (m : ℕ). get_or (set firsts m (first_there (first_of firsts m) found)) n None ≡ first_there (first_of firsts n) found) same
          (get_or-set_same firsts n (first_there (first_of firsts n) found) None within) in
          now ∙ (ap (λ (o : Option ℕ). first_there o found) before
          ∙ (ap (first_there (slice_get known 0)) (here ∙ ap (λ (p : Subcomponent). slice_get (systems_at inside to levels at p.category) 0) part)
          ∙ sym (after ∙ ap (λ (b : Bool). first_there (slice_get known 0) (slice_get (cond b (at_row at) []) 0)) (eq-eqb row.owner n (sym same)))))
      | inr other ↦
          get_or-set_other firsts row.owner n (first_there (first_of firsts row.owner) found) None other
          ∙ (before ∙ (no_other (slice_get known 0)
          ∙ sym (after ∙ ap (λ (b : Bool). first_there (slice_get known 0) (slice_get (cond b (at_row at) []) 0)) (ne_eqb row.owner n (λ owner. other (sym owner))))))
    ]

-- the first systems with one row more
pub firsts_kept : (to : Resolved) (levels : ℕ) (rows items : List Row) (here : Row) (s : Subcomponent) (below firsts after : List (Option ℕ)) (many at : ℕ) (found : Option ℕ) →
    items ≡ rows → here ≡ get_or items at here → at < length items → s ≡ here.part → after ≡ met firsts here.owner found →
    ((inside : Inside) → AreFirsts below inside → found ≡ slice_get (systems_at inside to levels at s.category) 0) →
    length firsts ≡ many →
    ((inside : Inside) → AreFirsts below inside → (n : ℕ) → n < length firsts → first_of firsts n ≡ slice_get (systems_among inside to levels n 0 (take at rows)) 0) →
    record {
      long : length after ≡ many;
      firsts : (inside : Inside) → AreFirsts below inside → (n : ℕ) → n < length after → first_of after n ≡ slice_get (systems_among inside to levels n 0 (take (at + 1) rows)) 0;
    }
firsts_kept to levels rows items here s below firsts after many at found same is within part more found_is long kept =
    let as_long : length after ≡ length firsts = ap (λ (fs : List (Option ℕ)). length fs) more ∙ length-set firsts here.owner (first_there (first_of firsts here.owner) found) in
    record {
      long = as_long ∙ long;
      firsts = λ (inside : Inside) (are : AreFirsts below inside) (n : ℕ) (below_all : n < length after).
          let within_firsts : n < length firsts = subst (λ (m : ℕ). n < m) as_long below_all in
          let within_rows : at < length rows = subst (λ (rs : List Row). at < length rs) same within in
          let here_is : here ≡ get_or rows at here = subst (λ (rs : List Row). here ≡ get_or rs at here) same is in
          ap (λ (fs : List (Option ℕ)). first_of fs n) more
          ∙ firsts_on inside to levels n at rows here s firsts found within_firsts within_rows here_is part (found_is inside are) (kept inside are n within_firsts);
    }

past_end : (firsts : List (Option ℕ)) (n : ℕ) → length firsts ≤ n → first_of firsts n ≡ None
past_end [] n past = refl
past_end (f ∷ firsts) zero past = absurd (omega arith)
past_end (f ∷ firsts) (suc n) past = past_end firsts n (omega arith)

-- the first systems of all rows
pub firsts_whole : (t : Tables) (to : Resolved) (levels : ℕ) (inside : Inside) (firsts : List (Option ℕ)) (at : ℕ) → length firsts ≡ length t.implementations → length t.subcomponents ≤ at →
    ((n : ℕ) → n < length firsts → first_of firsts n ≡ slice_get (systems_among inside to levels n 0 (take at t.subcomponents)) 0) →
    AreFirsts firsts (systems_inside inside t to levels)
firsts_whole t to levels inside firsts at long past are n =
    let all = systems_among inside to levels n 0 t.subcomponents in
    elim (cases_lt n (length t.implementations)) [
      | inl within ↦
          are n (subst (λ (m : ℕ). n < m) (sym long) within)
          ∙ (ap (λ (rows : List Row). slice_get (systems_among inside to levels n 0 rows) 0) (take_all at t.subcomponents past)
          ∙ ap (λ (b : Bool). slice_get (cond b all []) 0) (sym (lt-ltb n (length t.implementations) within)))
      | inr after ↦
          past_end firsts n (subst (λ (m : ℕ). m ≤ n) (sym long) after) ∙ ap (λ (b : Bool). slice_get (cond b all []) 0) (sym (le-ltb n (length t.implementations) after))
    ]

pub next_depth : (t : Tables) (to : Resolved) (levels : ℕ) (firsts : List (Option ℕ)) → AreFirsts firsts (systems_inside (systems_of_depth t to levels) t to levels) →
    AreFirsts firsts (systems_of_depth t to (levels + 1))
next_depth t to levels firsts are = subst (λ (d : ℕ). AreFirsts firsts (systems_of_depth t to d)) (let e : suc levels ≡ levels + 1 = omega arith in e) are
