-- The list of components holds each component, and nothing else.
use Rattle.std.proofs.Common.{◌≡◌, inl, inr, ℕ, zero, suc, ◌+◌, ◌<◌, ◌≤◌, Bool, false, cond, nat_eq, List, [], ◌∷◌, map, length, get_or, Option, Some, None, refl, sym, ap, subst, ◌∙◌, arith}
use Rattle.std.specs.List.{slice_get, Contains}
use Rattle.std.proofs.lemmas.Bool.{cases_eq, cases_lt, cases_Bool, eq-eqb, ne_eqb, le-ltb}
use Rattle.std.proofs.lemmas.List.{get_or-map, length-map}
use Rattle.std.proofs.lemmas.List.Elements.{Contains-append_cases, Contains-append_left, Contains-append_right, Contains-get_or}
use Rattle.aadl_names.specs.declared.resolved.Resolved.{Resolved}
use Rattle.aadl_names.specs.declared.tables.Tables.{Tables}
use Rattle.aadl_domains.specs.declared.sought.Sought.{Sought}
use Rattle.aadl_domains.specs.Components.{in_rows, at_subcomponent, is_sought, led_to, inside_of, components_within, components_of}
use Rattle.aadl_domains.specs.Paths.{StandsIn, IsComponent}
use Rattle.aadl_domains.proofs.Opened.{at_sought, at_other, level, whole}
use Rattle.aadl_domains.proofs.Spanned.{Row}

abbrev Inside : Type 0
Inside = ℕ → List (List ℕ)

nothing : {X : Type 0} (x : X) → Contains [] x → ⊥
nothing x found = let below : found.0 < 0 = found.1 in omega arith

only_path : (one path : List ℕ) → Contains (one ∷ []) path → path ≡ one
only_path one path found =
    let first : found.0 ≡ 0 = let below : found.0 < 1 = found.1 in omega arith in
    sym (subst (λ (k : ℕ). get_or (one ∷ []) k path ≡ path) first found.2)

in_at : (asked : Sought) (inside : Inside) (to : Resolved) (n at : ℕ) (rows : List Row) (path : List ℕ) → Contains (in_rows asked inside to n at rows) path →
    (k : ℕ) × (row : Row) × (slice_get rows k ≡ Some row) × (row.owner ≡ n) × Contains (at_subcomponent asked inside to (at + k) row.part.category) path
in_at asked inside to n at [] path found = absurd (nothing path found)
in_at asked inside to n at (row ∷ rows) path found =
    elim (Contains-append_cases (cond (nat_eq row.owner n) (at_subcomponent asked inside to at row.part.category) []) (in_rows asked inside to n (at + 1) rows) path found) [
      | inl here ↦ elim (cases_eq row.owner n) [
        | inl own ↦ (
          0,
          row,
          refl,
          own,
          subst (λ (i : ℕ). Contains (at_subcomponent asked inside to i row.part.category) path) (let e : at ≡ at + 0 = omega arith in e)
              (subst (λ (b : Bool). Contains (cond b (at_subcomponent asked inside to at row.part.category) []) path) (eq-eqb row.owner n own) here),
        )
        | inr other ↦ absurd (nothing path (subst (λ (b : Bool). Contains (cond b (at_subcomponent asked inside to at row.part.category) []) path) (ne_eqb row.owner n other) here))
      ]
      | inr later ↦
          let rest = in_at asked inside to n (at + 1) rows path later in (
            suc rest.0,
            rest.1,
            rest.2,
            rest.3,
            subst (λ (i : ℕ). Contains (at_subcomponent asked inside to i rest.1.part.category) path) (let e : at + 1 + rest.0 ≡ at + suc rest.0 = omega arith in e) rest.4,
          )
    ]

at_in : (asked : Sought) (inside : Inside) (to : Resolved) (n at k : ℕ) (rows : List Row) (row : Row) (path : List ℕ) → slice_get rows k ≡ Some row → row.owner ≡ n →
    Contains (at_subcomponent asked inside to (at + k) row.part.category) path → Contains (in_rows asked inside to n at rows) path
at_in asked inside to n at k [] row path found own here = absurd (cc)
at_in asked inside to n at zero (first ∷ rows) row path found own here =
    let same : first ≡ row = ap (λ (o : Option Row). Rattle.std.specs.Option.unwrap_or o first) found in
    let own_first : first.owner ≡ n = ap (λ (r : Row). r.owner) same ∙ own in
    Contains-append_left (cond (nat_eq first.owner n) (at_subcomponent asked inside to at first.part.category) []) (in_rows asked inside to n (at + 1) rows) path
    (subst (λ (b : Bool). Contains (cond b (at_subcomponent asked inside to at first.part.category) []) path) (sym (eq-eqb first.owner n own_first))
    (subst (λ (r : Row). Contains (at_subcomponent asked inside to at r.part.category) path) (sym same)
    (subst (λ (i : ℕ). Contains (at_subcomponent asked inside to i row.part.category) path) (let e : at + 0 ≡ at = omega arith in e) here)))
at_in asked inside to n at (suc k) (first ∷ rows) row path found own here =
    Contains-append_right (cond (nat_eq first.owner n) (at_subcomponent asked inside to at first.part.category) []) (in_rows asked inside to n (at + 1) rows) path
    (at_in asked inside to n (at + 1) k rows row path found own
    (subst (λ (i : ℕ). Contains (at_subcomponent asked inside to i row.part.category) path) (let e : at + suc k ≡ at + 1 + k = omega arith in e) here))

behind_one : (s : ℕ) (paths : List (List ℕ)) (path : List ℕ) → Contains (map (λ (p : List ℕ). s ∷ p) paths) path → (last : List ℕ) × (path ≡ s ∷ last) × Contains paths last
behind_one s paths path found =
    let below : found.0 < length paths = subst (λ (m : ℕ). found.0 < m) (length-map paths (λ (p : List ℕ). s ∷ p)) found.1 in
    (get_or paths found.0 [], sym found.2 ∙ get_or-map (λ (p : List ℕ). s ∷ p) paths found.0 [] path below, Contains-get_or paths found.0 [] below)

one_behind : (s : ℕ) (paths : List (List ℕ)) (last : List ℕ) → Contains paths last → Contains (map (λ (p : List ℕ). s ∷ p) paths) (s ∷ last)
one_behind s paths last found = (
  found.0,
  subst (λ (m : ℕ). found.0 < m) (sym (length-map paths (λ (p : List ℕ). s ∷ p))) found.1,
  get_or-map (λ (p : List ℕ). s ∷ p) paths found.0 last (s ∷ last) found.1 ∙ ap (λ (p : List ℕ). s ∷ p) found.2,
)

longer_is : (asked : Sought) (t : Tables) (to : Resolved) (n s inner : ℕ) (row : Row) (last : List ℕ) → StandsIn t n s row → is_sought asked row.part.category ≡ false →
    led_to to s row.part.category ≡ Some inner → IsComponent asked t to inner last → IsComponent asked t to n (s ∷ last)
longer_is asked t to n s inner row [] stands other leads is = absurd is
longer_is asked t to n s inner row (next ∷ last) stands other leads is = (row, stands, other, inner, leads, is)

led_is : (asked : Sought) (t : Tables) (to : Resolved) (inside : Inside) (n s : ℕ) (row : Row) (last : List ℕ) (led : Option ℕ) →
    ((m : ℕ) (p : List ℕ) → Contains (inside m) p → IsComponent asked t to m p) → StandsIn t n s row → is_sought asked row.part.category ≡ false →
    led_to to s row.part.category ≡ led → Contains (inside_of inside led) last → IsComponent asked t to n (s ∷ last)
led_is asked t to inside n s row last None below stands other leads found = absurd (nothing last found)
led_is asked t to inside n s row last (Some inner) below stands other leads found = longer_is asked t to n s inner row last stands other leads (below inner last found)

row_is : (asked : Sought) (t : Tables) (to : Resolved) (inside : Inside) (n s : ℕ) (row : Row) (path : List ℕ) →
    ((m : ℕ) (p : List ℕ) → Contains (inside m) p → IsComponent asked t to m p) → StandsIn t n s row →
    Contains (at_subcomponent asked inside to s row.part.category) path → IsComponent asked t to n path
row_is asked t to inside n s row path below stands found =
    elim (cases_Bool (is_sought asked row.part.category)) [
      | inl is ↦ subst (IsComponent asked t to n)
          (sym (only_path (s ∷ []) path (subst (λ (ps : List (List ℕ)). Contains ps path) (at_sought asked inside to s row.part.category is) found))) (row, stands, is)
      | inr other ↦
          let led = led_to to s row.part.category in
          let way = behind_one s (inside_of inside led) path (subst (λ (ps : List (List ℕ)). Contains ps path) (at_other asked inside to s row.part.category led other refl) found) in
          subst (IsComponent asked t to n) (sym way.1) (led_is asked t to inside n s row way.0 led below stands other refl way.2)
    ]

listed_is : (asked : Sought) (t : Tables) (to : Resolved) (depth n : ℕ) (path : List ℕ) → Contains (components_within asked t to depth n) path → IsComponent asked t to n path
listed_is asked t to zero n path found = absurd (nothing path found)
listed_is asked t to (suc depth) n path found =
    elim (cases_lt n (length t.implementations)) [
      | inl within ↦
          let inside = components_within asked t to depth in
          let way = in_at asked inside to n 0 t.subcomponents path (subst (λ (ps : List (List ℕ)). Contains ps path) (level asked t to depth n within) found) in
          row_is asked t to inside n way.0 way.1 path (listed_is asked t to depth) (record { there = within; found = way.2; own = way.3 })
          (subst (λ (i : ℕ). Contains (at_subcomponent asked inside to i way.1.part.category) path) (let e : 0 + way.0 ≡ way.0 = omega arith in e) way.4)
      | inr past ↦ absurd (nothing path (subst (λ (b : Bool). Contains (cond b (in_rows asked (components_within asked t to depth) to n 0 t.subcomponents) []) path) (le-ltb n (length t.implementations) past) found))
    ]

row_listed : (asked : Sought) (t : Tables) (to : Resolved) (depth n s : ℕ) (row : Row) (path : List ℕ) → StandsIn t n s row →
    Contains (at_subcomponent asked (components_within asked t to depth) to s row.part.category) path → Contains (components_within asked t to (suc depth) n) path
row_listed asked t to depth n s row path stands found =
    subst (λ (ps : List (List ℕ)). Contains ps path) (sym (level asked t to depth n stands.there))
    (at_in asked (components_within asked t to depth) to n 0 s t.subcomponents row path stands.found stands.own
    (subst (λ (i : ℕ). Contains (at_subcomponent asked (components_within asked t to depth) to i row.part.category) path) (let e : s ≡ 0 + s = omega arith in e) found))

is_listed : (asked : Sought) (t : Tables) (to : Resolved) (depth n : ℕ) (path : List ℕ) → IsComponent asked t to n path → length path ≤ depth → Contains (components_within asked t to depth n) path
is_listed asked t to depth n [] is short = absurd is
is_listed asked t to zero n (s ∷ path) is short = absurd (omega arith)
is_listed asked t to (suc depth) n (s ∷ []) is short =
    row_listed asked t to depth n s is.0 (s ∷ []) is.1
    (subst (λ (ps : List (List ℕ)). Contains ps (s ∷ [])) (sym (at_sought asked (components_within asked t to depth) to s is.0.part.category is.2)) (Contains-get_or ((s ∷ []) ∷ []) 0 [] (omega arith)))
is_listed asked t to (suc depth) n (s ∷ next ∷ path) is short =
    row_listed asked t to depth n s is.0 (s ∷ next ∷ path) is.1
    (subst (λ (ps : List (List ℕ)). Contains ps (s ∷ next ∷ path))
    (sym (at_other asked (components_within asked t to depth) to s is.0.part.category (Some is.3) is.2 is.4))
    (one_behind s (components_within asked t to depth is.3) (next ∷ path) (is_listed asked t to depth is.3 (next ∷ path) is.5 (omega arith))))

pub only_components : (asked : Sought) (t : Tables) (to : Resolved) (root : ℕ) (path : List ℕ) → Contains (components_of asked t to root) path → IsComponent asked t to root path
only_components asked t to root path found = listed_is asked t to 33 root path (subst (λ (ps : List (List ℕ)). Contains ps path) (sym (whole asked t to root)) found)

pub all_components : (asked : Sought) (t : Tables) (to : Resolved) (root : ℕ) (path : List ℕ) → IsComponent asked t to root path → length path ≤ 33 →
    Contains (components_of asked t to root) path
all_components asked t to root path is short = subst (λ (ps : List (List ℕ)). Contains ps path) (whole asked t to root) (is_listed asked t to 33 root path is short)
