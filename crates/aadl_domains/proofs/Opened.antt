-- One row more of the table of subcomponents.
use Rattle.std.proofs.Common.{◌≡◌, inl, inr, ℕ, suc, ◌+◌, ◌-◌, ◌<◌, ◌≤◌, Bool, true, false, cond, List, [], ◌∷◌, ◌++◌, map, length, get_or, set, drop, Option, Some, None, refl, sym, ap, subst, ◌∙◌, arith, length-append}
use Rattle.std.specs.List.{slice_get}
use Rattle.std.specs.Option.{option_map}
use Rattle.std.proofs.lemmas.Bool.{cases_eq, eq-eqb, ne_eqb, lt-ltb}
use Rattle.std.proofs.lemmas.List.{at_drop_more, length-set, get_or-set_same, get_or-set_other, set_past}
use Rattle.aadl_tree.specs.declared.category.Category.{Category}
use Rattle.aadl_tree.specs.declared.subcomponent.Subcomponent.{Subcomponent}
use Rattle.aadl_names.specs.declared.parts.PartRow.{PartRow}
use Rattle.aadl_names.specs.declared.resolved.Resolved.{Resolved}
use Rattle.aadl_names.specs.declared.tables.Tables.{Tables}
use Rattle.aadl_domains.specs.declared.sought.Sought.{Sought}
use Rattle.aadl_domains.specs.Components.{in_rows, at_subcomponent, is_sought, led_to, inside_of, components_within, components_of, counted}
use Rattle.aadl_domains.specs.Counting.{count_of, AreCounts, added}
use Rattle.aadl_domains.proofs.Ways.{in_front, behind, longer}

abbrev Row : Type 0
Row = PartRow Subcomponent

abbrev Inside : Type 0
Inside = ℕ → List (List ℕ)

opened : (asked : Sought) (inside : Inside) (to : Resolved) (n at : ℕ) (rows : List Row) (here : Row) → at < length rows → here ≡ get_or rows at here →
    in_rows asked inside to n at (drop at rows)
    ≡ (cond (Rattle.std.specs.Prelude.nat_eq here.owner n) (at_subcomponent asked inside to at here.part.category) []) ++ in_rows asked inside to n (at + 1) (drop (at + 1) rows)
opened asked inside to n at rows here below is =
    at_drop_more (in_rows asked inside to n at) rows at here below ∙ ap (λ (r : Row). in_rows asked inside to n at (r ∷ drop (at + 1) rows)) (sym is)

opened_own : (asked : Sought) (inside : Inside) (to : Resolved) (n at : ℕ) (rows : List Row) (here : Row) (s : Subcomponent) → at < length rows → here ≡ get_or rows at here →
    s ≡ here.part → here.owner ≡ n →
    in_rows asked inside to n at (drop at rows) ≡ at_subcomponent asked inside to at s.category ++ in_rows asked inside to n (at + 1) (drop (at + 1) rows)
opened_own asked inside to n at rows here s below is part own =
    opened asked inside to n at rows here below is
    ∙ (ap (λ (b : Bool). cond b (at_subcomponent asked inside to at here.part.category) [] ++ in_rows asked inside to n (at + 1) (drop (at + 1) rows)) (eq-eqb here.owner n own)
    ∙ ap (λ (p : Subcomponent). at_subcomponent asked inside to at p.category ++ in_rows asked inside to n (at + 1) (drop (at + 1) rows)) (sym part))

pub opened_other : (asked : Sought) (inside : Inside) (to : Resolved) (n at : ℕ) (rows : List Row) (here : Row) → at < length rows → here ≡ get_or rows at here →
    (here.owner ≡ n → ⊥) → in_rows asked inside to n at (drop at rows) ≡ in_rows asked inside to n (at + 1) (drop (at + 1) rows)
opened_other asked inside to n at rows here below is other =
    opened asked inside to n at rows here below is
    ∙ ap (λ (b : Bool). cond b (at_subcomponent asked inside to at here.part.category) [] ++ in_rows asked inside to n (at + 1) (drop (at + 1) rows)) (ne_eqb here.owner n other)

sums : (c p r : ℕ) → counted (counted (c + counted p) + r) ≡ counted (c + (p + r))
sums c p r = omega arith

pub small_added : (counts : List ℕ) (m worth : ℕ) → ((n : ℕ) → count_of counts n ≤ 18446744073709551615) → (n : ℕ) → count_of (added counts m worth) n ≤ 18446744073709551615
small_added counts m worth small n =
    elim (cases_eq n m) [
      | inl same ↦ elim (Rattle.std.proofs.lemmas.Bool.cases_lt m (length counts)) [
        | inl within ↦ subst (λ (i : ℕ). count_of (added counts m worth) i ≤ 18446744073709551615) (sym same)
            (let is = get_or-set_same counts m (counted (count_of counts m + worth)) 0 within in omega arith)
        | inr past ↦ subst (λ (cs : List ℕ). count_of cs n ≤ 18446744073709551615) (sym (set_past counts m (counted (count_of counts m + worth)) past)) (small n)
      ]
      | inr other ↦ let is = get_or-set_other counts m n (counted (count_of counts m + worth)) 0 other in let before = small n in omega arith
    ]

-- what is counted so far and what is left stay all
pub counted_on : (asked : Sought) (inside : Inside) (to : Resolved) (n at : ℕ) (rows : List Row) (here : Row) (s : Subcomponent) (counts : List ℕ) (worth whole : ℕ) →
    n < length counts → at < length rows → here ≡ get_or rows at here → s ≡ here.part → worth ≡ counted (length (at_subcomponent asked inside to at s.category)) →
    counted (count_of counts n + length (in_rows asked inside to n at (drop at rows))) ≡ whole →
    counted (count_of (added counts here.owner worth) n + length (in_rows asked inside to n (at + 1) (drop (at + 1) rows))) ≡ whole
counted_on asked inside to n at rows here s counts worth whole within below is part counts_it before =
    elim (cases_eq n here.owner) [
      | inl same ↦
          let own = opened_own asked inside to n at rows here s below is part (sym same) in
          let now : count_of (added counts here.owner worth) n ≡ counted (count_of counts n + counted (length (at_subcomponent asked inside to at s.category))) =
          subst (λ (m : ℕ). count_of (set counts m (counted (count_of counts m + worth))) n ≡ counted (count_of counts n + counted (length (at_subcomponent asked inside to at s.category)))) same
          (get_or-set_same counts n (counted (count_of counts n + worth)) 0 within ∙ ap (λ (w : ℕ). counted (count_of counts n + w)) counts_it) in
          ap (λ (m : ℕ). counted (m + length (in_rows asked inside to n (at + 1) (drop (at + 1) rows)))) now
          ∙ (sums (count_of counts n) (length (at_subcomponent asked inside to at s.category)) (length (in_rows asked inside to n (at + 1) (drop (at + 1) rows)))
          ∙ (ap (λ (m : ℕ). counted (count_of counts n + m))
          (sym (ap (λ (ps : List (List ℕ)). length ps) own ∙ length-append (at_subcomponent asked inside to at s.category) (in_rows asked inside to n (at + 1) (drop (at + 1) rows))))
          ∙ before))
      | inr other ↦
          let rest = opened_other asked inside to n at rows here below is (λ owner. other (sym owner)) in
          ap (λ (m : ℕ). counted (m + length (in_rows asked inside to n (at + 1) (drop (at + 1) rows)))) (get_or-set_other counts here.owner n (counted (count_of counts here.owner + worth)) 0 other)
          ∙ (ap (λ (ps : List (List ℕ)). counted (count_of counts n + length ps)) (sym rest) ∙ before)
    ]

-- the way goes on here
pub here_on : (asked : Sought) (inside : Inside) (to : Resolved) (n at : ℕ) (rows : List Row) (here : Row) (s : Subcomponent) (worth rest : ℕ) →
    at < length rows → here ≡ get_or rows at here → s ≡ here.part → here.owner ≡ n → worth ≡ counted (length (at_subcomponent asked inside to at s.category)) → rest < worth →
    slice_get (in_rows asked inside to n at (drop at rows)) rest ≡ slice_get (at_subcomponent asked inside to at s.category) rest
here_on asked inside to n at rows here s worth rest below is part own worth_is before =
    ap (λ (ps : List (List ℕ)). slice_get ps rest) (opened_own asked inside to n at rows here s below is part own)
    ∙ in_front (at_subcomponent asked inside to at s.category) (in_rows asked inside to n (at + 1) (drop (at + 1) rows)) rest (omega arith)

-- or behind
pub further_on : (asked : Sought) (inside : Inside) (to : Resolved) (n at : ℕ) (rows : List Row) (here : Row) (s : Subcomponent) (worth rest : ℕ) →
    at < length rows → here ≡ get_or rows at here → s ≡ here.part → here.owner ≡ n → worth ≡ counted (length (at_subcomponent asked inside to at s.category)) → worth ≤ rest →
    rest < 4294967296 → slice_get (in_rows asked inside to n (at + 1) (drop (at + 1) rows)) (rest - worth) ≡ slice_get (in_rows asked inside to n at (drop at rows)) rest
further_on asked inside to n at rows here s worth rest below is part own worth_is past small =
    let exact : length (at_subcomponent asked inside to at s.category) ≡ worth = omega arith in
    sym (ap (λ (ps : List (List ℕ)). slice_get ps rest) (opened_own asked inside to n at rows here s below is part own)
    ∙ (behind (at_subcomponent asked inside to at s.category) (in_rows asked inside to n (at + 1) (drop (at + 1) rows)) rest (omega arith)
    ∙ ap (λ (m : ℕ). slice_get (in_rows asked inside to n (at + 1) (drop (at + 1) rows)) (rest - m)) exact))

pub at_sought : (asked : Sought) (inside : Inside) (to : Resolved) (s : ℕ) (c : Category) → is_sought asked c ≡ true → at_subcomponent asked inside to s c ≡ (s ∷ []) ∷ []
at_sought asked inside to s c is = ap (λ (b : Bool). cond b ((s ∷ []) ∷ []) (map (λ path. s ∷ path) (inside_of inside (led_to to s c)))) is

pub at_other : (asked : Sought) (inside : Inside) (to : Resolved) (s : ℕ) (c : Category) (led : Option ℕ) → is_sought asked c ≡ false → led_to to s c ≡ led →
    at_subcomponent asked inside to s c ≡ map (λ path. s ∷ path) (inside_of inside led)
at_other asked inside to s c led is leads =
    ap (λ (b : Bool). cond b ((s ∷ []) ∷ []) (map (λ path. s ∷ path) (inside_of inside (led_to to s c)))) is
    ∙ ap (λ (o : Option ℕ). map (λ path. s ∷ path) (inside_of inside o)) leads

pub level : (asked : Sought) (t : Tables) (to : Resolved) (depth n : ℕ) → n < length t.implementations →
    components_within asked t to (suc depth) n ≡ in_rows asked (components_within asked t to depth) to n 0 t.subcomponents
level asked t to depth n within =
    ap (λ (b : Bool). cond b (in_rows asked (components_within asked t to depth) to n 0 t.subcomponents) []) (lt-ltb n (length t.implementations) within)

pub whole : (asked : Sought) (t : Tables) (to : Resolved) (root : ℕ) → components_within asked t to 33 root ≡ components_of asked t to root
unfolding components_of
whole asked t to root = refl

-- one level down
pub level_found : (asked : Sought) (t : Tables) (to : Resolved) (path : List ℕ) (depth n rest : ℕ) (found target : Option (List ℕ)) → 0 < depth → n < length t.implementations →
    option_map (λ (last : List ℕ). path ++ last) (slice_get (components_within asked t to depth n) rest) ≡ target →
    slice_get (in_rows asked (components_within asked t to (depth - 1)) to n 0 t.subcomponents) rest ≡ found → option_map (λ (last : List ℕ). path ++ last) found ≡ target
level_found asked t to path depth n rest found target deep within same is =
    let one : depth ≡ suc (depth - 1) = omega arith in
    let below = ap (λ (d : ℕ). slice_get (components_within asked t to d n) rest) one ∙ (ap (λ (ps : List (List ℕ)). slice_get ps rest) (level asked t to (depth - 1) n within) ∙ is) in
    sym (ap (λ (o : Option (List ℕ)). option_map (λ (last : List ℕ). path ++ last) o) below) ∙ same

-- and into a system
pub led_inside : (asked : Sought) (t : Tables) (to : Resolved) (path : List ℕ) (depth n rest at inner place : ℕ) (c : Category) (target : Option (List ℕ)) →
    0 < depth → n < length t.implementations → is_sought asked c ≡ false → led_to to at c ≡ Some inner →
    option_map (λ (last : List ℕ). path ++ last) (slice_get (components_within asked t to depth n) rest) ≡ target →
    slice_get (in_rows asked (components_within asked t to (depth - 1)) to n 0 t.subcomponents) rest
    ≡ slice_get (at_subcomponent asked (components_within asked t to (depth - 1)) to at c) place →
    option_map (λ (last : List ℕ). (path ++ at ∷ []) ++ last) (slice_get (components_within asked t to (depth - 1) inner) place) ≡ target
led_inside asked t to path depth n rest at inner place c target deep within other leads same is =
    let below = components_within asked t to (depth - 1) in
    sym (longer path at (below inner) place) ∙ level_found asked t to path depth n rest (slice_get (map (λ (last : List ℕ). at ∷ last) (below inner)) place) target deep within same
    (is ∙ ap (λ (ps : List (List ℕ)). slice_get ps place) (at_other asked below to at c (Some inner) other leads))

pub ended_here : (asked : Sought) (t : Tables) (to : Resolved) (path : List ℕ) (depth n rest at place : ℕ) (c : Category) (target : Option (List ℕ)) →
    0 < depth → n < length t.implementations → is_sought asked c ≡ true →
    option_map (λ (last : List ℕ). path ++ last) (slice_get (components_within asked t to depth n) rest) ≡ target →
    slice_get (in_rows asked (components_within asked t to (depth - 1)) to n 0 t.subcomponents) rest
    ≡ slice_get (at_subcomponent asked (components_within asked t to (depth - 1)) to at c) place →
    option_map (λ (last : List ℕ). path ++ last) (slice_get ((at ∷ []) ∷ []) place) ≡ target
ended_here asked t to path depth n rest at place c target deep within sought same is =
    level_found asked t to path depth n rest (slice_get ((at ∷ []) ∷ []) place) target deep within same
    (is ∙ ap (λ (ps : List (List ℕ)). slice_get ps place) (at_sought asked (components_within asked t to (depth - 1)) to at c sought))

pub led_nowhere : (asked : Sought) (t : Tables) (to : Resolved) (path : List ℕ) (depth n rest at place : ℕ) (c : Category) (target : Option (List ℕ)) →
    0 < depth → n < length t.implementations → is_sought asked c ≡ false → led_to to at c ≡ None →
    option_map (λ (last : List ℕ). path ++ last) (slice_get (components_within asked t to depth n) rest) ≡ target →
    slice_get (in_rows asked (components_within asked t to (depth - 1)) to n 0 t.subcomponents) rest
    ≡ slice_get (at_subcomponent asked (components_within asked t to (depth - 1)) to at c) place → None ≡ target
led_nowhere asked t to path depth n rest at place c target deep within other leads same is =
    level_found asked t to path depth n rest None target deep within same
    (is ∙ ap (λ (ps : List (List ℕ)). slice_get ps place) (at_other asked (components_within asked t to (depth - 1)) to at c None other leads))

-- what a count of all implementations keeps at one row more
pub deeper_preserved : (asked : Sought) (to : Resolved) (rows items : List Row) (here : Row) (s : Subcomponent) (below counts after : List ℕ) (many at worth : ℕ) →
    items ≡ rows → here ≡ get_or items at here → at < length items → s ≡ here.part → after ≡ added counts here.owner worth →
    ((inside : Inside) → AreCounts below inside → worth ≡ counted (length (at_subcomponent asked inside to at s.category))) →
    length counts ≡ many → ((n : ℕ) → count_of counts n ≤ 18446744073709551615) →
    ((inside : Inside) → AreCounts below inside → (n : ℕ) → n < length counts →
    counted (count_of counts n + length (in_rows asked inside to n at (drop at rows))) ≡ counted (length (in_rows asked inside to n 0 rows))) →
    record {
      long : length after ≡ many;
      small : (n : ℕ) → count_of after n ≤ 18446744073709551615;
      sum : (inside : Inside) → AreCounts below inside → (n : ℕ) → n < length after →
          counted (count_of after n + length (in_rows asked inside to n (at + 1) (drop (at + 1) rows))) ≡ counted (length (in_rows asked inside to n 0 rows));
    }
deeper_preserved asked to rows items here s below counts after many at worth same is within part more worth_is long small sum =
    let kept : length after ≡ length counts = ap (λ (cs : List ℕ). length cs) more ∙ length-set counts here.owner (counted (count_of counts here.owner + worth)) in
    record {
      long = kept ∙ long;
      small = λ (n : ℕ). subst (λ (cs : List ℕ). count_of cs n ≤ 18446744073709551615) (sym more) (small_added counts here.owner worth small n);
      sum = λ (inside : Inside) (are : AreCounts below inside) (n : ℕ) (below_all : n < length after).
          let within_counts : n < length counts = subst (λ (m : ℕ). n < m) kept below_all in
          let within_rows : at < length rows = subst (λ (rs : List Row). at < length rs) same within in
          let is_here : here ≡ get_or rows at here = subst (λ (rs : List Row). here ≡ get_or rs at here) same is in
          ap (λ (cs : List ℕ). counted (count_of cs n + length (in_rows asked inside to n (at + 1) (drop (at + 1) rows)))) more
          ∙ counted_on asked inside to n at rows here s counts worth (counted (length (in_rows asked inside to n 0 rows))) within_counts within_rows is_here part (worth_is inside are) (sum inside are n within_counts);
    }
