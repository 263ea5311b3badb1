-- Parts of a table outside of which an implementation has no rows.
use Rattle.std.proofs.Common.{◌≡◌, inl, inr, ℕ, zero, suc, ◌+◌, ◌<◌, ◌≤◌, min, max, Bool, cond, List, [], ◌∷◌, ◌++◌, length, set, drop, Option, Some, refl, sym, ap, subst, ◌∙◌, arith}
use Rattle.std.specs.List.{slice_get}
use Rattle.std.specs.Option.{unwrap_or}
use Rattle.std.proofs.lemmas.Bool.{cases_lt, cases_eq, ne_eqb}
use Rattle.std.proofs.lemmas.List.{get_or-set_same, get_or-set_other, length-set}
use Rattle.std.proofs.lemmas.Option.{slice_get_within}
use Rattle.aadl_tree.specs.declared.subcomponent.Subcomponent.{Subcomponent}
use Rattle.aadl_names.specs.declared.parts.PartRow.{PartRow}
use Rattle.aadl_names.specs.declared.resolved.Resolved.{Resolved}
use Rattle.aadl_domains.specs.declared.sought.Sought.{Sought}
use Rattle.aadl_domains.specs.declared.spans.Span.{Span}
use Rattle.aadl_domains.specs.Components.{in_rows, at_subcomponent}
use Rattle.aadl_domains.specs.Counting.{span_of, widened, IsInside, IsSpan, AreSpansOf}

abbrev pub Row : Type 0
Row = PartRow Subcomponent

abbrev none : Span
none = record { start = 0; end = 0 }

widened_here : (spans : List Span) (m at : ℕ) → m < length spans → IsInside (span_of (set spans m (widened (span_of spans m) at)) m) at
widened_here spans m at within =
    subst (λ (span : Span). IsInside span at) (sym (get_or-set_same spans m (widened (span_of spans m) at) none within))
    (let least : min (span_of spans m).start at ≤ at = omega arith in
    let most : at < max (span_of spans m).end (at + 1) = omega arith in (least, most))

widened_stays : (spans : List Span) (m at n k : ℕ) → n < length spans → IsInside (span_of spans n) k → IsInside (span_of (set spans m (widened (span_of spans m) at)) n) k
widened_stays spans m at n k within (low, high) =
    elim (cases_eq n m) [
      | inl same ↦
          let inside : m < length spans = subst (λ (i : ℕ). i < length spans) same within in
          let low_here : (span_of spans m).start ≤ k = subst (λ (i : ℕ). (span_of spans i).start ≤ k) same low in
          let high_here : k < (span_of spans m).end = subst (λ (i : ℕ). k < (span_of spans i).end) same high in
          subst (λ (i : ℕ). IsInside (span_of (set spans m (widened (span_of spans m) at)) i) k) (sym same)
          (subst (λ (span : Span). IsInside span k) (sym (get_or-set_same spans m (widened (span_of spans m) at) none inside))
          (let least : min (span_of spans m).start at ≤ k = omega arith in
          let most : k < max (span_of spans m).end (at + 1) = omega arith in (least, most)))
      | inr other ↦ subst (λ (span : Span). IsInside span k) (sym (get_or-set_other spans m n (widened (span_of spans m) at) none other)) (low, high)
    ]

-- one row more
pub spans_more : (rows : List Row) (spans : List Span) (at : ℕ) (here : Row) → slice_get rows at ≡ Some here → AreSpansOf rows at spans →
    AreSpansOf rows (at + 1) (set spans here.owner (widened (span_of spans here.owner) at))
spans_more rows spans at here is old n below k row before found own =
    let long = length-set spans here.owner (widened (span_of spans here.owner) at) in
    let within : n < length spans = omega arith in
    elim (cases_lt k at) [
      | inl earlier ↦ widened_stays spans here.owner at n k within (old n within k row earlier found own)
      | inr later ↦
          let same : k ≡ at = omega arith in
          let one : here ≡ row = ap (λ (o : Option Row). unwrap_or o row) (sym is ∙ (ap (slice_get rows) (sym same) ∙ found)) in
          let owner : here.owner ≡ n = ap (λ (r : Row). r.owner) one ∙ own in
          subst (λ (i : ℕ). IsInside (span_of (set spans here.owner (widened (span_of spans here.owner) at)) n) i) (sym same)
          (subst (λ (i : ℕ). IsInside (span_of (set spans here.owner (widened (span_of spans here.owner) at)) i) at) owner
          (widened_here spans here.owner at (subst (λ (i : ℕ). i < length spans) (sym owner) within)))
    ]

-- all rows
pub spans_all : (rows : List Row) (spans : List Span) (many implementations : ℕ) → length rows ≤ many → length spans ≡ implementations → AreSpansOf rows many spans →
    (n : ℕ) → n < implementations → IsSpan rows n (span_of spans n)
spans_all rows spans many implementations all long are n below at row found own =
    let within : n < length spans = omega arith in
    let inside = slice_get_within rows at row found in
    are n within at row (omega arith) found own

-- rows of others hold nothing
pub skipped : (asked : Sought) (inside : ℕ → List (List ℕ)) (to : Resolved) (n at s : ℕ) (rows : List Row) →
    ((k : ℕ) (row : Row) → k < s → slice_get rows k ≡ Some row → row.owner ≡ n → ⊥) →
    in_rows asked inside to n at rows ≡ in_rows asked inside to n (at + s) (drop s rows)
skipped asked inside to n at zero rows others = ap (λ (i : ℕ). in_rows asked inside to n i rows) (let e : at ≡ at + 0 = omega arith in e)
skipped asked inside to n at (suc s) [] others = refl
skipped asked inside to n at (suc s) (row ∷ rows) others =
    let other = ne_eqb row.owner n (others 0 row (omega arith) refl) in
    let count : at + 1 + s ≡ at + suc s = omega arith in
    ap (λ (b : Bool). (cond b (at_subcomponent asked inside to at row.part.category) []) ++ in_rows asked inside to n (at + 1) rows) other
    ∙ (skipped asked inside to n (at + 1) s rows (λ k r below found. others (suc k) r (omega arith) found)
    ∙ ap (λ (i : ℕ). in_rows asked inside to n i (drop s rows)) count)

pub all_others : (asked : Sought) (inside : ℕ → List (List ℕ)) (to : Resolved) (n at : ℕ) (rows : List Row) →
    ((k : ℕ) (row : Row) → slice_get rows k ≡ Some row → row.owner ≡ n → ⊥) → in_rows asked inside to n at rows ≡ []
all_others asked inside to n at [] others = refl
all_others asked inside to n at (row ∷ rows) others =
    ap (λ (b : Bool). (cond b (at_subcomponent asked inside to at row.part.category) []) ++ in_rows asked inside to n (at + 1) rows) (ne_eqb row.owner n (others 0 row refl))
    ∙ all_others asked inside to n (at + 1) rows (λ k r found. others (suc k) r found)

slice_get-drop : {X : Type 0} (xs : List X) (s k : ℕ) → slice_get (drop s xs) k ≡ slice_get xs (s + k)
slice_get-drop xs zero k = ap (slice_get xs) (let e : k ≡ 0 + k = omega arith in e)
slice_get-drop [] (suc s) k = refl
slice_get-drop (x ∷ xs) (suc s) k = slice_get-drop xs s k ∙ ap (slice_get (x ∷ xs)) (let e : suc (s + k) ≡ suc s + k = omega arith in e)

-- before its part of the table, an implementation has nothing
pub span_begins : (asked : Sought) (inside : ℕ → List (List ℕ)) (to : Resolved) (n : ℕ) (rows : List Row) (span : Span) → IsSpan rows n span →
    in_rows asked inside to n span.start (drop span.start rows) ≡ in_rows asked inside to n 0 rows
span_begins asked inside to n rows span is =
    sym (skipped asked inside to n 0 span.start rows (λ k row below found own. let low = (is k row found own).0 in omega arith)
    ∙ ap (λ (i : ℕ). in_rows asked inside to n i (drop span.start rows)) (let e : 0 + span.start ≡ span.start = omega arith in e))

-- nor behind it
pub span_ends : (asked : Sought) (inside : ℕ → List (List ℕ)) (to : Resolved) (n at : ℕ) (rows : List Row) (span : Span) → IsSpan rows n span → span.end ≤ at →
    in_rows asked inside to n at (drop at rows) ≡ []
span_ends asked inside to n at rows span is behind =
    all_others asked inside to n at (drop at rows) (λ k row found own. let high = (is (at + k) row (sym (slice_get-drop rows at k) ∙ found) own).1 in omega arith)
