-- Marks of which one is changed.
use Rattle.std.proofs.Common.{◌≡◌, ◌≢◌, ◌⊎◌, inl, inr, Some, ℕ, ◌+◌, ◌<◌, ◌≤◌, cond, List, length, set, sym, ap, subst, ◌∙◌, arith, get_or-set_other}
use Rattle.std.specs.List.{count_by, slice_get}
use Rattle.std.proofs.Math.ListN.{length-set}
use Rattle.std.proofs.lemmas.Bool.{cases_lt, cases_eq}
use Rattle.std.proofs.lemmas.List.{get_or-set_same, get_or_past}
use Rattle.std.proofs.lemmas.List.Sums.{sum_by-set}
use Rattle.aadl_typing.specs.declared.marks.Mark.{Mark}
use Rattle.aadl_typing.specs.declared.marks.Mark.TheVariants as mark
use Rattle.aadl_typing.specs.Marks.{mark_at, is_open, open_count}
use Rattle.aadl_typing.proofs.Chains.{some_same}

pub mark_same : (marks : List Mark) (n : ℕ) (v : Mark) → n < length marks → mark_at (set marks n v) n ≡ v
mark_same marks n v inside = get_or-set_same marks n v (mark.Ends n) inside

pub mark_here : (marks : List Mark) (n k : ℕ) (v : Mark) → n < length marks → k ≡ n → mark_at (set marks n v) k ≡ v
mark_here marks n k v inside same = subst (λ (row : ℕ). mark_at (set marks n v) row ≡ v) (sym same) (mark_same marks n v inside)

pub mark_other : (marks : List Mark) (n k : ℕ) (v : Mark) → k ≢ n → mark_at (set marks n v) k ≡ mark_at marks k
mark_other marks n k v other = get_or-set_other marks n k v (mark.Ends k) other

-- also past the last row
pub mark_end : (marks : List Mark) (n : ℕ) → mark_at (set marks n (mark.Ends n)) n ≡ mark.Ends n
mark_end marks n =
    elim (cases_lt n (length marks)) [
      | inl inside ↦ mark_same marks n (mark.Ends n) inside
      | inr past ↦ get_or_past (set marks n (mark.Ends n)) n (mark.Ends n) (subst (λ (m : ℕ). m ≤ n) (sym (length-set marks n (mark.Ends n))) past)
    ]

-- rows of the walk from a place on become ends one after another
pub record AreClosed (path : List ℕ) (place number : ℕ) (before now : List Mark) : Type 0 where
  pub long : length now ≡ length before
  pub closed : (k x : ℕ) → place ≤ k → k < number → slice_get path k ≡ Some x → mark_at now x ≡ mark.Ends x
  pub others : (x : ℕ) → ((k : ℕ) × (place ≤ k) × (slice_get path k ≡ Some x)) ⊎ (mark_at now x ≡ mark_at before x)

pub closed_more : (path : List ℕ) (place number : ℕ) (before now after : List Mark) (row : ℕ) → AreClosed path place number before now → place ≤ number →
    slice_get path number ≡ Some row → after ≡ set now row (mark.Ends row) → AreClosed path place (number + 1) before after
closed_more path place number before now after row old above here is = rw is record {
  long = length-set now row (mark.Ends row) ∙ old.long;
  closed = λ k x from below at. elim (cases_eq x row) [
    | inl same ↦ ended x same
    | inr other ↦ elim (cases_eq k number) [
      | inl last ↦ absurd (other (some_same (sym at ∙ subst (λ (n : ℕ). slice_get path n ≡ Some row) (sym last) here)))
      | inr early ↦ mark_other now row x (mark.Ends row) other ∙ old.closed k x from (omega arith) at
    ]
  ];
  others = λ x. elim (cases_eq x row) [
    | inl same ↦ inl (number, above, here ∙ ap Some (sym same))
    | inr other ↦ elim (old.others x) [
      | inl on ↦ inl on
      | inr kept ↦ inr (mark_other now row x (mark.Ends row) other ∙ kept)
    ]
  ];
}
  where
    ended : (x : ℕ) → x ≡ row → mark_at (set now row (mark.Ends row)) x ≡ mark.Ends x
    ended x same = subst (λ (n : ℕ). mark_at (set now row (mark.Ends row)) n ≡ mark.Ends n) (sym same) (mark_end now row)

-- what is no end is a row
pub row_inside : (marks : List Mark) (n : ℕ) → mark_at marks n ≢ mark.Ends n → n < length marks
row_inside marks n other =
    elim (cases_lt n (length marks)) [
      | inl inside ↦ inside
      | inr past ↦ absurd (other (get_or_past marks n (mark.Ends n) past))
    ]

pub open_fewer : (marks : List Mark) (n k : ℕ) → n < length marks → mark_at marks n ≡ mark.Open → open_count (set marks n (mark.Met k)) < open_count marks
open_fewer marks n k inside unmarked =
    let change : count_by is_open (set marks n (mark.Met k)) + 1 ≡ count_by is_open marks + 0 =
    subst (λ (m : Mark). count_by is_open (set marks n (mark.Met k)) + cond (is_open m) 1 0 ≡ count_by is_open marks + 0) unmarked
    (sum_by-set (λ (m : Mark). cond (is_open m) 1 0) marks n (mark.Met k) (mark.Ends n) inside) in
    omega arith
