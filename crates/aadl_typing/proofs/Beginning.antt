-- Marks and ends of which nothing is known yet, or all.
use Rattle.std.proofs.Common.{◌≡◌, inl, inr, ℕ, zero, suc, ◌+◌, ◌<◌, ◌≤◌, List, [], ◌∷◌, ◌++◌, length, get_or, drop, Option, None, refl, sym, ap, subst, ◌∙◌, arith, append_assoc, add-one, drop-cons}
use Rattle.std.specs.Option.{option_and_then}
use Rattle.std.proofs.Math.Seq.{get_or-append_seam}
use Rattle.std.proofs.lemmas.Bool.{cases_eq, cases_lt}
use Rattle.std.proofs.lemmas.List.{length-map, get_or_past, get_or_append_left}
use Rattle.std.proofs.lemmas.Option.{slice_get_past}
use Rattle.aadl_typing.specs.declared.marks.Mark.{Mark}
use Rattle.aadl_typing.specs.declared.marks.Mark.TheVariants as mark
use Rattle.aadl_names.specs.Meanings.{at_row}
use Rattle.aadl_typing.specs.Walks.{IsFirstEnd, AreEnds}
use Rattle.aadl_typing.specs.Marks.{mark_at, open_marks, IsAtRest}
use Rattle.aadl_typing.proofs.Chains.{some_same}
use Rattle.aadl_typing.proofs.Stepping.{is_end, ends, meets}

open_at : (nexts : List (Option ℕ)) (n : ℕ) (d : Mark) → n < length nexts → get_or (open_marks nexts) n d ≡ mark.Open
open_at [] n d inside = absurd (omega arith)
open_at (next ∷ nexts) zero d inside = refl
open_at (next ∷ nexts) (suc n) d inside = open_at nexts n d (omega arith)

past_at : (nexts : List (Option ℕ)) (n : ℕ) → length nexts ≤ n → mark_at (open_marks nexts) n ≡ mark.Ends n
past_at nexts n past = get_or_past (open_marks nexts) n (mark.Ends n) (subst (λ (many : ℕ). many ≤ n) (sym (length-map nexts (λ next. mark.Open))) past)

leads_nowhere : (nexts : List (Option ℕ)) (n : ℕ) → length nexts ≤ n → at_row nexts n ≡ None
leads_nowhere nexts n past = ap (option_and_then (λ (next : Option ℕ). next)) (slice_get_past nexts n past)

pub at_rest : (nexts : List (Option ℕ)) → IsAtRest nexts (open_marks nexts) []
at_rest nexts = record {
  marked = record {
    long = length-map nexts (λ next. mark.Open);
    right = λ n e is. elim (cases_lt n (length nexts)) [
      | inl inside ↦ absurd (let no = ap ends (sym (open_at nexts n (mark.Ends n) inside) ∙ is) in cc)
      | inr past ↦ subst (IsFirstEnd nexts n) (some_same (ap ends (sym (past_at nexts n past) ∙ is))) (is_end nexts n (inl (leads_nowhere nexts n past)))
    ];
    closed = λ n e m is leads. elim (cases_lt n (length nexts)) [
      | inl inside ↦ absurd (let no = ap ends (sym (open_at nexts n (mark.Ends n) inside) ∙ is) in cc)
      | inr past ↦ absurd (let no = sym (leads_nowhere nexts n past) ∙ leads in cc)
    ];
    met = λ n k is. elim (cases_lt n (length nexts)) [
      | inl inside ↦ absurd (let no = ap meets (sym (open_at nexts n (mark.Ends n) inside) ∙ is) in cc)
      | inr past ↦ absurd (let no = ap meets (sym (past_at nexts n past) ∙ is) in cc)
    ];
  };
  empty = refl;
}

pub ends_more : (nexts : List (Option ℕ)) (known : List ℕ) (end start : ℕ) → length known ≡ start → ((n : ℕ) → n < start → IsFirstEnd nexts n (get_or known n n)) →
    IsFirstEnd nexts start end → (n : ℕ) → n < start + 1 → IsFirstEnd nexts n (get_or (known ++ end ∷ []) n n)
ends_more nexts known end start many each first n below =
    elim (cases_eq n start) [
      | inl same ↦
          let here : get_or (known ++ end ∷ []) n n ≡ end = ap (λ (k : ℕ). get_or (known ++ end ∷ []) k n) (same ∙ sym many) ∙ get_or-append_seam known end [] n in
          rw here (subst (λ (row : ℕ). IsFirstEnd nexts row end) (sym same) first)
      | inr other ↦
          let before : n < start = omega arith in
          rw (get_or_append_left known (end ∷ []) n n (omega arith)) (each n before)
    ]

pub ends_all : (nexts : List (Option ℕ)) (known : List ℕ) (start : ℕ) → length known ≡ start → ((n : ℕ) → n < start → IsFirstEnd nexts n (get_or known n n)) →
    length nexts ≤ start → AreEnds nexts known
ends_all nexts known start many each all n =
    elim (cases_lt n start) [
      | inl inside ↦ each n inside
      | inr past ↦ rw (get_or_past known n n (omega arith)) (is_end nexts n (inl (leads_nowhere nexts n (omega arith))))
    ]

pub opened_more : (nexts : List (Option ℕ)) (marks more : List Mark) (i : ℕ) → i < length nexts → more ≡ marks ++ mark.Open ∷ [] →
    marks ++ open_marks (drop i nexts) ≡ open_marks nexts → more ++ open_marks (drop (i + 1) nexts) ≡ open_marks nexts
opened_more nexts marks more i inside is before =
    let step : drop i nexts ≡ get_or nexts i None ∷ drop (i + 1) nexts = rw (add-one) (drop-cons nexts i None inside) in
    ap (λ (rows : List Mark). rows ++ open_marks (drop (i + 1) nexts)) is
    ∙ (append_assoc marks (mark.Open ∷ []) (open_marks (drop (i + 1) nexts)) ∙ (ap (λ (rest : List (Option ℕ)). marks ++ open_marks rest) (sym step) ∙ before))
