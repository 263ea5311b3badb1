-- Rows that show a flaw have one, and where no other row shows one, no other row has one.
use Rattle.std.proofs.Common.{◌≡◌, inl, inr, ℕ, zero, suc, ◌+◌, ◌<◌, ◌≤◌, Bool, true, false, not, cond, List, [], ◌∷◌, length, set, Option, Some, None, refl, sym, ap, subst, ◌∙◌, arith}
use Rattle.std.specs.List.{count_by, list_any, Contains}
use Rattle.std.specs.Option.{option_and_then}
use Rattle.std.proofs.lemmas.Option.{slice_get_past}
use Rattle.std.proofs.Math.ListN.{length-set}
use Rattle.std.proofs.lemmas.Bool.{cases_eq, cases_lt, cases_Bool}
use Rattle.std.proofs.lemmas.List.{get_or-set_other, get_or_past, length-map}
use Rattle.std.proofs.lemmas.List.Folds.{Any-from_list_any, list_any-from_Any}
use Rattle.std.proofs.lemmas.List.Sums.{sum_by-set}
use Rattle.aadl_names.specs.Meanings.{at_row}
use Rattle.aadl_typing.specs.Flaws.{LeadsToFlaw, HasFlaw, flaw_at, AreFlaws}
use Rattle.aadl_typing.specs.Marked.{shows_flaw, no_flaws, flawless_count, IsSound, AreDone}

-- what is not marked is a row
row_inside : (flaws : List Bool) (n : ℕ) → flaw_at flaws n ≡ false → n < length flaws
row_inside flaws n unmarked =
    elim (cases_lt n (length flaws)) [
      | inl inside ↦ inside
      | inr past ↦ absurd (let no = sym (get_or_past flaws n true past) ∙ unmarked in cc)
    ]

shows_has : (rows : List (Option (List ℕ))) (flaws : List Bool) (n : ℕ) (o : Option (List ℕ)) → IsSound rows flaws → at_row rows n ≡ o → shows_flaw flaws o ≡ true → HasFlaw rows n
shows_has rows flaws n None sound here shows = ([], here)
shows_has rows flaws n (Some leads) sound here shows =
    let any = Any-from_list_any (flaw_at flaws) leads shows in
    let rest = sound.sound any.1 any.4 in
    (any.1 ∷ rest.0, (record { leads = leads; known = here; among = (any.0, any.2, any.3) }, rest.1))

pub sound_with : (rows : List (Option (List ℕ))) (flaws : List Bool) (n : ℕ) → IsSound rows flaws → flaw_at flaws n ≡ false → shows_flaw flaws (at_row rows n) ≡ true →
    IsSound rows (set flaws n true)
sound_with rows flaws n sound unmarked shows = record {
  long = length-set flaws n true ∙ sound.long;
  sound = λ k marked. elim (cases_eq k n) [
    | inl same ↦ subst (HasFlaw rows) (sym same) (shows_has rows flaws n (at_row rows n) sound refl shows)
    | inr other ↦ sound.sound k (sym (get_or-set_other flaws n k true true other) ∙ marked)
  ];
}

pub fewer_with : (flaws : List Bool) (n : ℕ) → flaw_at flaws n ≡ false → flawless_count (set flaws n true) < flawless_count flaws
fewer_with flaws n unmarked =
    let change : count_by not (set flaws n true) + 1 ≡ count_by not flaws + 0 =
    subst (λ (b : Bool). count_by not (set flaws n true) + cond (not b) 1 0 ≡ count_by not flaws + 0) unmarked
    (sum_by-set (λ (b : Bool). cond (not b) 1 0) flaws n true true (row_inside flaws n unmarked)) in
    omega arith

-- no row of a list of which none is marked
none_marked : (flaws : List Bool) (leads : List ℕ) (m : ℕ) → list_any (flaw_at flaws) leads ≡ false → Contains leads m → flaw_at flaws m ≡ false
none_marked flaws leads m none among =
    elim (cases_Bool (flaw_at flaws m)) [
      | inl marked ↦ absurd (let no = sym (list_any-from_Any (flaw_at flaws) leads (among.0, m, among.1, among.2, marked)) ∙ none in cc)
      | inr unmarked ↦ unmarked
    ]

flawless : (rows : List (Option (List ℕ))) (flaws : List Bool) → length flaws ≡ length rows → AreDone rows flaws → (between : List ℕ) (n : ℕ) → flaw_at flaws n ≡ false →
    LeadsToFlaw rows n between → ⊥
flawless rows flaws long done [] n unmarked nothing =
    let inside = row_inside flaws n unmarked in
    absurd (let no = sym (ap (shows_flaw flaws) nothing) ∙ done n (omega arith) unmarked in cc)
flawless rows flaws long done (m ∷ between) n unmarked way =
    let inside = row_inside flaws n unmarked in
    let above = way.0 in
    let none : list_any (flaw_at flaws) above.leads ≡ false = sym (ap (shows_flaw flaws) above.known) ∙ done n (omega arith) unmarked in
    flawless rows flaws long done between m (none_marked flaws above.leads m none above.among) way.1

pub are_flaws : (rows : List (Option (List ℕ))) (flaws : List Bool) → IsSound rows flaws → AreDone rows flaws → AreFlaws rows flaws
are_flaws rows flaws sound done n = (
  sound.sound n,
  λ has. elim (cases_Bool (flaw_at flaws n)) [
    | inl marked ↦ marked
    | inr unmarked ↦ absurd (flawless rows flaws sound.long done has.0 n unmarked has.1)
  ],
)

unmarked_at : (rows : List (Option (List ℕ))) (n : ℕ) → n < length rows → flaw_at (no_flaws rows) n ≡ false
unmarked_at [] n inside = absurd (omega arith)
unmarked_at (row ∷ rows) zero inside = refl
unmarked_at (row ∷ rows) (suc n) inside = unmarked_at rows n (omega arith)

pub sound_none : (rows : List (Option (List ℕ))) → IsSound rows (no_flaws rows)
sound_none rows = record {
  long = length-map rows (λ row. false);
  sound = λ n marked. elim (cases_lt n (length rows)) [
    | inl inside ↦ absurd (let no = sym (unmarked_at rows n inside) ∙ marked in cc)
    | inr past ↦ ([], past_none rows n past)
  ];
}
  where
    past_none : (rows : List (Option (List ℕ))) (n : ℕ) → length rows ≤ n → at_row rows n ≡ None
    past_none rows n past = ap (option_and_then (λ (found : Option (List ℕ)). found)) (slice_get_past rows n past)
