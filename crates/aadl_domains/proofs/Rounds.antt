-- Counts by depth.
use Rattle.std.proofs.Common.{◌≡◌, inl, inr, ℕ, zero, suc, ◌+◌, ◌<◌, List, [], ◌∷◌, ◌++◌, length, get_or, sym, ap, subst, ◌∙◌, arith}
use Rattle.std.proofs.lemmas.Bool.{cases_lt}
use Rattle.std.proofs.lemmas.List.{get_or_push, get_or_append_left, get_or_default, length_push}
use Rattle.aadl_names.specs.declared.resolved.Resolved.{Resolved}
use Rattle.aadl_names.specs.declared.tables.Tables.{Tables}
use Rattle.aadl_domains.specs.declared.sought.Sought.{Sought}
use Rattle.aadl_domains.specs.Components.{components_within}
use Rattle.aadl_domains.specs.Counting.{count_of, AreCounts, AreRounds}

abbrev Counts : ℕ → List ℕ → Sought → Tables → Resolved → Type 0
Counts depth counts asked t to = AreCounts counts (components_within asked t to depth)

at_first : (asked : Sought) (t : Tables) (to : Resolved) (none : List ℕ) → ((n : ℕ) → count_of none n ≡ 0) → (depth : ℕ) → depth < 1 →
    AreCounts (get_or (none ∷ []) depth []) (components_within asked t to depth)
at_first asked t to none zeros zero below = zeros
at_first asked t to none zeros (suc depth) below = absurd (omega arith)

pub first_round : (asked : Sought) (t : Tables) (to : Resolved) (none : List ℕ) (rounds : List (List ℕ)) → ((n : ℕ) → count_of none n ≡ 0) → rounds ≡ none ∷ [] →
    AreRounds asked t to rounds
first_round asked t to none rounds zeros are = rw are (at_first asked t to none zeros)

pub more_rounds : (asked : Sought) (t : Tables) (to : Resolved) (rounds after : List (List ℕ)) (next : List ℕ) (depth : ℕ) → AreRounds asked t to rounds →
    length rounds ≡ depth → AreCounts next (components_within asked t to depth) → after ≡ rounds ++ next ∷ [] → AreRounds asked t to after
more_rounds asked t to rounds after next many old long new are = rw are (λ (depth : ℕ) below.
    let more = length_push rounds next in
    elim (cases_lt depth (length rounds)) [
      | inl before ↦ subst (λ (counts : List ℕ). Counts depth counts asked t to) (sym (get_or_append_left rounds (next ∷ []) [] depth before)) (old depth before)
      | inr last ↦
          let here : depth ≡ many = omega arith in
          subst (λ (i : ℕ). Counts i (get_or (rounds ++ next ∷ []) i []) asked t to) (sym here)
          (subst (λ (counts : List ℕ). Counts many counts asked t to) (sym (get_or_push rounds next [] many long)) new)
    ])

-- the counts that were read
pub round_at : (asked : Sought) (t : Tables) (to : Resolved) (rounds rows : List (List ℕ)) (below : List ℕ) (depth : ℕ) → AreRounds asked t to rounds →
    rows ≡ rounds → below ≡ get_or rows depth below → depth < length rounds → AreCounts below (components_within asked t to depth)
round_at asked t to rounds rows below depth are same is within =
    subst (λ (counts : List ℕ). Counts depth counts asked t to)
    (sym (is ∙ (ap (λ (all : List (List ℕ)). get_or all depth below) same ∙ get_or_default rounds depth below [] within))) (are depth within)

pub next_round : (asked : Sought) (t : Tables) (to : Resolved) (counts : List ℕ) (depth : ℕ) → AreCounts counts (components_within asked t to (suc depth)) →
    AreCounts counts (components_within asked t to (depth + 1))
next_round asked t to counts depth are = subst (λ (d : ℕ). Counts d counts asked t to) (let e : suc depth ≡ depth + 1 = omega arith in e) are
