-- How far a search has come, and what it finds.
use Rattle.std.proofs.Common.{◌≡◌, ℕ, ◌+◌, ◌<◌, ◌≤◌, List, [], ◌∷◌, ◌++◌, length, get_or, sym, subst, ap, ◌∙◌, ◌⊎◌, inl, inr, arith, below_more, length-append}
use Rattle.std.specs.List.{Contains, All}
use Rattle.std.proofs.lemmas.Bool.{cases_lt}
use Rattle.std.proofs.lemmas.List.{get_or_append_left, get_or_default}
use Rattle.std.proofs.lemmas.List.Elements.{All-append, All-weaker, All-contains, All-same}
use Rattle.aadl_loops.specs.Met.{Met, Meets}
use Rattle.aadl_loops.specs.Loops.{leads_of, IsOnLoop}
use Rattle.aadl_loops.proofs.Marks.{IsFollowed, only_one, stays_met, followed_later}
use Rattle.aadl_loops.proofs.Ways.{IsAhead, one_further, no_way, leads_nowhere}

-- all that was met lies ahead of the row, and the first so many of them were followed
pub record IsSearched (edges : List (List ℕ)) (row : ℕ) (met : Met) (at : ℕ) : Type 0 where
  pub limit : met.limit ≡ length edges
  pub begun : Contains met.rows row
  pub ahead : All (IsAhead edges row) met.rows
  pub reached : at ≤ length met.rows
  pub followed : (k : ℕ) → k < at → All (IsFollowed row met) (leads_of edges (get_or met.rows k 0))

-- the row met as the one of this number is ahead
ahead_at : (edges : List (List ℕ)) (row : ℕ) (met : Met) (at next : ℕ) → IsSearched edges row met at → at < length met.rows → next ≡ get_or met.rows at 0 → IsAhead edges row next
ahead_at edges row met at next searched inside is = subst (IsAhead edges row) (sym is) (searched.ahead at 0 inside)

-- it leads back
pub search_found : (edges : List (List ℕ)) (row : ℕ) (met : Met) (at next : ℕ) (leads : List ℕ) → IsSearched edges row met at → at < length met.rows →
    next ≡ get_or met.rows at 0 → leads ≡ leads_of edges next → Contains leads row → IsOnLoop edges row
search_found edges row met at next leads searched inside is are back =
    one_further edges row next row (ahead_at edges row met at next searched inside is) (subst (λ (rows : List ℕ). Contains rows row) are back)

-- it does not, and what it leads to was met
pub search_more : (edges : List (List ℕ)) (row : ℕ) (old new : Met) (at next : ℕ) (leads : List ℕ) → IsSearched edges row old at → at < length old.rows →
    next ≡ get_or old.rows at 0 → leads ≡ leads_of edges next → Meets old new leads → All (IsFollowed row new) leads → IsSearched edges row new (at + 1)
search_more edges row old new at next leads searched inside is are meets followed =
    let many : length new.rows ≡ length old.rows + length meets.more = ap length meets.rows ∙ length-append old.rows meets.more in
    let ahead = ahead_at edges row old at next searched inside is in
    let same : (k : ℕ) → k < length old.rows → get_or new.rows k 0 ≡ get_or old.rows k 0 =
    λ k below. ap (λ (rows : List ℕ). get_or rows k 0) meets.rows ∙ get_or_append_left old.rows meets.more 0 k below in
    record {
      limit = meets.limit ∙ searched.limit;
      begun = stays_met old new leads row meets searched.begun;
      ahead = All-same (IsAhead edges row) new.rows (old.rows ++ meets.more) meets.rows (All-append (IsAhead edges row) old.rows meets.more searched.ahead
          (All-weaker (Contains leads) (IsAhead edges row) (λ r lead. inr (one_further edges row next r ahead (subst (λ (rows : List ℕ). Contains rows r) are lead))) meets.more meets.each));
      reached = omega arith;
      followed = below_more (λ (k : ℕ). All (IsFollowed row new) (leads_of edges (get_or new.rows k 0))) at
          (λ k below. subst (λ (r : ℕ). All (IsFollowed row new) (leads_of edges r)) (sym (same k (omega (arith, searched.reached))))
          (All-weaker (IsFollowed row old) (IsFollowed row new) (λ r was. followed_later old new leads row r meets was) (leads_of edges (get_or old.rows k 0)) (searched.followed k below)))
          (subst (λ (r : ℕ). All (IsFollowed row new) (leads_of edges r)) (is ∙ sym (same at inside)) (All-same (IsFollowed row new) (leads_of edges next) leads (sym are) followed));
    }

-- the end: nothing that was met leads back
pub search_ended : (edges : List (List ℕ)) (row : ℕ) (met : Met) (at : ℕ) → IsSearched edges row met at → length met.rows ≤ at → IsOnLoop edges row → ⊥
search_ended edges row met at searched ended loop =
    no_way edges row (λ (r : ℕ). (length edges ≤ r) ⊎ Contains met.rows r)
    (λ a b within lead. elim within [
      | inl past ↦ absurd (leads_nowhere edges a b past lead)
      | inr here ↦
          let row_is = get_or_default met.rows here.0 0 a here.1 ∙ here.2 in
          let followed = subst (λ (r : ℕ). All (IsFollowed row met) (leads_of edges r)) row_is (searched.followed here.0 (omega (arith, here.1))) in
          let one = All-contains (IsFollowed row met) (leads_of edges a) b followed lead in (
            one.0,
            elim (cases_lt b (length edges)) [
              | inl inside ↦ inr (one.1 (subst (λ (n : ℕ). b < n) (sym searched.limit) inside))
              | inr past ↦ inl past
            ],
          )
    ])
    loop.0 row (inr searched.begun) loop.1

-- the beginning: the row alone was met
pub search_begins : (edges : List (List ℕ)) (row : ℕ) (start met : Met) → row < length edges → start ≡ record { limit = length edges; rows = [] } →
    Meets start met (row ∷ []) → (row < start.limit → Contains met.rows row) → IsSearched edges row met 0
search_begins edges row start met inside are meets begun =
    let limit : start.limit ≡ length edges = ap (λ (m : Met). m.limit) are in
    let rows : start.rows ≡ [] = ap (λ (m : Met). m.rows) are in
    record {
      limit = meets.limit ∙ limit;
      begun = begun (subst (λ (n : ℕ). row < n) (sym limit) inside);
      ahead = All-same (IsAhead edges row) met.rows meets.more (meets.rows ∙ ap (λ (xs : List ℕ). xs ++ meets.more) rows)
          (All-weaker (Contains (row ∷ [])) (IsAhead edges row) (λ r is. inl (sym (only_one row r is))) meets.more meets.each);
      reached = omega arith;
      followed = λ k below. absurd (omega arith);
    }
