-- Rows that were met, and their marks.
use Rattle.std.proofs.Common.{◌≡◌, ◌≢◌, ℕ, ◌+◌, ◌<◌, Bool, true, false, cond, List, [], ◌∷◌, ◌++◌, length, get_or, set, refl, sym, subst, ap, ◌∙◌, inl, inr, arith, below_more, get_or-set_other, length-append, append_assoc, append-nil}
use Rattle.std.specs.List.{Contains, count_by}
use Rattle.std.proofs.Math.ListN.{length-set}
use Rattle.std.proofs.lemmas.Bool.{cases_eq}
use Rattle.std.proofs.lemmas.List.Elements.{Contains-push, Contains-append_left, All-nil, All-push, All-append, All-weaker}
use Rattle.std.proofs.lemmas.List.Sums.{sum_by-set}
use Rattle.aadl_loops.specs.Met.{Met, Meets, AreMarked}

-- one row more is marked and kept
pub marked_more : (marks marks' : List Bool) (rows rows' : List ℕ) (row : ℕ) → AreMarked marks rows → row < length marks → get_or marks row false ≡ false →
    marks' ≡ set marks row true → rows' ≡ rows ++ row ∷ [] → AreMarked marks' rows'
marked_more marks marks' rows rows' row old inside unmarked are kept =
    let many : length (set marks row true) ≡ length marks = length-set marks row true in
    let counts : count_by (λ (b : Bool). b) (set marks row true) + 0 ≡ count_by (λ (b : Bool). b) marks + 1 =
    subst (λ (had : Bool). count_by (λ (b : Bool). b) (set marks row true) + cond had 1 0 ≡ count_by (λ (b : Bool). b) marks + 1) unmarked
    (sum_by-set (λ (b : Bool). cond b 1 0) marks row true false inside) in
    let one : length (rows ++ row ∷ []) ≡ length rows + 1 = length-append rows (row ∷ []) in
    let counted = old.counted in
    rw (are, kept) record {
      told = λ k marked. elim (cases_eq k row) [
        | inl same ↦ subst (λ (r : ℕ). Contains (rows ++ row ∷ []) r) (sym same) (Contains-push rows row)
        | inr other ↦ Contains-append_left rows (row ∷ []) k (old.told k (rw get_or-set_other at marked))
      ];
      counted = omega arith;
      inside = rw many (All-push (λ (r : ℕ). r < length marks) rows row old.inside inside);
    }

pub meets_none : (met : Met) (among : List ℕ) → Meets met met among
meets_none met among = record { limit = refl; more = []; rows = sym (append-nil met.rows); each = All-nil (Contains among) }

pub meets_one : (old new : Met) (row : ℕ) → new.limit ≡ old.limit → new.rows ≡ old.rows ++ row ∷ [] → Meets old new (row ∷ [])
meets_one old new row limit rows = record { limit = limit; more = row ∷ []; rows = rows; each = All-push (Contains (row ∷ [])) [] row (All-nil (Contains (row ∷ []))) (Contains-push [] row) }

-- the only one of a list of one
pub only_one : (row r : ℕ) → Contains (row ∷ []) r → r ≡ row
only_one row r found =
    let none : found.0 ≡ 0 = let below : found.0 < 1 = found.1 in omega arith in
    sym (subst (λ (k : ℕ). get_or (row ∷ []) k r ≡ r) none found.2)

pub meets_then : (start before after : Met) (leads : List ℕ) (lead : ℕ) → Meets start before leads → Contains leads lead → Meets before after (lead ∷ []) → Meets start after leads
meets_then start before after leads lead old among new = record {
  limit = new.limit ∙ old.limit;
  more = old.more ++ new.more;
  rows = new.rows ∙ (ap (λ (rows : List ℕ). rows ++ new.more) old.rows ∙ append_assoc start.rows old.more new.more);
  each = All-append (Contains leads) old.more new.more old.each
      (All-weaker (Contains (lead ∷ [])) (Contains leads) (λ r is. subst (Contains leads) (sym (only_one lead r is)) among) new.more new.each);
}

-- a row that was met stays so
pub stays_met : (old new : Met) (among : List ℕ) (row : ℕ) → Meets old new among → Contains old.rows row → Contains new.rows row
stays_met old new among row meets met = subst (λ (rows : List ℕ). Contains rows row) (sym meets.rows) (Contains-append_left old.rows meets.more row met)

-- the row does not lead back, and is met where it is one of the graph
abbrev pub IsFollowed : ℕ → Met → ℕ → Type 0
IsFollowed row met lead = (lead ≢ row) × (lead < met.limit → Contains met.rows lead)

pub followed_later : (old new : Met) (among : List ℕ) (row lead : ℕ) → Meets old new among → IsFollowed row old lead → IsFollowed row new lead
followed_later old new among row lead meets followed =
    (followed.0, λ inside. stays_met old new among lead meets (followed.1 (subst (λ (n : ℕ). lead < n) meets.limit inside)))

pub followed_more : (leads : List ℕ) (i row lead : ℕ) (old new : Met) → lead ≡ get_or leads i 0 → Meets old new (lead ∷ []) → lead ≢ row →
    (lead < old.limit → Contains new.rows lead) → ((k : ℕ) → k < i → IsFollowed row old (get_or leads k 0)) →
    (k : ℕ) → k < i + 1 → IsFollowed row new (get_or leads k 0)
followed_more leads i row lead old new is meets other met before =
    below_more (λ (k : ℕ). IsFollowed row new (get_or leads k 0)) i
    (λ k below. followed_later old new (lead ∷ []) row (get_or leads k 0) meets (before k below))
    (subst (IsFollowed row new) is (other, λ inside. met (subst (λ (n : ℕ). lead < n) meets.limit inside)))
