-- What each step of a walk keeps.
use Rattle.std.proofs.Common.{◌≡◌, ◌≢◌, ◌⊎◌, inl, inr, ℕ, zero, suc, ◌+◌, ◌<◌, ◌≤◌, List, [], ◌∷◌, ◌++◌, length, get_or, set, Option, Some, None, refl, sym, ap, subst, ◌∙◌, arith, length-append}
use Rattle.std.specs.Option.{option_and_then}
use Rattle.std.specs.List.{slice_get}
use Rattle.std.proofs.Math.ListN.{length-set}
use Rattle.std.proofs.lemmas.Bool.{cases_eq}
use Rattle.std.proofs.lemmas.Option.{slice_get_within, slice_get-get_or}
use Rattle.aadl_typing.specs.declared.marks.Mark.{Mark}
use Rattle.aadl_typing.specs.declared.marks.Mark.TheVariants as mark
use Rattle.aadl_names.specs.Meanings.{at_row}
use Rattle.aadl_typing.specs.Walks.{behind, IsEnd, IsFirstEnd}
use Rattle.aadl_typing.specs.Marks.{mark_at, AreRight, IsChain}
use Rattle.aadl_typing.proofs.Chains.{some_same, get_left, get_last, get_cases, ring_row}
use Rattle.aadl_typing.proofs.Marking.{mark_here, mark_other}

-- the end that a mark tells
abbrev pub ends : Mark → Option ℕ
ends mark.Open = None
ends (mark.Met k) = None
ends (mark.Ends e) = Some e

abbrev pub meets : Mark → Option ℕ
meets mark.Open = None
meets (mark.Met k) = Some k
meets (mark.Ends e) = None

pub is_unknown : (m : Mark) (e : ℕ) → m ≡ mark.Open → m ≢ mark.Ends e
is_unknown m e is other = let no = ap ends (sym is ∙ other) in absurd (cc)

pub is_end : (nexts : List (Option ℕ)) (n : ℕ) → IsEnd nexts n → IsFirstEnd nexts n n
is_end nexts n end = ([], (refl, end))

-- one step further from a row that is no end
pub first_end_before : (nexts : List (Option ℕ)) (n m end : ℕ) → (IsEnd nexts n → ⊥) → at_row nexts n ≡ Some m → IsFirstEnd nexts m end → IsFirstEnd nexts n end
first_end_before nexts n m end other leads rest = (m ∷ rest.0, (other, leads, rest.1))

-- from a row of which the end is known all rows ahead have theirs known
known_ahead : (nexts : List (Option ℕ)) (marks : List Mark) (path : List ℕ) → AreRight nexts marks path → (k n e m : ℕ) → mark_at marks n ≡ mark.Ends e →
    behind nexts k n ≡ Some m → (f : ℕ) × (mark_at marks m ≡ mark.Ends f)
known_ahead nexts marks path right zero n e m known is = (e, subst (λ (row : ℕ). mark_at marks row ≡ mark.Ends e) (some_same is) known)
known_ahead nexts marks path right (suc k) n e m known is =
    known_from (at_row nexts n) refl is (λ next leads reached. let one = right.closed n e next known leads in known_ahead nexts marks path right k next one.0 m one.1 reached)
  where
    known_from : (o : Option ℕ) → at_row nexts n ≡ o → option_and_then (behind nexts k) o ≡ Some m →
        ((next : ℕ) → at_row nexts n ≡ Some next → behind nexts k next ≡ Some m → (f : ℕ) × (mark_at marks m ≡ mark.Ends f)) → (f : ℕ) × (mark_at marks m ≡ mark.Ends f)
    known_from None leads reached on = absurd (cc)
    known_from (Some next) leads reached on = on next leads reached

-- a row of which the end is not known, where that of the next one is, is no end
pub no_end : (nexts : List (Option ℕ)) (marks : List Mark) (path : List ℕ) → AreRight nexts marks path → (n m e : ℕ) → ((f : ℕ) → mark_at marks n ≢ mark.Ends f) →
    at_row nexts n ≡ Some m → mark_at marks m ≡ mark.Ends e → IsEnd nexts n → ⊥
no_end nexts marks path right n m e unknown leads known (inl nowhere) = absurd (let no = sym nowhere ∙ leads in cc)
no_end nexts marks path right n m e unknown leads known (inr ring) =
    let round : behind nexts ring.0 m ≡ Some n = ap (option_and_then (behind nexts ring.0)) (sym leads) ∙ ring.1 in
    let own = known_ahead nexts marks path right ring.0 m e n known round in
    unknown own.0 own.1

-- a row more of which the end is known
stays_known : (marks : List Mark) (n e m f : ℕ) → n < length marks → mark_at marks m ≡ mark.Ends f → (g : ℕ) × (mark_at (set marks n (mark.Ends e)) m ≡ mark.Ends g)
stays_known marks n e m f inside known =
    elim (cases_eq m n) [
      | inl same ↦ (e, mark_here marks n m (mark.Ends e) inside same)
      | inr other ↦ (f, mark_other marks n m (mark.Ends e) other ∙ known)
    ]

pub right_ends : (nexts : List (Option ℕ)) (marks : List Mark) (path : List ℕ) (n e : ℕ) → AreRight nexts marks path → n < length marks → IsFirstEnd nexts n e →
    ((m : ℕ) → at_row nexts n ≡ Some m → (f : ℕ) × (mark_at marks m ≡ mark.Ends f)) → AreRight nexts (set marks n (mark.Ends e)) path
right_ends nexts marks path n e right inside first ahead = record {
  long = length-set marks n (mark.Ends e) ∙ right.long;
  right = λ k f is. elim (cases_eq k n) [
    | inl same ↦
        let told : e ≡ f = some_same (ap ends (sym (mark_here marks n k (mark.Ends e) inside same) ∙ is)) in
        subst (λ (row : ℕ). IsFirstEnd nexts row f) (sym same) (subst (IsFirstEnd nexts n) told first)
    | inr other ↦ right.right k f (sym (mark_other marks n k (mark.Ends e) other) ∙ is)
  ];
  closed = λ k f m is leads. elim (cases_eq k n) [
    | inl same ↦ let next = ahead m (subst (λ (row : ℕ). at_row nexts row ≡ Some m) same leads) in stays_known marks n e m next.0 inside next.1
    | inr other ↦ let next = right.closed k f m (sym (mark_other marks n k (mark.Ends e) other) ∙ is) leads in stays_known marks n e m next.0 inside next.1
  ];
  met = λ k j is. elim (cases_eq k n) [
    | inl same ↦ absurd (let no = ap ends (sym (mark_here marks n k (mark.Ends e) inside same) ∙ is) in cc)
    | inr other ↦ right.met k j (sym (mark_other marks n k (mark.Ends e) other) ∙ is)
  ];
}

-- the row is met
pub right_met : (nexts : List (Option ℕ)) (marks : List Mark) (path : List ℕ) (at : ℕ) → AreRight nexts marks path → at < length marks → mark_at marks at ≡ mark.Open →
    AreRight nexts (set marks at (mark.Met (length path))) (path ++ at ∷ [])
right_met nexts marks path at right inside unmarked = record {
  long = length-set marks at (mark.Met (length path)) ∙ right.long;
  right = λ k f is. elim (cases_eq k at) [
    | inl same ↦ absurd (let no = ap ends (sym (mark_here marks at k (mark.Met (length path)) inside same) ∙ is) in cc)
    | inr other ↦ right.right k f (sym (mark_other marks at k (mark.Met (length path)) other) ∙ is)
  ];
  closed = λ k f m is leads. elim (cases_eq k at) [
    | inl same ↦ absurd (let no = ap ends (sym (mark_here marks at k (mark.Met (length path)) inside same) ∙ is) in cc)
    | inr other ↦
        let next = right.closed k f m (sym (mark_other marks at k (mark.Met (length path)) other) ∙ is) leads in
        (next.0, mark_other marks at m (mark.Met (length path)) (λ same. let no = ap ends (sym unmarked ∙ subst (λ (row : ℕ). mark_at marks row ≡ mark.Ends next.0) same next.1) in absurd (cc)) ∙ next.1)
  ];
  met = λ k j is. elim (cases_eq k at) [
    | inl same ↦
        let place : length path ≡ j = some_same (ap meets (sym (mark_here marks at k (mark.Met (length path)) inside same) ∙ is)) in
        subst (λ (n : ℕ). slice_get (path ++ at ∷ []) n ≡ Some k) place (get_last path at ∙ ap Some (sym same))
    | inr other ↦ get_left path (at ∷ []) j k (right.met k j (sym (mark_other marks at k (mark.Met (length path)) other) ∙ is))
  ];
}

-- the walk without its last row, of which the end is known
pub right_pop : (nexts : List (Option ℕ)) (marks : List Mark) (path : List ℕ) (row f : ℕ) → AreRight nexts marks (path ++ row ∷ []) → mark_at marks row ≡ mark.Ends f →
    AreRight nexts marks path
right_pop nexts marks path row f right known = record {
  long = right.long;
  right = right.right;
  closed = right.closed;
  met = λ k j is. elim (get_cases path row j k (right.met k j is)) [
    | inl before ↦ before
    | inr last ↦ absurd (let no = ap ends (sym known ∙ subst (λ (n : ℕ). mark_at marks n ≡ mark.Met j) (sym last.1) is) in cc)
  ];
}

-- from a place of the walk on all rows are ends of their own
pub right_ring : (nexts : List (Option ℕ)) (marks marks' : List Mark) (path : List ℕ) (at place : ℕ) → AreRight nexts marks path → IsChain nexts (path ++ at ∷ []) →
    slice_get path place ≡ Some at → length marks' ≡ length marks →
    ((k x : ℕ) → place ≤ k → slice_get path k ≡ Some x → mark_at marks' x ≡ mark.Ends x) →
    ((x : ℕ) → ((k : ℕ) × (place ≤ k) × (slice_get path k ≡ Some x)) ⊎ (mark_at marks' x ≡ mark_at marks x)) → AreRight nexts marks' path
right_ring nexts marks marks' path at place right chain back long ring others = record {
  long = long ∙ right.long;
  right = λ x f is. elim (others x) [
    | inl on ↦
        let told : x ≡ f = some_same (ap ends (sym (ring on.0 x on.1 on.2) ∙ is)) in
        subst (IsFirstEnd nexts x) told (is_end nexts x (inr (ring_row nexts path at place on.0 x chain back on.1 on.2)))
    | inr same ↦ right.right x f (sym same ∙ is)
  ];
  closed = λ x f m is leads. elim (others x) [
    | inl on ↦ ring_known on.0 x m on.1 on.2 leads
    | inr same ↦ let next = right.closed x f m (sym same ∙ is) leads in stays next.0 m next.1
  ];
  met = λ x j is. elim (others x) [
    | inl on ↦ absurd (let no = ap ends (sym (ring on.0 x on.1 on.2) ∙ is) in cc)
    | inr same ↦ right.met x j (sym same ∙ is)
  ];
}
  where
    stays : (f m : ℕ) → mark_at marks m ≡ mark.Ends f → (g : ℕ) × (mark_at marks' m ≡ mark.Ends g)
    stays f m known = elim (others m) [
      | inl on ↦ (m, ring on.0 m on.1 on.2)
      | inr same ↦ (f, same ∙ known)
    ]

    ring_known : (k x m : ℕ) → place ≤ k → slice_get path k ≡ Some x → at_row nexts x ≡ Some m → (g : ℕ) × (mark_at marks' m ≡ mark.Ends g)
    ring_known k x m above is leads =
        let inside = slice_get_within path k x is in
        let many : length (path ++ at ∷ []) ≡ length path + 1 = length-append path (at ∷ []) in
        let next : slice_get (path ++ at ∷ []) (suc k) ≡ Some (get_or (path ++ at ∷ []) (suc k) 0) = slice_get-get_or (path ++ at ∷ []) (suc k) 0 (omega arith) in
        let follows : at_row nexts x ≡ Some (get_or (path ++ at ∷ []) (suc k) 0) = chain k x (get_or (path ++ at ∷ []) (suc k) 0) (get_left path (at ∷ []) k x is) next in
        let same : get_or (path ++ at ∷ []) (suc k) 0 ≡ m = some_same (sym follows ∙ leads) in
        elim (get_cases path at (suc k) m (next ∙ ap Some same)) [
          | inl here ↦ (m, ring (suc k) m (omega arith) here)
          | inr last ↦ (m, subst (λ (row : ℕ). mark_at marks' row ≡ mark.Ends row) last.1 (ring place at (omega arith) back))
        ]
