-- A walk, step by step, and back.
use Rattle.std.proofs.Common.{◌≡◌, ◌≢◌, ◌⊎◌, inl, ℕ, suc, ◌+◌, ◌<◌, ◌≤◌, List, [], ◌∷◌, ◌++◌, length, set, Option, Some, None, refl, sym, ap, subst, ◌∙◌, arith, length-append}
use Rattle.std.specs.List.{slice_get}
use Rattle.aadl_typing.specs.declared.marks.Mark.{Mark}
use Rattle.aadl_typing.specs.declared.marks.Mark.TheVariants as mark
use Rattle.aadl_names.specs.Meanings.{at_row}
use Rattle.aadl_typing.specs.Marks.{mark_at, AreRight, IsChain, IsWalking, IsEnded, IsAtRest}
use Rattle.aadl_typing.proofs.Chains.{some_same, get_left, get_last, chain_one, chain_push, chain_pop}
use Rattle.aadl_typing.proofs.Marking.{mark_here, row_inside}
use Rattle.aadl_typing.proofs.Stepping.{is_end, first_end_before, no_end, right_ends, right_met, right_pop, right_ring, is_unknown}

pub walk_begun : (nexts : List (Option ℕ)) (marks : List Mark) (path : List ℕ) (start : ℕ) → IsAtRest nexts marks path → IsWalking nexts marks path start start
walk_begun nexts marks path start rest = record {
  marked = rest.marked;
  chain = subst (λ (rows : List ℕ). IsChain nexts (rows ++ start ∷ [])) (sym rest.empty) (chain_one nexts start);
  from = ap (λ (rows : List ℕ). slice_get (rows ++ start ∷ []) 0) rest.empty;
}

-- a row that leads nowhere
pub walk_stops : (nexts : List (Option ℕ)) (marks : List Mark) (path : List ℕ) (start at : ℕ) → IsWalking nexts marks path start at → mark_at marks at ≡ mark.Open →
    at_row nexts at ≡ None → IsEnded nexts (set marks at (mark.Ends at)) path start at
walk_stops nexts marks path start at walking unmarked nowhere =
    let inside = row_inside marks at (is_unknown (mark_at marks at) at unmarked) in
    record {
      walking = record {
        marked = right_ends nexts marks path at at walking.marked inside (is_end nexts at (inl nowhere)) (λ m leads. absurd (let no = sym nowhere ∙ leads in cc));
        chain = walking.chain;
        from = walking.from;
      };
      end = at;
      ended = mark_here marks at at (mark.Ends at) inside refl;
    }

-- one row further
pub walk_on : (nexts : List (Option ℕ)) (marks : List Mark) (path : List ℕ) (start at next : ℕ) → IsWalking nexts marks path start at → mark_at marks at ≡ mark.Open →
    at_row nexts at ≡ Some next → IsWalking nexts (set marks at (mark.Met (length path))) (path ++ at ∷ []) start next
walk_on nexts marks path start at next walking unmarked leads = record {
  marked = right_met nexts marks path at walking.marked (row_inside marks at (is_unknown (mark_at marks at) at unmarked)) unmarked;
  chain = chain_push nexts path at next walking.chain leads;
  from = get_left (path ++ at ∷ []) (next ∷ []) 0 start walking.from;
}

-- a row of the walk itself
pub walk_closes : (nexts : List (Option ℕ)) (marks marks' : List Mark) (path : List ℕ) (start at place : ℕ) → IsWalking nexts marks path start at →
    mark_at marks at ≡ mark.Met place → length marks' ≡ length marks →
    ((k x : ℕ) → place ≤ k → slice_get path k ≡ Some x → mark_at marks' x ≡ mark.Ends x) →
    ((x : ℕ) → ((k : ℕ) × (place ≤ k) × (slice_get path k ≡ Some x)) ⊎ (mark_at marks' x ≡ mark_at marks x)) → IsEnded nexts marks' path start at
walk_closes nexts marks marks' path start at place walking met long ring others =
    let back = walking.marked.met at place met in
    record {
      walking = record {
        marked = right_ring nexts marks marks' path at place walking.marked walking.chain back long ring others;
        chain = walking.chain;
        from = walking.from;
      };
      end = at;
      ended = ring place at (omega arith) back;
    }

from_pop : (rows : List ℕ) (at start : ℕ) → 0 < length rows → slice_get (rows ++ at ∷ []) 0 ≡ Some start → slice_get rows 0 ≡ Some start
from_pop [] at start some is = absurd (omega arith)
from_pop (x ∷ rows) at start some is = is

-- back to the last row of the walk
pub walk_back : (nexts : List (Option ℕ)) (marks marks' : List Mark) (path : List ℕ) (start row next end : ℕ) → IsEnded nexts marks (path ++ row ∷ []) start next →
    AreRight nexts marks' path → mark_at marks' row ≡ mark.Ends end → IsEnded nexts marks' path start row
walk_back nexts marks marks' path start row next end ended right known =
    let many : length (path ++ row ∷ []) ≡ length path + 1 = length-append path (row ∷ []) in
    record {
      walking = record {
        marked = right;
        chain = chain_pop nexts (path ++ row ∷ []) next ended.walking.chain;
        from = from_pop (path ++ row ∷ []) next start (omega arith) ended.walking.from;
      };
      end = end;
      ended = known;
    }

pub leads_next : (nexts : List (Option ℕ)) (path : List ℕ) (row next : ℕ) → IsChain nexts ((path ++ row ∷ []) ++ next ∷ []) → at_row nexts row ≡ Some next
leads_next nexts path row next chain =
    let many : length (path ++ row ∷ []) ≡ suc (length path) = length-append path (row ∷ []) ∙ (omega arith) in
    chain (length path) row next (get_left (path ++ row ∷ []) (next ∷ []) (length path) row (get_last path row))
    (subst (λ (n : ℕ). slice_get ((path ++ row ∷ []) ++ next ∷ []) n ≡ Some next) many (get_last (path ++ row ∷ []) next))

-- where the end of the last row is known already
pub walk_known : (nexts : List (Option ℕ)) (marks : List Mark) (path : List ℕ) (start row next end : ℕ) → IsEnded nexts marks (path ++ row ∷ []) start next →
    mark_at marks row ≡ mark.Ends end → IsEnded nexts marks path start row
walk_known nexts marks path start row next end ended known =
    walk_back nexts marks marks path start row next end ended (right_pop nexts marks path row end ended.walking.marked known) known

-- and where it is that of the row behind it
pub walk_settles : (nexts : List (Option ℕ)) (marks : List Mark) (path : List ℕ) (start row next end : ℕ) → IsEnded nexts marks (path ++ row ∷ []) start next →
    ((f : ℕ) → mark_at marks row ≢ mark.Ends f) → mark_at marks next ≡ mark.Ends end → IsEnded nexts (set marks row (mark.Ends end)) path start row
walk_settles nexts marks path start row next end ended unknown known =
    let marked = ended.walking.marked in
    let leads = leads_next nexts path row next ended.walking.chain in
    let inside = row_inside marks row (unknown row) in
    let first = first_end_before nexts row next end (no_end nexts marks (path ++ row ∷ []) marked row next end unknown leads known) leads (marked.right next end known) in
    let ahead : (m : ℕ) → at_row nexts row ≡ Some m → (f : ℕ) × (mark_at marks m ≡ mark.Ends f) = λ m to. (end, subst (λ (n : ℕ). mark_at marks n ≡ mark.Ends end) (some_same (sym leads ∙ to)) known) in
    let here = mark_here marks row row (mark.Ends end) inside refl in
    walk_back nexts marks (set marks row (mark.Ends end)) path start row next end ended
    (right_pop nexts (set marks row (mark.Ends end)) path row end (right_ends nexts marks (path ++ row ∷ []) row end marked inside first ahead) here) here

-- the whole way back
pub walk_over : (nexts : List (Option ℕ)) (marks : List Mark) (path : List ℕ) (start at : ℕ) → path ≡ [] → IsEnded nexts marks path start at →
    IsAtRest nexts marks path × (at ≡ start)
walk_over nexts marks path start at empty ended =
    (record { marked = ended.walking.marked; empty = empty }, some_same (subst (λ (rows : List ℕ). slice_get (rows ++ at ∷ []) 0 ≡ Some start) empty ended.walking.from))
