-- What is printed of a contract is read as the same contract but for places.
use Rattle.std.proofs.Common.{◌≡◌, ◌≤◌, ℕ, zero, suc, List, [], ◌∷◌, take, slice_get, option_and_then, None, Result, Ok, Err, IfOk, refl, sym, subst}
use Rattle.std.proofs.lemmas.Bool.{le-ltb}
use Rattle.hw_text.specs.declared.fault.Fault.{Fault}
use Rattle.hw_text.specs.declared.fault.Fault.TheVariants as fault
use Rattle.hw_text.specs.declared.place.Place.{Place}
use Rattle.hw_text.specs.WholeTexts.{IsTextOf, IsAccepted, IsRejected, IfRefused}
use Rattle.gumbo_parse.specs.declared.contract.Contract.{Contract}
use Rattle.gumbo_parse.specs.declared.flaw.Spot.{Spot}
use Rattle.gumbo_parse.specs.declared.flaw.Spot.TheVariants.{Outside}
use Rattle.gumbo_parse.specs.declared.token.Token.{Token}
use Rattle.gumbo_parse.specs.Allowed.{AreAllowed}
use Rattle.gumbo_parse.specs.Annex.{annex_text}
use Rattle.gumbo_parse.specs.ContractTokens.{contract_tokens}
use Rattle.gumbo_parse.specs.Flaws.{open_behind_token, open_behind, spot_behind, spot_after, length_in, flaw_of}
use Rattle.gumbo_parse.specs.Printed.{at_start, IsWithinLimits}
use Rattle.gumbo_parse.specs.Rules.{contract_rules}
use Rattle.gumbo_parse.specs.Unplaced.{SameContract}
use Rattle.gumbo_parse.specs.Values.{Tokens}
use Rattle.gumbo_parse.proofs.Respelled.{tokens_of}
use Rattle.gumbo_parse.proofs.RespelledContracts.{contract_spelled}
use Rattle.gumbo_parse.proofs.ShortClauses.{Along, contract_leads}
use Rattle.gumbo_parse.proofs.WholeContracts.{not-told}
use Rattle.gumbo_parse.proofs.WrittenContracts.{contract_lexed}

-- a token behind which no more than 64 brackets are open, and which is not too far behind a colon
no-flaw-of : (n : ℕ) (s : Spot) (t : Token) → open_behind_token n t ≤ 64 → length_in (spot_behind s t) ≤ 500 → flaw_of n s t ≡ None
no-flaw-of n s t shallow near = rw (le-ltb 64 (open_behind_token n t) shallow, le-ltb 500 (length_in (spot_behind s t)) near) refl

no-flaws : (n : ℕ) (s e : Spot) (ps : Tokens) (k : ℕ) → ((j : ℕ) → open_behind n (take j (at_start (tokens_of ps))) ≤ 64) → Along s (tokens_of ps) e → option_and_then (λ t. flaw_of (open_behind n (take k ps)) (spot_after s (take k ps)) t.token) (slice_get ps k) ≡ None
no-flaws n s e [] k shallow along = refl
no-flaws n s e (p ∷ ps) zero shallow along = no-flaw-of n s p.token (shallow 1) along.0
no-flaws n s e (p ∷ ps) (suc k) shallow along = no-flaws (open_behind_token n p.token) (spot_behind s p.token) e ps k (λ j. shallow (suc j)) along.1

-- the canonical text of a contract is a text of the same contract but for places
pub printed : (c : Contract) (at : Place) → AreAllowed (contract_tokens c) → IsWithinLimits c → (d : Contract) × IsTextOf (contract_rules at) (annex_text c) d × SameContract c d
printed c at allowed limits =
    let text = contract_lexed c allowed at in
    let read = (contract_spelled c).read text.placed text.same in
    let shallow : (j : ℕ) → open_behind 0 (take j (at_start (tokens_of text.placed))) ≤ 64 =
    λ j. subst (λ (ts : List Token). open_behind 0 (take j (at_start ts)) ≤ 64) (sym text.same) (limits.shallow j) in
    let along : Along Outside (tokens_of text.placed) Outside = subst (λ (ts : List Token). Along Outside ts Outside) (sym text.same) (contract_leads c limits.short).along in (
      read.0,
      record {
        not_told = refl;
        tokens = text.placed;
        end = text.end;
        stop = [];
        lexed = text.lexed;
        ended = refl;
        spelled = read.1;
        sound = λ k. not-told text.placed k (no-flaws 0 Outside Outside text.placed k shallow along);
      },
      sym read.2,
    )

-- what is said of the canonical text of a contract, by what accepts and rejects as it should
pub read_back : (result : Result Contract Fault) (at : Place) (bytes : List ℕ) → IfOk result (λ tree. IsAccepted (contract_rules at) bytes tree) → IfRefused result (λ refusal. IsRejected (contract_rules at) bytes refusal) → (c : Contract) → bytes ≡ annex_text c → AreAllowed (contract_tokens c) → IsWithinLimits c → IfOk result (λ tree. SameContract c tree) × IfRefused result (λ refusal. ⊥)
read_back (Ok tree) at bytes accepted rejected c is allowed limits =
    let text = printed c at allowed limits in
    let same = accepted.only text.0 (subst (λ (bs : List ℕ). IsTextOf (contract_rules at) bs text.0) (sym is) text.1) in
    (subst (λ (d : Contract). SameContract c d) same text.2, tt)
read_back (Err (fault.Refused r)) at bytes accepted rejected c is allowed limits =
    let text = printed c at allowed limits in
    (tt, rejected.no_text text.0 (subst (λ (bs : List ℕ). IsTextOf (contract_rules at) bs text.0) (sym is) text.1))
read_back (Err fault.NoMemory) at bytes accepted rejected c is allowed limits = (tt, tt)
