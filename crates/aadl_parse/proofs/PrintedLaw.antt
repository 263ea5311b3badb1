-- What is printed of a package is read as the same package but for places.
use Rattle.std.proofs.Common.{◌≡◌, ◌≤◌, ℕ, zero, suc, Bool, List, [], ◌∷◌, take, slice_get, option_and_then, Some, None, Result, Ok, Err, IfOk, refl, sym, ap, subst, cond}
use Rattle.std.proofs.lemmas.Bool.{false≢true, le-ltb}
use Rattle.std.proofs.lemmas.List.Elements.{All-head, All-tail}
use Rattle.hw_text.specs.declared.fault.Fault.{Fault}
use Rattle.hw_text.specs.declared.fault.Fault.TheVariants as fault
use Rattle.hw_text.specs.declared.placed.Placed.{Placed}
use Rattle.hw_text.specs.WholeTexts.{IsTextOf, IsAccepted, IsRejected, IfRefused}
use Rattle.aadl_tree.specs.declared.package.Package.{Package}
use Rattle.aadl_tree.specs.declared.token.Token.{Token}
use Rattle.aadl_tree.specs.declared.token.Token.TheVariants as token
use Rattle.aadl_tree.specs.Allowed.{IsAllowed, AreAllowed}
use Rattle.aadl_tree.specs.Layout.{canonical_text}
use Rattle.aadl_tree.specs.Packages.{package_tokens}
use Rattle.aadl_tree.specs.Unplaced.{SamePackage}
use Rattle.aadl_tree.proofs.ApartPackages.{package-apart}
use Rattle.aadl_tree.proofs.LaidOut.{laid_out}
use Rattle.aadl_parse.specs.declared.flaw.Flaw.TheVariants as flaw
use Rattle.aadl_parse.specs.declared.stop.Stop.TheVariants as stop
use Rattle.aadl_parse.specs.Flaws.{open_behind_mark, open_behind_token, open_behind, flaw_of}
use Rattle.aadl_parse.specs.Printed.{at_start, IsWithinLimits}
use Rattle.aadl_parse.specs.Rules.{model_rules}
use Rattle.aadl_parse.specs.Stops.{start}
use Rattle.aadl_parse.proofs.Respelled.{tokens_of}
use Rattle.aadl_parse.proofs.RespelledPackages.{a_package}
use Rattle.aadl_parse.proofs.WholeModels.{small-enough, not-told}

-- a token that is allowed, and behind which no more than 64 brackets are open
no-flaw-of : (n : ℕ) (t : Token) → IsAllowed t → open_behind_token n t ≤ 64 → flaw_of n t ≡ None
no-flaw-of n (token.SpoiltText k) allowed shallow = absurd (false≢true allowed)
no-flaw-of n (token.Mark m) allowed shallow = ap (λ (b : Bool). cond b (Some flaw.TooDeep) None) (le-ltb 64 (open_behind_mark n m) shallow)
no-flaw-of n (token.Name m) allowed shallow = refl
no-flaw-of n (token.Word w) allowed shallow = refl
no-flaw-of n (token.Integer i) allowed shallow = refl
no-flaw-of n (token.Real r) allowed shallow = refl
no-flaw-of n (token.Text s) allowed shallow = refl
no-flaw-of n (token.Annex s) allowed shallow = refl

no-flaws : (n : ℕ) (ps : List (Placed Token)) (k : ℕ) → AreAllowed (tokens_of ps) → ((j : ℕ) → open_behind n (take j (at_start (tokens_of ps))) ≤ 64) → option_and_then (λ t. flaw_of (open_behind n (take k ps)) t.token) (slice_get ps k) ≡ None
no-flaws n [] k allowed shallow = refl
no-flaws n (p ∷ ps) zero allowed shallow = no-flaw-of n p.token (All-head IsAllowed p.token (tokens_of ps) allowed) (shallow 1)
no-flaws n (p ∷ ps) (suc k) allowed shallow =
    no-flaws (open_behind_token n p.token) ps k (All-tail IsAllowed p.token (tokens_of ps) allowed) (λ j. shallow (suc j))

-- the canonical text of a package is a text of the same package but for places
pub printed : (p : Package) → AreAllowed (package_tokens p) → IsWithinLimits p → (q : Package) × IsTextOf model_rules (canonical_text p) q × SamePackage p q
printed p allowed limits =
    let text = laid_out (package_tokens p) allowed (package-apart p) start in
    let read = a_package p text.placed text.same in
    let shallow : (j : ℕ) → open_behind 0 (take j (at_start (tokens_of text.placed))) ≤ 64 =
    λ j. subst (λ (ts : List Token). open_behind 0 (take j (at_start ts)) ≤ 64) (sym text.same) (limits.shallow j) in (
      read.0,
      record {
        not_told = small-enough (canonical_text p) limits.small;
        tokens = text.placed;
        end = text.end;
        stop = stop.End;
        lexed = record { behind = []; lexed = text.lexed; stopped = refl };
        ended = refl;
        spelled = read.1;
        sound = λ k. not-told text.placed k (no-flaws 0 text.placed k (subst AreAllowed (sym text.same) allowed) shallow);
      },
      sym read.2,
    )

-- what is said of the canonical text of a package, by what accepts and rejects as it should
pub read_back : (result : Result Package Fault) (bytes : List ℕ) → IfOk result (λ tree. IsAccepted model_rules bytes tree) → IfRefused result (λ refusal. IsRejected model_rules bytes refusal) → (p : Package) → bytes ≡ canonical_text p → AreAllowed (package_tokens p) → IsWithinLimits p → IfOk result (λ tree. SamePackage p tree) × IfRefused result (λ refusal. ⊥)
read_back (Ok tree) bytes accepted rejected p is allowed limits =
    let text = printed p allowed limits in
    let same = accepted.only text.0 (subst (λ (bs : List ℕ). IsTextOf model_rules bs text.0) (sym is) text.1) in
    (subst (λ (q : Package). SamePackage p q) same text.2, tt)
read_back (Err (fault.Refused r)) bytes accepted rejected p is allowed limits =
    let text = printed p allowed limits in
    (tt, rejected.no_text text.0 (subst (λ (bs : List ℕ). IsTextOf model_rules bs text.0) (sym is) text.1))
read_back (Err fault.NoMemory) bytes accepted rejected p is allowed limits = (tt, tt)
