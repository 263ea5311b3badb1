-- What is printed of a unit within the limits is read as the same unit but for places.
use Rattle.std.proofs.Common.{◌≡◌, ℕ, ◌≤◌, Bool, true, if◌then◌else◌, List, [], length, Some, None, Result, Ok, Err, IfOk, refl, sym, ap, subst}
use Rattle.std.proofs.lemmas.Bool.{le-ltb}
use Rattle.hw_text.specs.declared.fault.Fault.{Fault}
use Rattle.hw_text.specs.declared.fault.Fault.TheVariants as fault
use Rattle.hw_text.specs.WholeTexts.{IsTextOf, IsAccepted, IsRejected, IfRefused}
use Rattle.c_tree.specs.Dialects.{is_user_unit, ranges_hold}
use Rattle.c_tree.specs.declared.dialect.Dialect.{Dialect}
use Rattle.c_tree.specs.declared.dialect.Dialect.TheVariants.{User, Full}
use Rattle.c_tree.specs.declared.unit.Unit.{Unit as CUnit}
use Rattle.c_tree.specs.Items.{unit_text}
use Rattle.c_tree.specs.UnplacedUnits.{SameUnit}
use Rattle.c_parse.specs.Flaws.{flaw_at}
use Rattle.c_parse.specs.Printed.{IsPrintedText, IsWithinLimits, IsReadBack}
use Rattle.c_parse.specs.Refusals.{too_long}
use Rattle.c_parse.specs.WholeUnits.{told_before, unit_rules}
use Rattle.c_parse.proofs.PrintedLaw.{printed}
use Rattle.c_parse.proofs.PrintedLimits.{full-sound, user-sound}
use Rattle.c_parse.proofs.SoundUnits.{unit-clear}
use Rattle.c_parse.proofs.WholeUnits.{not-flawed}

-- the canonical text of a unit is a text of the same unit but for places, where nothing is wrong with its tokens
back : (dialect : Dialect) (u : CUnit) (text : IsPrintedText dialect u (unit_text u)) → told_before dialect (unit_text u) ≡ None → ((k : ℕ) → flaw_at dialect text.tokens k ≡ None) → IsReadBack dialect u
back dialect u text small sound = record {
  read = text.read;
  is_text = record {
    not_told = small;
    tokens = text.tokens;
    end = text.end;
    stop = [];
    lexed = text.lexed;
    ended = refl;
    spelled = text.spelled;
    sound = λ k. not-flawed dialect text.tokens k (sound k);
  };
  same = text.same;
}

pub full_back : (u : CUnit) → ranges_hold u ≡ true → IsReadBack Full u
full_back u holds =
    let text = printed Full u holds in
    back Full u text refl (full-sound text.tokens (unit-clear Full u holds text.tokens text.canonical))

short : (bytes : List ℕ) → length bytes ≤ 1048576 → told_before User bytes ≡ None
short bytes few = ap (λ (b : Bool). if b then Some (too_long (length bytes)) else None) (le-ltb 1048576 (length bytes) few)

pub user_back : (u : CUnit) → is_user_unit u ≡ true → IsWithinLimits u → IsReadBack User u
user_back u user limits =
    let text = printed User u user in
    back User u text (short (unit_text u) limits.bytes)
    (user-sound u text.read text.end text.tokens text.canonical (unit-clear User u user text.tokens text.canonical) limits text.spelled)

-- what is said of the canonical text of a unit, by what accepts and rejects as it should
pub taken_back : (dialect : Dialect) (result : Result CUnit Fault) (bytes : List ℕ) → IfOk result (λ x. IsAccepted (unit_rules dialect) bytes x) → IfRefused result (λ r. IsRejected (unit_rules dialect) bytes r) → (u : CUnit) → bytes ≡ unit_text u → IsReadBack dialect u → IfOk result (SameUnit u) × IfRefused result (λ r. ⊥)
taken_back dialect (Ok x) bytes accepted rejected u is back =
    let same = accepted.only back.read (subst (λ (bs : List ℕ). IsTextOf (unit_rules dialect) bs back.read) (sym is) back.is_text) in
    (subst (λ (y : CUnit). SameUnit u y) same back.same, tt)
taken_back dialect (Err (fault.Refused r)) bytes accepted rejected u is back =
    (tt, rejected.no_text back.read (subst (λ (bs : List ℕ). IsTextOf (unit_rules dialect) bs back.read) (sym is) back.is_text))
taken_back dialect (Err fault.NoMemory) bytes accepted rejected u is back = (tt, tt)
