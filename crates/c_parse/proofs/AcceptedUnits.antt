-- What is accepted is a unit that its grammar has.
use Rattle.std.proofs.Common.{◌≡◌, refl, sym, ℕ, true, List, Option, Some, None}
use Rattle.std.specs.Option.{option_map}
use Rattle.hw_text.specs.WholeTexts.{IsAccepted}
use Rattle.c_tree.specs.Dialects.{has_unit}
use Rattle.c_tree.specs.declared.dialect.Dialect.{Dialect}
use Rattle.c_tree.specs.declared.unit.Unit.{Unit as CUnit}
use Rattle.c_parse.specs.declared.flaw.Flaw.{Flaw}
use Rattle.c_parse.specs.Flaws.{flaw_at, flawed}
use Rattle.c_parse.specs.Values.{Tokens}
use Rattle.c_parse.specs.WholeUnits.{unit_rules}
use Rattle.c_parse.proofs.ClearRanges.{Clear}
use Rattle.c_parse.proofs.DialectItems.{unit-had}
use Rattle.c_parse.proofs.Flawless.{flaw-of-empty}
use Rattle.c_parse.proofs.RangeLaws.{range-found-at}
use Rattle.c_parse.proofs.TokenKinds.{none-some}

untold : (ts : Tokens) (i : ℕ) (o : Option Flaw) → option_map (flawed ts i) o ≡ None → o ≡ None
untold ts i None is = refl
untold ts i (Some f) is = absurd (none-some (flawed ts i f) (sym is))

pub accepted-had : (dialect : Dialect) (bytes : List ℕ) (u : CUnit) → IsAccepted (unit_rules dialect) bytes u → has_unit dialect u ≡ true
accepted-had dialect bytes u accepted =
    let text = accepted.text in
    let clear : Clear text.tokens = record {
      none = λ i at r. flaw-of-empty dialect text.tokens i at (range-found-at text.tokens i at r) (untold text.tokens i (flaw_at dialect text.tokens i) (text.sound i));
    } in
    unit-had dialect text.end u text.tokens text.spelled clear
