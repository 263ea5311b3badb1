-- What is printed of a unit is read as the same unit but for places.
use Rattle.std.proofs.Common.{◌≡◌, true}
use Rattle.c_tree.specs.Dialects.{has_unit}
use Rattle.c_tree.specs.Items.{unit_text}
use Rattle.c_tree.specs.declared.dialect.Dialect.{Dialect}
use Rattle.c_tree.specs.declared.unit.Unit.{Unit as CUnit}
use Rattle.c_parse.specs.Lexed.{IsLexedAs}
use Rattle.c_parse.specs.Printed.{IsPrintedText}
use Rattle.c_parse.specs.PrintedUnits.{unit_tokens}
use Rattle.c_parse.proofs.RespelledUnits.{unit-read}
use Rattle.c_parse.proofs.WrittenUnits.{unit-lexed}

-- the canonical text of a unit has its canonical tokens
pub lexed : (u : CUnit) → IsLexedAs (unit_text u) (unit_tokens u)
lexed u = unit-lexed u

pub printed : (dialect : Dialect) (u : CUnit) → has_unit dialect u ≡ true → IsPrintedText dialect u (unit_text u)
printed dialect u had =
    let text = lexed u in
    let found = unit-read dialect u text.placed text.end text.same had in
    record { tokens = text.placed; end = text.end; read = found.0; canonical = text.same; lexed = text.lexed; spelled = found.1; same = found.2 }
