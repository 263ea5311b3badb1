use Rattle.std.proofs.Common.{◌≡◌, true}
use Rattle.std.proofs.lemmas.Result.{IfOk-weaker}
use Rattle.hw_text.specs.WholeTexts.{IsAccepted}
use Rattle.c_tree.specs.Dialects.{ranges_hold}
use Rattle.c_tree.specs.declared.dialect.Dialect.TheVariants.{Full}
use Rattle.c_parse.specs.WholeUnits.{full_rules}
use Rattle.c_parse.proofs.AcceptedUnits.{accepted-had}
use Rattle.c_parse.proofs.ReadBack.{full_back, taken_back}
use Rattle.c_parse.proofs.reader.parse_full.Goals as goal

pub returns-clause-ranges : goal.returns-clause-ranges
returns-clause-ranges c =
    IfOk-weaker c.read_text.result (λ unit. IsAccepted full_rules c.args.bytes.now unit) (λ unit. ranges_hold unit ≡ true)
    (λ unit so. accepted-had Full c.args.bytes.now unit so) c.read_text.ensures.accepted

pub returns-clause-printed : goal.returns-clause-printed
returns-clause-printed c =
    λ u is holds. taken_back Full c.read_text.result c.args.bytes.now c.read_text.ensures.accepted c.read_text.ensures.rejected u is (full_back u holds)
