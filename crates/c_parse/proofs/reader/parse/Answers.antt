use Rattle.std.proofs.Common.{◌≡◌, true}
use Rattle.std.proofs.lemmas.Result.{IfOk-weaker}
use Rattle.hw_text.specs.WholeTexts.{IsAccepted}
use Rattle.c_tree.specs.Dialects.{is_user_unit}
use Rattle.c_tree.specs.declared.dialect.Dialect.TheVariants.{User}
use Rattle.c_parse.specs.WholeUnits.{user_rules}
use Rattle.c_parse.proofs.AcceptedUnits.{accepted-had}
use Rattle.c_parse.proofs.ReadBack.{user_back, taken_back}
use Rattle.c_parse.proofs.reader.parse.Goals as goal

pub returns-clause-of_users : goal.returns-clause-of_users
returns-clause-of_users c =
    IfOk-weaker c.read_text.result (λ unit. IsAccepted user_rules c.args.bytes.now unit) (λ unit. is_user_unit unit ≡ true)
    (λ unit so. accepted-had User c.args.bytes.now unit so) c.read_text.ensures.accepted

pub returns-clause-printed : goal.returns-clause-printed
returns-clause-printed c =
    λ u is user limits. taken_back User c.read_text.result c.args.bytes.now c.read_text.ensures.accepted c.read_text.ensures.rejected u is (user_back u user limits)
