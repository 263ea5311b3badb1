use Rattle.std.proofs.Common.{◌≡◌, ◌<◌, drop}
use Rattle.hw_text.specs.Text.{decimal}
use Rattle.hw_text.proofs.number.decimal.Given as goal

abbrev pub invariant-loop-digit : goal.invariant-loop-digit
invariant-loop-digit l = record {
  same : decimal l.number (drop l.digit-index l.digits) ≡ decimal 0 l.digits;
  small : l.number < 170141183460469231731687303715884105728;
}
