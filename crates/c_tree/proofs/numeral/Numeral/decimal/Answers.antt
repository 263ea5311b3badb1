use Rattle.std.proofs.Common.{◌≡◌, ◌∙◌, ap, arith}
use Rattle.std.proofs.lemmas.Result.{IfOk-weaker}
use Rattle.c_tree.specs.Numerals.{numeral_value}
use Rattle.c_tree.proofs.Decimals.{decimal_numeral}
use Rattle.c_tree.proofs.numeral.Numeral.decimal.Goals as goal

pub of-requires : goal.of-requires
of-requires c = rw (c.rows.ensures, c.in_ok-text.ensures) (decimal_numeral c.args.number (omega (arith, c.ranges.number.fits))).0

pub returns-clause-value : goal.returns-clause-value
returns-clause-value c =
    IfOk-weaker c.of.result (λ l. l.bytes ≡ c.rows.result.now) (λ l. numeral_value l.bytes ≡ c.args.number)
    (λ l is. ap numeral_value (is ∙ c.rows.ensures ∙ c.in_ok-text.ensures) ∙ (decimal_numeral c.args.number (omega (arith, c.ranges.number.fits))).1) c.of.ensures
