use Rattle.hw_text.proofs.Reading.{failed}
use Rattle.aadl_parse.proofs.QuantityReads.{sign-stuck, number-stuck, unit-stuck, quantity-read}
use Rattle.aadl_parse.proofs.quantity.quantity.Goals as goal

pub returns-in_err-sign : goal.returns-in_err-sign
returns-in_err-sign c = failed _ _ _ _ _ _ _ _ _ c.from_residual.ensures.1 c.in_err-sign.ensures (sign-stuck _ _)

pub returns-in_err-number : goal.returns-in_err-number
returns-in_err-number c = failed _ _ _ _ _ _ _ _ _ c.from_residual-in_err-number.ensures.1 c.in_err-number.ensures (number-stuck _ _ _ c.in_ok-sign.ensures _)

pub returns-in_err-unit : goal.returns-in_err-unit
returns-in_err-unit c = failed _ _ _ _ _ _ _ _ _ c.from_residual-in_err-unit.ensures.1 c.in_err-unit.ensures (unit-stuck _ _ _ c.in_ok-sign.ensures _ _ c.in_ok-number.ensures _)

pub returns : goal.returns
returns c = quantity-read _ _ _ c.in_ok-sign.ensures _ _ c.in_ok-number.ensures _ _ c.in_ok-unit.ensures
