use Rattle.gumbo_parse.specs.declared.mark.Mark.TheVariants as mark
use Rattle.gumbo_parse.specs.declared.word.Word.TheVariants as word
use Rattle.gumbo_parse.proofs.BoundForms.{a_bound, heading_opening}
use Rattle.hw_reading.proofs.Choices.{both}
use Rattle.gumbo_parse.proofs.PortForms.{a_sign, a_keyword, a_name}
use Rattle.hw_reading.proofs.Steps.{then, halt, final, final_halt}
use Rattle.gumbo_parse.proofs.bounds.quantification.Goals as goal

pub returns-in_err-place : goal.returns-in_err-place
returns-in_err-place c =
    halt _ _ _ _ (heading_opening _) (both a_name (both (a_keyword word.In) (both a_bound (both (a_sign mark.Below) (both a_bound (a_sign mark.Colon)))))) c.from_residual.ensures.1
    c.in_err-place.ensures

pub returns-in_err-variable : goal.returns-in_err-variable
returns-in_err-variable c =
    let one = then (heading_opening _) c.in_ok-place.ensures in
    halt _ _ _ _ one (both (a_keyword word.In) (both a_bound (both (a_sign mark.Below) (both a_bound (a_sign mark.Colon))))) c.from_residual-in_err-variable.ensures.1 c.in_err-variable.ensures

pub returns-in_err-symbol : goal.returns-in_err-symbol
returns-in_err-symbol c =
    let two = then (then (heading_opening _) c.in_ok-place.ensures) c.in_ok-variable.ensures in
    halt _ _ _ _ two (both a_bound (both (a_sign mark.Below) (both a_bound (a_sign mark.Colon)))) c.from_residual-in_err-symbol.ensures.1 c.in_err-symbol.ensures

pub returns-in_err-from : goal.returns-in_err-from
returns-in_err-from c =
    let three = then (then (then (heading_opening _) c.in_ok-place.ensures) c.in_ok-variable.ensures) c.in_ok-symbol.ensures in
    halt _ _ _ _ three (both (a_sign mark.Below) (both a_bound (a_sign mark.Colon))) c.from_residual-in_err-from.ensures.1 c.in_err-from.ensures

pub returns-in_err-symbol-2 : goal.returns-in_err-symbol-2
returns-in_err-symbol-2 c =
    let four = then (then (then (then (heading_opening _) c.in_ok-place.ensures) c.in_ok-variable.ensures) c.in_ok-symbol.ensures) c.in_ok-from.ensures in
    halt _ _ _ _ four (both a_bound (a_sign mark.Colon)) c.from_residual-in_err-symbol-2.ensures.1 c.in_err-symbol-2.ensures

pub returns-in_err-below : goal.returns-in_err-below
returns-in_err-below c =
    let four = then (then (then (then (heading_opening _) c.in_ok-place.ensures) c.in_ok-variable.ensures) c.in_ok-symbol.ensures) c.in_ok-from.ensures in
    halt _ _ _ _ (then four c.in_ok-symbol-2.ensures) (a_sign mark.Colon) c.from_residual-in_err-below.ensures.1 c.in_err-below.ensures

pub returns-in_err-symbol-3 : goal.returns-in_err-symbol-3
returns-in_err-symbol-3 c =
    let four = then (then (then (then (heading_opening _) c.in_ok-place.ensures) c.in_ok-variable.ensures) c.in_ok-symbol.ensures) c.in_ok-from.ensures in
    final_halt _ _ _ (then (then four c.in_ok-symbol-2.ensures) c.in_ok-below.ensures) c.from_residual-in_err-symbol-3.ensures.1 c.in_err-symbol-3.ensures

pub returns : goal.returns
returns c =
    let four = then (then (then (then (heading_opening _) c.in_ok-place.ensures) c.in_ok-variable.ensures) c.in_ok-symbol.ensures) c.in_ok-from.ensures in
    final (then (then four c.in_ok-symbol-2.ensures) c.in_ok-below.ensures) c.in_ok-symbol-3.ensures
