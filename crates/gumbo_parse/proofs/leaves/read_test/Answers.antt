use Rattle.gumbo_parse.proofs.LeafForms.{test_opening}
use Rattle.gumbo_parse.proofs.PortForms.{a_port}
use Rattle.hw_reading.proofs.Steps.{then, halt, final, final_halt}
use Rattle.gumbo_parse.proofs.leaves.read_test.Goals as goal

pub returns-in_err-place : goal.returns-in_err-place
returns-in_err-place c = halt _ _ _ _ (test_opening _) a_port c.from_residual.ensures.1 c.in_err-place.ensures

pub returns-in_err-named : goal.returns-in_err-named
returns-in_err-named c = final_halt _ _ _ (then (test_opening _) c.in_ok-place.ensures) c.from_residual-in_err-named.ensures.1 c.in_err-named.ensures

pub returns : goal.returns
returns c = final (then (test_opening _) c.in_ok-place.ensures) c.in_ok-named.ensures
