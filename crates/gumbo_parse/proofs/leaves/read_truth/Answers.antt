use Rattle.gumbo_parse.proofs.LeafForms.{truth_opening}
use Rattle.hw_reading.proofs.Steps.{final, final_halt}
use Rattle.gumbo_parse.proofs.leaves.read_truth.Goals as goal

pub returns-in_err-place : goal.returns-in_err-place
returns-in_err-place c = final_halt _ _ _ (truth_opening _) c.from_residual.ensures.1 c.in_err-place.ensures

pub returns : goal.returns
returns c = final (truth_opening _) c.in_ok-place.ensures
