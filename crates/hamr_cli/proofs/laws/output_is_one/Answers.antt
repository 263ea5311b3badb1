use Rattle.hamr_cli.proofs.One.{output-one}
use Rattle.hamr_cli.proofs.laws.output_is_one.Goals as goal

pub returns : goal.returns
returns c = output-one
