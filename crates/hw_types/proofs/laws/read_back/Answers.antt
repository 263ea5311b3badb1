use Rattle.hw_types.proofs.RoundTrip.{value_in-bytes_for}
use Rattle.hw_types.proofs.laws.read_back.Goals as goal

pub returns : goal.returns
returns c = value_in-bytes_for
