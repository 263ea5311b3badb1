use Rattle.hw_types.proofs.RoundTrip.{length-bytes_for}
use Rattle.hw_types.proofs.laws.whole_size.Goals as goal

pub returns : goal.returns
returns c = length-bytes_for
