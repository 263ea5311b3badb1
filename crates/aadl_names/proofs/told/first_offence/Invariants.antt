use Rattle.std.proofs.Common.{◌≡◌, drop}
use Rattle.aadl_names.specs.Offences.{earliest_from, offences}
use Rattle.aadl_names.proofs.told.first_offence.Given as goal

abbrev pub invariant-loop-row : goal.invariant-loop-row
invariant-loop-row g l =
    earliest_from l.first (offences (g.T.Test.offence_of l.test) (drop l.row-index l.rows)) ≡ earliest_from l.fn.known (offences (g.T.Test.offence_of l.test) l.rows)
