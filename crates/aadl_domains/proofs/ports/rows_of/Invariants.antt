use Rattle.std.proofs.Common.{◌≡◌, ◌++◌, drop}
use Rattle.aadl_domains.specs.Ports.{rows_from, rows_of}
use Rattle.aadl_domains.proofs.ports.rows_of.Given as goal

abbrev pub invariant-loop-at : goal.invariant-loop-at
invariant-loop-at g l = l.own ++ rows_from l.owner l.at (drop l.at l.rows) ≡ rows_of l.owner l.rows
