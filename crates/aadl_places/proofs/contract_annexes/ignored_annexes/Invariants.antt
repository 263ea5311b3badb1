use Rattle.std.proofs.Common.{◌≡◌, ◌++◌, drop}
use Rattle.aadl_places.specs.ContractAnnexes.{ignored_annexes}
use Rattle.aadl_places.proofs.contract_annexes.ignored_annexes.Given as goal

abbrev pub invariant-loop-place : goal.invariant-loop-place
invariant-loop-place l = l.ignored ++ ignored_annexes l.tables (drop l.place l.rows) ≡ ignored_annexes l.tables l.rows
