use Rattle.std.proofs.Common.{◌≡◌, drop}
use Rattle.aadl_places.specs.ContractAnnexes.{is_followed}
use Rattle.aadl_places.proofs.contract_annexes.is_followed.Given as goal

abbrev pub invariant-loop-row : goal.invariant-loop-row
invariant-loop-row l = is_followed l.declaration (drop l.row-index l.later) ≡ is_followed l.declaration l.later
