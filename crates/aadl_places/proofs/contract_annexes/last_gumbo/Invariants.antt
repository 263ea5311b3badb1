use Rattle.std.proofs.Common.{◌≡◌, drop}
use Rattle.aadl_names.specs.Meanings.{first_there}
use Rattle.aadl_places.specs.ContractAnnexes.{last_gumbo}
use Rattle.aadl_places.proofs.contract_annexes.last_gumbo.Given as goal

abbrev pub invariant-loop-place : goal.invariant-loop-place
invariant-loop-place l = first_there (last_gumbo l.declaration l.place (drop l.place l.rows)) l.last ≡ last_gumbo l.declaration 0 l.rows
