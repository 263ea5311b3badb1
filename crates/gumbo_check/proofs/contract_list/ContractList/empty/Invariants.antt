use Rattle.std.proofs.Common.{◌≡◌, ◌++◌, map, drop}
use Rattle.gumbo_check.specs.Checked.{empty_contract}
use Rattle.gumbo_check.proofs.contract_list.ContractList.empty.Given as goal

abbrev pub invariant-loop-pd : goal.invariant-loop-pd
invariant-loop-pd l = l.contracts.items ++ map (λ pd. empty_contract) (drop l._pd-index l._pd-items) ≡ map (λ pd. empty_contract) l._pd-items
