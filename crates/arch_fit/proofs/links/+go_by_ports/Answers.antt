use Rattle.arch_model.specs.Arch.{IsBefore}
use Rattle.arch_fit.proofs.Pairs.{AllPairs-from_rest}
use Rattle.arch_fit.proofs.links.+go_by_ports.Goals as goal

pub returns-then-goes_before : goal.returns-then-goes_before
returns-then-goes_before t c whole = AllPairs-from_rest IsBefore c.args.links.now (record { from = record { 0 = 0 }; to = record { 0 = 0 } }) c.in-len1-up.len_at_least (c.goes_before.ensures c.if-goes_before.true) (c.go_by_ports.ensures whole)
