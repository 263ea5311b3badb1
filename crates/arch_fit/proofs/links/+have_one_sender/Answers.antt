use Rattle.std.proofs.Common.{◌≢◌}
use Rattle.arch_model.specs.declared.link.Link.{Link}
use Rattle.arch_fit.proofs.Pairs.{AllPairs-from_rest}
use Rattle.arch_fit.proofs.links.+have_one_sender.Goals as goal

pub returns-then-ends_alone : goal.returns-then-ends_alone
returns-then-ends_alone t c whole = AllPairs-from_rest (λ (link : Link) (other : Link). link.to.0 ≢ other.to.0) c.args.links.now (record { from = record { 0 = 0 }; to = record { 0 = 0 } }) c.in-len1-up.len_at_least
    (c.ends_alone.ensures c.if-ends_alone.true) (c.have_one_sender.ensures whole)
