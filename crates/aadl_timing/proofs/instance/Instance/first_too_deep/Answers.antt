use Rattle.std.proofs.Common.{ap, List, ℕ, ◌∙◌}
use Rattle.std.specs.List.{slice_get}
use Rattle.aadl_timing.proofs.Deep.{whole}
use Rattle.aadl_timing.proofs.instance.Instance.first_too_deep.Goals as goal

pub returns : goal.returns
returns c =
    c.of.ensures ∙ (c.in_ok-firsts.ensures c.args.root
    ∙ ap (λ (systems : List ℕ). slice_get systems 0) (whole c.args.self.now.tables.now c.args.self.now.resolved.now c.args.root))
