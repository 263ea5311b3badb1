use Rattle.std.proofs.Common.{ℕ, sym, ap, ◌∙◌}
use Rattle.std.specs.List.{slice_get}
use Rattle.aadl_timing.specs.Depths.{systems_at}
use Rattle.aadl_timing.proofs.instance.Instance.first_at.Goals as goal

pub returns-then-levels-eq0 : goal.returns-then-levels-eq0
returns-then-levels-eq0 c = λ inside are.
    let to = c.args.self.now.resolved.now in
    c.itself.ensures inside to ∙ ap (λ (levels : ℕ). slice_get (systems_at inside to levels c.args.row c.args.category) 0) (sym c.if-levels-eq0.true)
