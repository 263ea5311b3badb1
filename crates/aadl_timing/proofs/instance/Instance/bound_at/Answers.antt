use Rattle.std.proofs.Common.{ℕ, Option, sym, ap, ◌∙◌}
use Rattle.std.specs.Option.{unwrap_or}
use Rattle.aadl_timing.specs.Bounds.{bound_of}
use Rattle.aadl_timing.proofs.Bounded.{bound_domain, bound_below}
use Rattle.aadl_timing.proofs.instance.Instance.bound_at.Goals as goal

pub returns-then-is : goal.returns-then-is
returns-then-is c = λ inside are.
    bound_domain c.args.self.now.tables.now c.args.self.now.resolved.now inside c.in_ok-place.place c.args.row c.args.category (sym c.is.ensures ∙ c.if-is.true) c.in_ok-place.ensures

pub returns-in-Some : goal.returns-in-Some
returns-in-Some c = λ inside are.
    bound_below c.args.self.now.tables.now c.args.self.now.resolved.now inside c.args.below.now c.of.result c.args.row c.args.category (sym c.is.ensures ∙ c.if-is.false) are
    (λ inner led. c.of.ensures ∙ ap (bound_of c.args.below.now) (ap (λ (o : Option ℕ). unwrap_or o inner) (sym c.in-Some.is ∙ (c.led_to.ensures ∙ led))))
