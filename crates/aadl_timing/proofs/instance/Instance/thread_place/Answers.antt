use Rattle.std.proofs.Common.{sym, ap, ◌∙◌, None}
use Rattle.aadl_timing.specs.Located.{component_in}
use Rattle.aadl_timing.specs.Untimed.{is_untimed}
use Rattle.aadl_timing.proofs.Alone.{well_timed}
use Rattle.aadl_timing.proofs.instance.Instance.thread_place.Goals as goal

pub returns : goal.returns
returns c =
    let t = c.args.self.now.tables.now in
    let to = c.args.self.now.resolved.now in
    well_timed t to c.args.row c.in-Some.thread c.in-Some-component_in.alone None (sym c.thread_row.ensures ∙ c.in-Some.is)
    (ap (component_in t to c.in-Some.thread) (sym c.new.ensures) ∙ (sym c.component_in.ensures ∙ c.in-Some-component_in.is))
    (sym c.requires ∙ c.if-is_led.false) (ap is_untimed (sym c.in_ok-timing.ensures) ∙ (sym c.is_untimed.ensures ∙ c.if-is_untimed.false))
