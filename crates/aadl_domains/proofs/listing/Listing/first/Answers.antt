use Rattle.std.proofs.Common.{◌∙◌, sym}
use Rattle.aadl_domains.proofs.Ways.{taken_on}
use Rattle.aadl_domains.proofs.listing.Listing.first.Goals as goal

pub loop-place-preserved : goal.loop-place-preserved
loop-place-preserved c =
    taken_on _ c.loop-place.first c.push.new.self c.loop-place.place c.in-Some.path (sym c.in-Some.is ∙ c.in_ok-path.ensures) c.loop-place.invariant c.in_ok-push-in-Some.ensures.ok
