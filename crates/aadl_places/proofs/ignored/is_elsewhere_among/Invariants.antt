use Rattle.std.proofs.Common.{◌≡◌, drop}
use Rattle.std.specs.List.{list_any}
use Rattle.aadl_places.specs.Notes.{leads_elsewhere}
use Rattle.aadl_places.proofs.ignored.is_elsewhere_among.Given as goal

abbrev pub invariant-loop-site : goal.invariant-loop-site
invariant-loop-site l = list_any (leads_elsewhere l.tables l.property) (drop l.site-index l.sites) ≡ list_any (leads_elsewhere l.tables l.property) l.sites
