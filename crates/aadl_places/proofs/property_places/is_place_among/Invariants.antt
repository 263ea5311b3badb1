use Rattle.std.proofs.Common.{◌≡◌, drop}
use Rattle.std.specs.List.{list_any}
use Rattle.aadl_places.specs.PropertyPlaces.{leads_to_place}
use Rattle.aadl_places.proofs.property_places.is_place_among.Given as goal

abbrev pub invariant-loop-site : goal.invariant-loop-site
invariant-loop-site l = list_any (leads_to_place l.tables l.property) (drop l.site-index l.sites) ≡ list_any (leads_to_place l.tables l.property) l.sites
