use Rattle.std.proofs.Common.{sym, subst}
use Rattle.hw_types.specs.Extent.{IsExtentOf}
use Rattle.hw_types.proofs.place.+extent_of.Goals as goal

pub returns-in_ok-times-in-Times : goal.returns-in_ok-times-in-Times
returns-in_ok-times-in-Times t c =
    subst (λ ty. IsExtentOf ty c.in_ok-times-in-Times.field-0) (sym c.in-Times.is)
    (c.in_ok-times-in-Times.ensures c.in-Times.element
    (subst (λ ty. IsExtentOf ty c.in_ok-extent_of-in-Times.field-0) c.get.ensures c.in_ok-extent_of-in-Times.ensures))
