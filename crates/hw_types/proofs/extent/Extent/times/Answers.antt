use Rattle.std.proofs.Common.{◌≡◌, ◌*◌, ◌-◌, ◌^◌, min, subst}
use Rattle.hw_types.specs.Extent.{IsExtentOf, count_in}
use Rattle.hw_types.proofs.Extents.{times-wide, times-room, times-laid, times-none, width-power}
use Rattle.hw_types.proofs.extent.Extent.times.Goals as goal

pub returns-then-count-gt-SCALAR_LIMIT : goal.returns-then-count-gt-SCALAR_LIMIT
returns-then-count-gt-SCALAR_LIMIT c = λ element is.
    times-wide element c.args.times c.args.self.now (record { count = c.saturating_mul-count.result; align = c.align-align.result }) is
    (rw (← c.from.ensures, ← c.count.ensures) c.saturating_mul-count.ensures) c.align-align.ensures c.if-count-gt-SCALAR_LIMIT.true

pub repeated-requires : goal.repeated-requires
repeated-requires c =
    let counted : c.saturating_mul-count.result ≡ min (c.args.times * count_in c.args.self.now) (2 ^ 64 - 1) =
    rw (← c.from.ensures, ← c.count.ensures) c.saturating_mul-count.ensures in
    times-room c.requires.0 c.args.times c.saturating_mul-count.result c.in-Laid.element
    (subst (λ e. IsExtentOf c.requires.0 e) c.in-Laid.is c.requires.1) (rw (c.in-Laid.is) at counted) c.if-count-gt-SCALAR_LIMIT.false

pub empty-requires : goal.empty-requires
empty-requires c =
    width-power c.requires.0 c.in-TooWide.width (subst (λ e. IsExtentOf c.requires.0 e) c.in-TooWide.is c.requires.1)

pub returns-in_ok-repeated-in-Laid : goal.returns-in_ok-repeated-in-Laid
returns-in_ok-repeated-in-Laid c = λ element is.
    let counted : c.saturating_mul-count.result ≡ min (c.args.times * count_in c.args.self.now) (2 ^ 64 - 1) =
    rw (← c.from.ensures, ← c.count.ensures) c.saturating_mul-count.ensures in
    times-laid element c.args.times c.saturating_mul-count.result c.in-Laid.element c.in_ok-repeated-in-Laid.field-0
    (subst (λ e. IsExtentOf element e) c.in-Laid.is is) (rw (c.in-Laid.is) at counted) c.if-count-gt-SCALAR_LIMIT.false
    c.in_ok-repeated-in-Laid.ensures

pub returns-in-TooWide : goal.returns-in-TooWide
returns-in-TooWide c = λ element is.
    let counted : c.saturating_mul-count.result ≡ min (c.args.times * count_in c.args.self.now) (2 ^ 64 - 1) =
    rw (← c.from.ensures, ← c.count.ensures) c.saturating_mul-count.ensures in
    times-none element c.args.times c.saturating_mul-count.result c.in-TooWide.width c.empty.result
    (subst (λ e. IsExtentOf element e) c.in-TooWide.is is) (rw (c.in-TooWide.is) at counted) c.if-count-gt-SCALAR_LIMIT.false
    c.empty.ensures
