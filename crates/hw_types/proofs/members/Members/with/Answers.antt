use Rattle.std.proofs.Common.{◌≡◌, ◌+◌, ◌-◌, ◌^◌, ◌≤◌, min, max, ap, ◌∙◌, subst, arith}
use Rattle.hw_types.specs.Extent.{IsExtentOf, count_in, align_in}
use Rattle.hw_types.proofs.PlaceSteps.{end_room, size_room, members-placed, members-wide, wide-many}
use Rattle.hw_types.proofs.members.Members.with.Goals as goal

pub returns-then-count-gt-SCALAR_LIMIT : goal.returns-then-count-gt-SCALAR_LIMIT
returns-then-count-gt-SCALAR_LIMIT c = λ types type are is.
    members-wide types type c.args.self _ c.args.member.now are is (rw (← c.count.ensures) c.saturating_add-count.ensures)
    (rw (← c.align.ensures) c.max-align.ensures) (λ few. omega (arith, few, c.if-count-gt-SCALAR_LIMIT.true))

pub placed-requires-clause-here : goal.placed-requires-clause-here
placed-requires-clause-here c =
    let few : c.args.self.count ≤ 256 = grind arith in
    end_room c.requires.0 c.args.self c.requires.2 few

pub placed-requires-clause-room : goal.placed-requires-clause-room
placed-requires-clause-room c =
    size_room c.requires.1 c.in-Laid.layout (subst (λ e. IsExtentOf c.requires.1 e) c.in-Laid.is c.requires.3)

pub returns-in_ok-placed-in-Laid : goal.returns-in_ok-placed-in-Laid
returns-in_ok-placed-in-Laid c = λ types type are is.
    let counted : c.saturating_add-count.result ≡ min (c.args.self.count + count_in c.args.member.now) (2 ^ 64 - 1) =
    rw (← c.count.ensures) c.saturating_add-count.ensures in
    let aligned : c.max-align.result ≡ max c.args.self.align (align_in c.args.member.now) = rw (← c.align.ensures) c.max-align.ensures in
    let done = c.in_ok-placed-in-Laid.ensures in
    members-placed types type c.args.self c.in_ok-placed-in-Laid.field-0 c.in-Laid.layout are (subst (λ e. IsExtentOf type e) c.in-Laid.is is)
    (done.count ∙ rw (c.in-Laid.is) at counted) (done.align ∙ rw (c.in-Laid.is) at aligned) (rw (done.count) c.if-count-gt-SCALAR_LIMIT.false)
    done.scalars done.end

pub returns-in-TooWide : goal.returns-in-TooWide
returns-in-TooWide c = λ types type are is.
    members-wide types type c.args.self _ c.args.member.now are is (rw (← c.count.ensures) c.saturating_add-count.ensures)
    (rw (← c.align.ensures) c.max-align.ensures)
    (λ few. wide-many type c.in-TooWide.field-0 c.args.self.count c.saturating_add-count.result
    (subst (λ e. IsExtentOf type e) c.in-TooWide.is is)
    (c.saturating_add-count.ensures ∙ ap (λ n. min (c.args.self.count + n) (2 ^ 64 - 1)) (c.count.ensures ∙ ap count_in c.in-TooWide.is)) few)
