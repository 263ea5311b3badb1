use Rattle.std.proofs.Common.{IfSome, IfNone, refl, sym, subst, Some}
use Rattle.std.proofs.lemmas.Option.{IfSome_then, slice_get_read}
use Rattle.domain_sched.specs.Schedule.{IsUnevenAt}
use Rattle.domain_sched.specs.Multiples.{AreEvenAmong, IsFirstAmong}
use Rattle.domain_sched.proofs.First.{even_more, even_all, first_stays, first_all, found_more, none_at, none_then}
use Rattle.domain_sched.proofs.multiples.first_uneven.Goals.{in-Some, in_default}
use Rattle.domain_sched.proofs.multiples.first_uneven.Goals as goal

pub loop-place-preserved : goal.loop-place-preserved
loop-place-preserved c =
    let arch = c.args.arch.now in
    let many = c.loop-place.place in
    let found = c.loop-place.invariant in
    let is_pd = slice_get_read arch.pds _ many c.pd-item.result refl (rw (← c.pds-pd-items.ensures.rows) c.loop-place-test.true) (rw (← c.pds-pd-items.ensures.rows) c.pd-item.is) in
    elim c.match-uneven_at.branch [
      | in-Some w ↦
          let is : IsUnevenAt arch many w.in-Some.origin.now = record { pd = c.pd-item.result; is_pd = is_pd; is_origin = w.in-Some.ensures.some; is_uneven = w.in-Some.ensures.uneven } in
          let first = found_more (λ o. o.now) arch many c.loop-place.first w.in-Some.origin.now w.earlier.result.now is found.some found.none
          w.earlier.ensures.one w.earlier.ensures.alone w.earlier.ensures.before w.earlier.ensures.own in
          rw w.first-is (record { some = first; none = tt })
      | in_default w ↦
          let none = none_at arch many c.pd-item.result is_pd w.in_default.ensures.none in
          rw w.first-is (record { some = IfSome_then c.loop-place.first found.some (λ o first. first_stays arch many o.now first none); none = none_then c.loop-place.first found.none (λ even. even_more arch many even none) })
    ]

pub returns-clause-first : goal.returns-clause-first
returns-clause-first c = IfSome_then c.loop-place.first c.loop-place.invariant.some (λ o. first_all c.args.arch.now c.loop-place.place o.now (rw (← c.pds-pd-items.ensures.rows) c.loop-place-test.false))

pub returns-clause-even : goal.returns-clause-even
returns-clause-even c = none_then c.loop-place.first c.loop-place.invariant.none (even_all c.args.arch.now c.loop-place.place (rw (← c.pds-pd-items.ensures.rows) c.loop-place-test.false))
