use Rattle.std.proofs.Common.{sym, ap, ◌∙◌, ◌-◌, ◌<◌, ◌≤◌, List, length, arith}
use Rattle.aadl_domains.specs.declared.sought.Sought.TheVariants as sought
use Rattle.aadl_domains.specs.Components.{components_within}
use Rattle.aadl_timing.proofs.Behind.{walked_own, walked_other, walked_whole, walked_below}
use Rattle.aadl_timing.proofs.instance.Instance.+walk.Goals as goal
use Rattle.aadl_timing.proofs.instance.Instance.+walk.Goals.{first_within-then-row-implementation+in_ok-first, first_within-else-row-implementation}

pub first_below-returns-in-Some : goal.first_below-returns-in-Some
first_below-returns-in-Some t c =
    let model = c.args.self.now.tables.now in
    let to = c.args.self.now.resolved.now in
    walked_below model to c.args.before.now c.as_slice-in-Some.result.now (components_within sought.Domain model to c.args.depth) c.args.row c.in-Some.inner c.args.category c.args.known
    c.in_ok-first-in-Some.first (sym c.is.ensures ∙ c.if-is.false) (sym c.led_to.ensures ∙ c.in-Some.is) (c.as_slice-in-Some.ensures.value ∙ c.in_ok-path.ensures) c.in_ok-first-in-Some.ensures

pub first_within-loop-at-preserved : goal.first_within-loop-at-preserved
first_within-loop-at-preserved t c =
    let model = c.args.self.now.tables.now in
    let to = c.args.self.now.resolved.now in
    let inside = components_within sought.Domain model to (c.args.depth - 1) in
    elim c.if-row-implementation.branch [
      | first_within-then-row-implementation+in_ok-first w ↦
          walked_own model to c.args.before.now inside c.args.implementation c.loop-at.at model.subcomponents c.rows-row-items.result.now c.row-item.result w.get.result.now
          c.loop-at.first c.if-row-implementation.first _ c.rows-row-items.ensures c.row-item.is c.loop-at-test.true w.get.ensures w.if-row-implementation.true (w.first-is ∙ w.in_ok-first.ensures)
          c.loop-at.invariant
      | first_within-else-row-implementation w ↦
          walked_other model to c.args.before.now inside c.args.implementation c.loop-at.at model.subcomponents c.rows-row-items.result.now c.row-item.result
          c.loop-at.first c.if-row-implementation.first _ c.rows-row-items.ensures c.row-item.is c.loop-at-test.true w.if-row-implementation.false w.first-is c.loop-at.invariant
    ]

pub first_within-returns : goal.first_within-returns
first_within-returns t c =
    let model = c.args.self.now.tables.now in
    let to = c.args.self.now.resolved.now in
    let past = c.loop-at-test.false in
    let rows = ap (λ (rs : List _). length rs) c.rows-row-items.ensures in
    let many = c.len.ensures in
    let below = c.if-implementation-len.false in
    let e : length model.subcomponents ≤ c.loop-at.at = omega arith in
    let within : c.args.implementation < length model.implementations = omega arith in
    walked_whole model to c.args.before.now c.args.depth c.args.implementation c.loop-at.at c.args.known c.loop-at.first c.if-depth-eq0.false within e c.loop-at.invariant
