use Rattle.std.proofs.Common.{ap, ◌≡◌, ◌<◌, ◌≤◌, ◌+◌, ◌∙◌, drop, subst, sym, List, ℕ, length, get_or, arith, rules}
use Rattle.std.specs.List.{slice_get}
use Rattle.aadl_domains.specs.Components.{in_rows}
use Rattle.aadl_domains.proofs.Spanned.{Row, span_begins, span_ends}
use Rattle.aadl_domains.proofs.Opened.{here_on, further_on, opened_other}
use Rattle.aadl_domains.proofs.listing.Listing.passed.Goals as goal
use Rattle.aadl_domains.proofs.listing.Listing.passed.Goals.{then-row-implementation+else-from-worth, else-row-implementation}

pub loop-at-init : goal.loop-at-init
loop-at-init c = record {
  small = omega arith;
  same = λ inside are. ap (λ (ps : List (List ℕ)). slice_get ps c.args.place)
      (span_begins c.args.self.now.sought inside c.args.self.now.resolved.now c.args.implementation c.args.self.now.tables.now.subcomponents c.args.span c.requires);
}

pub returns-then-from-worth-clause-some : goal.returns-then-from-worth-clause-some
returns-then-from-worth-clause-some c = λ inside are.
    let rows = c.args.self.now.tables.now.subcomponents in
    let here = c.in_ok-row.row.now in
    let found = c.in_ok-row.ensures.lookup in
    let within : c.loop-at.at < length rows = subst (λ (rs : List Row). c.loop-at.at < length rs) c.rows.ensures (omega (arith, found)) in
    let is : here ≡ get_or rows c.loop-at.at here = subst (λ (rs : List Row). here ≡ get_or rs c.loop-at.at here) c.rows.ensures found.1 in
    sym (c.loop-at.invariant.same inside are)
    ∙ here_on c.args.self.now.sought inside c.args.self.now.resolved.now c.args.implementation c.loop-at.at rows here c.get-in-loop-at.result.now c.worth-worth.result c.loop-at.rest
    within is c.get-in-loop-at.ensures c.if-row-implementation.true (c.worth-worth.ensures inside are) (omega arith)

pub loop-at-preserved : goal.loop-at-preserved
loop-at-preserved c =
    let rows = c.args.self.now.tables.now.subcomponents in
    let here = c.in_ok-row.row.now in
    let found = c.in_ok-row.ensures.lookup in
    let within : c.loop-at.at < length rows = subst (λ (rs : List Row). c.loop-at.at < length rs) c.rows.ensures (omega (arith, found)) in
    let is : here ≡ get_or rows c.loop-at.at here = subst (λ (rs : List Row). here ≡ get_or rs c.loop-at.at here) c.rows.ensures found.1 in
    let small = c.loop-at.invariant.small in
    elim c.if-row-implementation.branch [
      | then-row-implementation+else-from-worth w ↦
          let past : w.worth-worth.result ≤ c.loop-at.rest = omega arith in
          let narrow : c.loop-at.rest < 4294967296 = search rules in
          record {
            small = omega arith;
            same = λ inside are.
                ap (slice_get (in_rows c.args.self.now.sought inside c.args.self.now.resolved.now c.args.implementation (c.loop-at.at + 1) (drop (c.loop-at.at + 1) rows))) w.rest-is
                ∙ (further_on c.args.self.now.sought inside c.args.self.now.resolved.now c.args.implementation c.loop-at.at rows here c.get-in-loop-at.result.now w.worth-worth.result c.loop-at.rest
                within is c.get-in-loop-at.ensures w.if-row-implementation.true (w.worth-worth.ensures inside are) past narrow
                ∙ c.loop-at.invariant.same inside are);
          }
      | else-row-implementation w ↦
          record {
            small = omega arith;
            same = λ inside are.
                ap (slice_get (in_rows c.args.self.now.sought inside c.args.self.now.resolved.now c.args.implementation (c.loop-at.at + 1) (drop (c.loop-at.at + 1) rows))) w.rest-is
                ∙ (ap (λ (ps : List (List ℕ)). slice_get ps c.loop-at.rest)
                (sym (opened_other c.args.self.now.sought inside c.args.self.now.resolved.now c.args.implementation c.loop-at.at rows here within is w.if-row-implementation.false))
                ∙ c.loop-at.invariant.same inside are);
          }
    ]

pub returns-clause-none : goal.returns-clause-none
returns-clause-none c = λ inside are.
    sym (c.loop-at.invariant.same inside are)
    ∙ ap (λ (ps : List (List ℕ)). slice_get ps c.loop-at.rest)
    (span_ends c.args.self.now.sought inside c.args.self.now.resolved.now c.args.implementation c.loop-at.at c.args.self.now.tables.now.subcomponents c.args.span c.requires c.loop-at-test.false)
