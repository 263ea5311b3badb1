use Rattle.std.proofs.Common.{ap, ◌≡◌, ◌<◌, ◌-◌, ◌∙◌, ◌++◌, subst, sym, List, ℕ, length, Option, None, IfOk, option_map, arith}
use Rattle.std.specs.List.{slice_get}
use Rattle.aadl_domains.specs.Components.{components_within}
use Rattle.aadl_domains.proofs.Opened.{level_found, led_inside, led_nowhere, ended_here, whole}
use Rattle.aadl_domains.proofs.Rounds.{round_at}
use Rattle.aadl_domains.proofs.Ways.{no_prefix}
use Rattle.aadl_domains.proofs.listing.Listing.component.Goals as goal

pub loop-depth-init : goal.loop-depth-init
loop-depth-init c = record {
  deep = omega arith;
  same = ap (λ (path : List ℕ). option_map (λ (last : List ℕ). path ++ last) (slice_get (components_within c.args.self.now.sought c.args.self.now.tables.now c.args.self.now.resolved.now 33 c.args.root) c.args.place)) c.new-path.ensures
      ∙ (no_prefix _ ∙ ap (λ (ps : List (List ℕ)). slice_get ps c.args.place) (whole c.args.self.now.sought c.args.self.now.tables.now c.args.self.now.resolved.now c.args.root));
}

pub returns-in_default : goal.returns-in_default
returns-in_default c =
    let asked = c.args.self.now.sought in
    let t = c.args.self.now.tables.now in
    let to = c.args.self.now.resolved.now in
    let kept = c.loop-depth.invariant in
    let deep = kept.deep in
    let long = c.requires.long in
    let depth = c.loop-depth.depth in
    let within : depth - 1 < length c.args.survey.now.rounds = omega arith in
    let below = round_at asked t to c.args.survey.now.rounds c.rows.result.now c.index-rows-depth.result (depth - 1) c.requires.rounds c.rows.ensures c.index-rows-depth.is within in
    level_found asked t to c.loop-depth.path depth c.loop-depth.within c.loop-depth.rest None _ c.loop-depth-test.true (subst (λ (n : ℕ). c.loop-depth.within < n) c.len.ensures c.if-within-len.true)
    kept.same (c.in_default.ensures.none (components_within asked t to (depth - 1)) below)

pub returns-then-is : goal.returns-then-is
returns-then-is c =
    let asked = c.args.self.now.sought in
    let t = c.args.self.now.tables.now in
    let to = c.args.self.now.resolved.now in
    let kept = c.loop-depth.invariant in
    let deep = kept.deep in
    let long = c.requires.long in
    let depth = c.loop-depth.depth in
    let within : depth - 1 < length c.args.survey.now.rounds = omega arith in
    let below = round_at asked t to c.args.survey.now.rounds c.rows.result.now c.index-rows-depth.result (depth - 1) c.requires.rounds c.rows.ensures c.index-rows-depth.is within in
    subst (λ (o : Option (List ℕ)). IfOk c.reached.result (λ path. path ≡ o))
    (ended_here asked t to c.loop-depth.path depth c.loop-depth.within c.loop-depth.rest c.in-Some.passed.row c.in-Some.passed.place c.in-Some.passed.category _ c.loop-depth-test.true
    (subst (λ (n : ℕ). c.loop-depth.within < n) c.len.ensures c.if-within-len.true) (sym c.is.ensures ∙ c.if-is.true) kept.same
    (c.in-Some.ensures.some (components_within asked t to (depth - 1)) below))
    c.reached.ensures

pub returns-in_default-led_to : goal.returns-in_default-led_to
returns-in_default-led_to c =
    let asked = c.args.self.now.sought in
    let t = c.args.self.now.tables.now in
    let to = c.args.self.now.resolved.now in
    let kept = c.loop-depth.invariant in
    let deep = kept.deep in
    let long = c.requires.long in
    let depth = c.loop-depth.depth in
    let within : depth - 1 < length c.args.survey.now.rounds = omega arith in
    let below = round_at asked t to c.args.survey.now.rounds c.rows.result.now c.index-rows-depth.result (depth - 1) c.requires.rounds c.rows.ensures c.index-rows-depth.is within in
    led_nowhere asked t to c.loop-depth.path depth c.loop-depth.within c.loop-depth.rest c.in-Some.passed.row c.in-Some.passed.place c.in-Some.passed.category _ c.loop-depth-test.true
    (subst (λ (n : ℕ). c.loop-depth.within < n) c.len.ensures c.if-within-len.true) (sym c.is.ensures ∙ c.if-is.false) (sym c.in_default-led_to.ensures) kept.same
    (c.in-Some.ensures.some (components_within asked t to (depth - 1)) below)

pub loop-depth-preserved : goal.loop-depth-preserved
loop-depth-preserved c =
    let asked = c.args.self.now.sought in
    let t = c.args.self.now.tables.now in
    let to = c.args.self.now.resolved.now in
    let kept = c.loop-depth.invariant in
    let deep = kept.deep in
    let long = c.requires.long in
    let depth = c.loop-depth.depth in
    let within : depth - 1 < length c.args.survey.now.rounds = omega arith in
    let below = round_at asked t to c.args.survey.now.rounds c.rows.result.now c.index-rows-depth.result (depth - 1) c.requires.rounds c.rows.ensures c.index-rows-depth.is within in
    record {
      deep = omega arith;
      same = ap (λ (path : List ℕ). option_map (λ (last : List ℕ). path ++ last) (slice_get (components_within asked t to (depth - 1) c.in-Some-led_to.inner) c.in-Some.passed.place)) c.in_ok-push.ensures.ok
          ∙ led_inside asked t to c.loop-depth.path depth c.loop-depth.within c.loop-depth.rest c.in-Some.passed.row c.in-Some-led_to.inner c.in-Some.passed.place c.in-Some.passed.category _
          c.loop-depth-test.true (subst (λ (n : ℕ). c.loop-depth.within < n) c.len.ensures c.if-within-len.true) (sym c.is.ensures ∙ c.if-is.false) (sym c.in-Some-led_to.ensures) kept.same
          (c.in-Some.ensures.some (components_within asked t to (depth - 1)) below);
    }
