use Rattle.std.proofs.Common.{ap, ◌<◌, ◌+◌, ◌∙◌, List, ℕ, Option, length, arith}
use Rattle.std.proofs.lemmas.List.{length_push}
use Rattle.hw_text.specs.declared.place.Place.{Place}
use Rattle.aadl_domains.specs.declared.sought.Sought.TheVariants as sought
use Rattle.aadl_domains.specs.Components.{components_within}
use Rattle.aadl_timing.proofs.Bounded.{more_rounds, round_at, next_round}
use Rattle.aadl_timing.proofs.instance.Instance.deep_bounds.Goals as goal

pub loop-depth-preserved : goal.loop-depth-preserved
loop-depth-preserved c =
    let t = c.args.self.now.tables.now in
    let to = c.args.self.now.resolved.now in
    let kept = c.loop-depth.invariant in
    let long = kept.long in
    let within : c.loop-depth.depth < length c.loop-depth.rounds = omega arith in
    let below = round_at t to c.loop-depth.rounds c.rows.result.now c.index-rows-depth.result c.loop-depth.depth kept.bounds c.rows.ensures c.index-rows-depth.is within in
    record {
      long = ap (λ (rs : List (List (Option Place))). length rs) c.in_ok-push-2.ensures.ok ∙ (length_push c.loop-depth.rounds c.in_ok-next.next ∙ ap (λ (n : ℕ). n + 1) long);
      bounds = more_rounds t to c.loop-depth.rounds c.push-in-loop-depth.new.self c.in_ok-next.next (c.loop-depth.depth + 1) kept.bounds long
          (next_round t to c.in_ok-next.next c.loop-depth.depth (c.in_ok-next.ensures (components_within sought.Domain t to c.loop-depth.depth) below)) c.in_ok-push-2.ensures.ok;
    }
