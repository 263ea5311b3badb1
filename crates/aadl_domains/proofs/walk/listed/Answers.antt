use Rattle.std.proofs.Common.{ap, ◌<◌, ◌∙◌, List, ℕ, length, arith}
use Rattle.aadl_domains.specs.Components.{counted}
use Rattle.aadl_domains.proofs.Opened.{whole}
use Rattle.aadl_domains.proofs.Rounds.{round_at}
use Rattle.aadl_domains.proofs.walk.listed.Goals as goal

pub returns-clause-count : goal.returns-clause-count
returns-clause-count c =
    let long = c.in_ok-survey.ensures.long in
    let within : 33 < length c.in_ok-survey.survey.rounds = omega arith in
    c.of.ensures
    ∙ (round_at c.args.sought c.args.tables.now c.args.resolved.now c.in_ok-survey.survey.rounds c.rows.result.now c.index-rows-33.result 33 c.in_ok-survey.ensures.rounds
    c.rows.ensures c.index-rows-33.is within c.args.root
    ∙ ap (λ (ps : List (List ℕ)). counted (length ps)) (whole c.args.sought c.args.tables.now c.args.resolved.now c.args.root))
