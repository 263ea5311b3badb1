use Rattle.std.proofs.Common.{◌≡◌, ℤ, List, ◌∙◌}
use Rattle.std.specs.Prelude.{MatchResult}
use Rattle.hamr_cli.specs.TraceFault.{IsMemory}
use Rattle.hamr_cli.proofs.TraceLists.{list-split, list-empty, list-some}
use Rattle.hamr_cli.proofs.trace.values.read_list.Goals as goal

pub returns-in-Some-behind-clause-only : goal.returns-in-Some-behind-clause-only
returns-in-Some-behind-clause-only c = λ values more all e.
    let inner = list-split values _ _ more c.in-Some.ensures.found e in
    let same = list-empty values _ _ more c.in-Some-behind.ensures.found all inner in
    (c.new.ensures ∙ same.0, same.1)

pub returns-in-None-clause-only : goal.returns-in-None-clause-only
returns-in-None-clause-only c = λ values more all e.
    let inner = list-split values _ _ more c.in-Some.ensures.found e in
    let Gives : List (List ℤ) → Type 0 = λ listed. MatchResult c.read_values.result (λ r. (r.0 ≡ listed) × (r.1.now ≡ more)) IsMemory in
    list-some values _ more Gives c.in-None.ensures.only (λ value others some f. c.read_values.ensures.only value others more some f) all inner
