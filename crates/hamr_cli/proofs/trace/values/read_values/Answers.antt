use Rattle.std.proofs.Common.{◌∙◌, ◌++◌, [], ◌∷◌, ap, rules}
use Rattle.hamr_cli.specs.TraceFault.{IsMemory}
use Rattle.hamr_cli.proofs.TraceLists.{reads-first, reads-more, no_value-front, no_value-behind, values-end}
use Rattle.hamr_cli.proofs.trace.values.read_values.Goals as goal

pub returns-in_err-first-clause-only : goal.returns-in_err-first-clause-only
returns-in_err-first-clause-only c = λ value values more all e.
    let memory : IsMemory c.in_err-first.field-0.0 =
    no_value-front _ (IsMemory c.in_err-first.field-0.0) c.in_err-first.ensures.only value values more all e in
    search rules

pub loop-after-init : goal.loop-after-init
loop-after-init c =
    let first = c.in_ok-first in
    let push = c.in_ok-push.ensures.ok ∙ ap (λ l. l ++ c.in_ok-first.first ∷ []) c.new-values.ensures in
    reads-first _ first.first _ _ push first.ensures.typed first.ensures.found first.ensures.only

pub returns-in_err-value-clause-only : goal.returns-in_err-value-clause-only
returns-in_err-value-clause-only c = λ value values more all e.
    let memory : IsMemory c.in_err-value.field-0.0 =
    no_value-behind _ _ _ _ (IsMemory c.in_err-value.field-0.0) c.loop-after.invariant c.in-Some.ensures.found c.in_err-value.ensures.only value values more all e in
    search rules

pub loop-after-preserved : goal.loop-after-preserved
loop-after-preserved c =
    let value = c.in_ok-value in
    reads-more _ _ _ _ value.value _ _ c.loop-after.invariant c.in-Some.ensures.found value.ensures.typed value.ensures.found value.ensures.only c.in_ok-push-2.ensures.ok

pub returns-in-Some-behind-clause-only : goal.returns-in-Some-behind-clause-only
returns-in-Some-behind-clause-only c = λ value values more all e.
    let end = values-end _ _ _ c.loop-after.invariant c.in_default.ensures.only value values more all e in
    (end.0, c.in-Some-behind.ensures.only more end.1)

pub returns-clause-only : goal.returns-clause-only
returns-clause-only c = λ value values more all e.
    let end = values-end _ _ _ c.loop-after.invariant c.in_default.ensures.only value values more all e in
    c.in-None.ensures.only more end.1
