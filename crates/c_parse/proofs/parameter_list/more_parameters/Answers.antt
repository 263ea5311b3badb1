use Rattle.c_parse.proofs.Steps.{fails}
use Rattle.c_parse.proofs.Lists.{one_read, list_read, member_stuck, member_read, member_shorter}
use Rattle.std.proofs.Common.{sym, ap, ◌++◌, ◌∷◌, [], ◌∙◌}
use Rattle.c_parse.proofs.ParameterTexts.{more_listed}
use Rattle.c_parse.proofs.parameter_list.more_parameters.Goals as goal

pub parameters-init : goal.parameters-init
parameters-init c = one_read (more_listed _) _ _ (c.in_ok-push.ensures.ok ∙ ap (λ l. l ++ c.args.first ∷ []) c.new-parameters.ensures) _

pub returns-in_err-next : goal.returns-in_err-next
returns-in_err-next c = fails _ _ c.from_residual-in_err-next.ensures.1 c.in_err-next.ensures (member_stuck (more_listed _) _ c.parameters.invariant (sym c.stands.ensures ∙ c.parameters-test.true))

pub parameters-smaller : goal.parameters-smaller
parameters-smaller c = member_shorter (more_listed _) c.in_ok-next.ensures

pub parameters-preserved : goal.parameters-preserved
parameters-preserved c = member_read (more_listed _) _ c.parameters.invariant (sym c.stands.ensures ∙ c.parameters-test.true) c.in_ok-push-2.ensures.ok c.in_ok-next.ensures

pub returns : goal.returns
returns c = list_read (more_listed _) _ c.parameters.invariant (sym c.stands.ensures ∙ c.parameters-test.false)
