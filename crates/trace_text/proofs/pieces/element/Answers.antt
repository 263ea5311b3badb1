use Rattle.std.proofs.Common.{◌∙◌, List, ℕ, sym, ap, arith}
use Rattle.std.specs.List.{slice_get}
use Rattle.arch_model.specs.declared.form.Form.TheVariants as any_form
use Rattle.trace_text.specs.Pieces.{members}
use Rattle.trace_text.proofs.Works.{repeated-within, repeated-beyond}
use Rattle.trace_text.proofs.pieces.element.Goals as goal

pub returns-then-number-from-clause-place : goal.returns-then-number-from-clause-place
returns-then-number-from-clause-place c =
    sym (ap (λ (ps : List ℕ). slice_get (members (any_form.Times c.args.times) ps) c.args.number) c.in_ok-part.ensures.cases.0
    ∙ repeated-within c.args.times c.args.number c.in_ok-part.field-0-0.now (omega (arith, c.if-number-from.true, c.from.ensures)))

pub returns-else-number-from-clause-place : goal.returns-else-number-from-clause-place
returns-else-number-from-clause-place c =
    sym (ap (λ (ps : List ℕ). slice_get (members (any_form.Times c.args.times) ps) c.args.number) c.in_ok-part.ensures.cases.0
    ∙ repeated-beyond c.args.times c.args.number c.in_ok-part.field-0-0.now (omega (arith, c.if-number-from.false, c.from.ensures)))
