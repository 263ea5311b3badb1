use Rattle.c_parse.proofs.Steps.{fails, made, passed}
use Rattle.std.proofs.Common.{sym, ◌∙◌}
use Rattle.c_parse.proofs.PlainTexts.{name_before, name_never_stuck, class_named}
use Rattle.c_parse.proofs.PlainChoices.{local_ahead, alone_ahead, assignment_ahead}
use Rattle.c_parse.proofs.TwoAhead.{widened}
use Rattle.std.proofs.Common.{subst}
use Rattle.hw_text.specs.Reading.{Anything, Reads}
use Rattle.c_parse.specs.Values.{Tokens}
use Rattle.c_parse.specs.PlainGrammar.{SpellsPlain}
use Rattle.c_parse.proofs.Steps.{handed, remake}
use Rattle.c_parse.proofs.plain.named.Goals as goal

pub returns-in_err-name : goal.returns-in_err-name
returns-in_err-name c = fails _ _ c.from_residual.ensures.1 c.in_err-name.ensures (λ part. absurd (name_never_stuck c.requires part))

pub returns-then-stands_name : goal.returns-then-stands_name
returns-then-stands_name c = subst (λ (l : Tokens). Reads (SpellsPlain c.args.dialect) Anything l c.local_behind.new.tokens c.local_behind.result) (sym (name_before c.in_ok-name.ensures))
    (widened (local_ahead _ _ _ (sym c.stands_name.ensures ∙ c.if-stands_name.true)) _ _ (handed (remake (passed (made _ _ _ _) (class_named _ _))) (λ m follows. tt) _ _ c.local_behind.ensures))

pub returns-then-stands : goal.returns-then-stands
returns-then-stands c = subst (λ (l : Tokens). Reads (SpellsPlain c.args.dialect) Anything l c.call_alone_behind.new.tokens c.call_alone_behind.result) (sym (name_before c.in_ok-name.ensures))
    (widened (alone_ahead _ _ _ (sym c.stands.ensures ∙ c.if-stands.true)) _ _ (c.call_alone_behind.ensures))

pub returns : goal.returns
returns c = subst (λ (l : Tokens). Reads (SpellsPlain c.args.dialect) Anything l c.assignment_behind.new.tokens c.assignment_behind.result) (sym (name_before c.in_ok-name.ensures))
    (widened (assignment_ahead _ _ _ (sym c.stands_name.ensures ∙ c.if-stands_name.false) (sym c.stands.ensures ∙ c.if-stands.false)) _ _ (c.assignment_behind.ensures))
