use Rattle.std.proofs.Common.{sym, ◌∙◌}
use Rattle.c_parse.proofs.Steps.{handed}
use Rattle.c_parse.proofs.BaseTexts.{passed_there, pointer_there, named_there, name_passed, none_passed}
use Rattle.c_parse.proofs.bases.base.Goals as goal

pub returns-then-is_some : goal.returns-then-is_some
returns-then-is_some c = handed (passed_there _ _ (name_passed c.args.passed _ (sym c.is_some.ensures ∙ c.if-is_some.true))) (λ m follows. follows) _ _ c.named_base.ensures

pub returns-then-stands_in_full : goal.returns-then-stands_in_full
returns-then-stands_in_full c =
    rw (none_passed c.args.passed c.args.tokens.now (sym c.is_some.ensures ∙ c.if-is_some.false))
    (handed (pointer_there _ _ (sym c.stands_in_full.ensures ∙ c.if-stands_in_full.true)) (λ m follows. tt) _ _ c.pointed_base.ensures)

pub returns : goal.returns
returns c =
    rw (none_passed c.args.passed c.args.tokens.now (sym c.is_some.ensures ∙ c.if-is_some.false))
    (handed (named_there _ _ (sym c.stands_in_full.ensures ∙ c.if-stands_in_full.false)) (λ m follows. follows) _ _ c.named_base-2.ensures)
