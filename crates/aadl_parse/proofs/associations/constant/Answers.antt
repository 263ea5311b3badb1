use Rattle.std.proofs.Common.{sym, ◌∙◌, [], ◌∷◌, codes}
use Rattle.aadl_tree.specs.declared.word.Word.TheVariants as word
use Rattle.aadl_parse.specs.Laws.{without-none}
use Rattle.aadl_parse.specs.SimpleValue.{Symbol}
use Rattle.aadl_parse.specs.Starts.{a_word}
use Rattle.aadl_parse.proofs.Repeats.{absent, present}
use Rattle.aadl_parse.proofs.Steps.{final, final_halt}
use Rattle.aadl_parse.proofs.associations.constant.Goals as goal

pub returns-then-not-stands_word : goal.returns-then-not-stands_word
returns-then-not-stands_word c =
    absent (Symbol (codes "constant")) (codes "constant" ∷ []) [] (a_word word.Constant).begins _ (sym c.stands_word.ensures ∙ c.if-not-stands_word.true)

pub returns-in_err-keyword : goal.returns-in_err-keyword
returns-in_err-keyword c =
    final_halt (λ m f. without-none m) (present (Symbol (codes "constant")) (codes "constant" ∷ []) [] (a_word word.Constant).begins _ (sym c.stands_word.ensures ∙ c.if-not-stands_word.false))
    _ _ _ c.from_residual.ensures.1 c.in_err-keyword.ensures

pub returns : goal.returns
returns c =
    final (λ m f. without-none m) (present (Symbol (codes "constant")) (codes "constant" ∷ []) [] (a_word word.Constant).begins _ (sym c.stands_word.ensures ∙ c.if-not-stands_word.false))
    c.in_ok-keyword.ensures
