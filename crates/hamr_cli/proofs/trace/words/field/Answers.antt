use Rattle.std.proofs.Common.{◌∷◌, ◌∙◌, sym, refl}
use Rattle.hamr_cli.proofs.TraceWords.{one_split}
use Rattle.hamr_cli.proofs.trace.words.field.Goals as goal

pub returns-in_err-rest-clause-only : goal.returns-in_err-rest-clause-only
returns-in_err-rest-clause-only c = λ word more w e.
    let s = one_split _ _ word (32 ∷ more) c.split_word.ensures.word c.split_word.ensures.ended w refl (sym c.split_word.ensures.whole ∙ e) in
    absurd (c.in_err-rest.ensures.only more s.back)

pub returns-clause-only : goal.returns-clause-only
returns-clause-only c = λ word more w e.
    let s = one_split _ _ word (32 ∷ more) c.split_word.ensures.word c.split_word.ensures.ended w refl (sym c.split_word.ensures.whole ∙ e) in
    (s.front, c.in_ok-rest.ensures.only more s.back)
