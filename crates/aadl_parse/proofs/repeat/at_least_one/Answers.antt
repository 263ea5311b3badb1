use Rattle.std.proofs.Common.{ap, ◌∙◌, [], ◌∷◌, ◌++◌}
use Rattle.hw_text.proofs.Reading.{failed}
use Rattle.aadl_parse.proofs.SomeOf.{head-stuck, some_of-read}
use Rattle.aadl_parse.proofs.repeat.at_least_one.Goals as goal

pub returns-in_err-first : goal.returns-in_err-first
returns-in_err-first g c =
    failed _ _ _ _ _ _ _ _ _ c.from_residual.ensures.1 c.in_err-first.ensures
    (head-stuck g.A.Part.spells g.A.Part.starts g.A.Part.goes_on g.A.Part.begun g.met.A.Behind.apart _ _)

pub returns : goal.returns
returns g c =
    some_of-read g.A.Part.spells g.A.Part.starts g.A.Part.goes_on g.A.Part.begun g.met.A.Behind.apart _ _ _ c.in_ok-first.ensures _ _ _
    (c.in_ok-push.ensures.ok ∙ ap (λ xs. xs ++ c.in_ok-first.first ∷ []) c.new-started.ensures) c.members.ensures
