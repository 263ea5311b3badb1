use Rattle.std.proofs.Common.{ap, subst, ◌∙◌, List, [], ◌∷◌, ◌++◌}
use Rattle.hw_text.specs.Language.{Each, Made}
use Rattle.hw_text.specs.Reading.{Reads}
use Rattle.aadl_parse.specs.Shapes.{Without}
use Rattle.aadl_parse.proofs.repeat.behind_first.Goals as goal

pub returns : goal.returns
returns g c =
    subst (λ xs. Reads (Made (λ later. xs ++ later) (Each g.A.Part.spells)) (Without (g.A.Part.starts ++ g.A.Part.goes_on)) c.args.tokens.now c.members.new.tokens c.members.result)
    (c.in_ok-push.ensures.ok ∙ ap (λ xs. xs ++ c.args.first ∷ []) c.new-started.ensures) c.members.ensures
