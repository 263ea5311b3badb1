use Rattle.std.proofs.Common.{refl, List, [], ◌∷◌, ◌++◌}
use Rattle.gumbo_parse.specs.declared.mark.Mark.TheVariants as mark
use Rattle.gumbo_parse.specs.declared.token.Token.{Token}
use Rattle.gumbo_parse.specs.declared.token.Token.TheVariants as token
use Rattle.gumbo_parse.specs.Allowed.{AreAllowed}
use Rattle.gumbo_parse.specs.ContractTokens.{class_tokens, variable_tokens}
use Rattle.gumbo_parse.proofs.Allowing.{always, more, one, both, name_allowed}
use Rattle.gumbo_parse.proofs.class.Variable.print.Goals as goal

pub returns-clause-allowed : goal.returns-clause-allowed
returns-clause-allowed c =
    let v = c.args.self.now in
    let end : List Token = token.Mark mark.Semicolon ∷ [] in
    let us : List Token = class_tokens v.class ++ end in
    always c.print_line.result (AreAllowed (variable_tokens v))
    (more (token.Name v.name.name) (token.Mark mark.Colon ∷ us) (name_allowed v.name.name c.rows.ensures.identifier c.rows.ensures.lower)
    (more (token.Mark mark.Colon) us refl (both (class_tokens v.class) end c.in_ok-print.ensures.allowed (one (token.Mark mark.Semicolon) refl))))
