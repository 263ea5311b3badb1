use Rattle.std.proofs.Common.{refl, sym, subst, ◌∷◌, Option}
use Rattle.hw_text.specs.Reading.{Anything, Reached}
use Rattle.hw_text.proofs.Reading.{one-reached}
use Rattle.c_tree.specs.declared.named.Named.{Named}
use Rattle.c_parse.specs.Values.{name_of, name_token}
use Rattle.c_parse.specs.ExpressionGrammar.{Name}
use Rattle.c_parse.specs.PartGrammar.{from_name}
use Rattle.c_parse.proofs.names.name.Goals as goal

pub returns-in-Some : goal.returns-in-Some
returns-in-Some c =
    subst (λ (p : Option Named). Reached Name Anything (from_name p c.args.tokens.now) c.args.tokens.now c.in-Some.name) (sym c.in-Some.is)
    (one-reached name_of Anything (name_token c.in-Some.name ∷ c.args.tokens.now) c.args.tokens.now (name_token c.in-Some.name) c.in-Some.name refl refl refl)
