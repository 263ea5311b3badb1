-- The canonical tokens of contracts, one case for each production of the grammar (docs/formats/contracts.md).
use Rattle.std.specs.Prelude.{ℕ, List, [], ◌∷◌, ◌++◌, codes, Option, Some, None}
use Rattle.std.specs.List.{flat_map}
use Rattle.hw_text.specs.declared.base_type.BaseType.{BaseType}
use Rattle.hw_text.specs.BaseTypes.{base_name}
use Rattle.gumbo_parse.specs.declared.class.Class.{Class}
use Rattle.gumbo_parse.specs.declared.class.Class.TheVariants.{Base, Model}
use Rattle.gumbo_parse.specs.declared.class.Variable.{Variable}
use Rattle.gumbo_parse.specs.declared.contract.Clause.{Clause}
use Rattle.gumbo_parse.specs.declared.contract.Handler.{Handler}
use Rattle.gumbo_parse.specs.declared.contract.Compute.{Compute}
use Rattle.gumbo_parse.specs.declared.contract.Contract.{Contract}
use Rattle.gumbo_parse.specs.declared.level.Level.TheVariants as level
use Rattle.gumbo_parse.specs.declared.mark.Mark.TheVariants as mark
use Rattle.gumbo_parse.specs.declared.token.Token.{Token}
use Rattle.gumbo_parse.specs.declared.token.Token.TheVariants as token
use Rattle.gumbo_parse.specs.declared.word.Word.{Word}
use Rattle.gumbo_parse.specs.declared.word.Word.TheVariants as word
use Rattle.gumbo_parse.specs.Annex.{clause_word}
use Rattle.gumbo_parse.specs.ExpressionTokens.{expression_tokens}

-- "::" NAME
abbrev pub step_tokens : List ℕ → List Token
step_tokens n = token.Mark mark.DoubleColon ∷ token.Name n ∷ []

-- [ "." NAME ]
abbrev pub implementation_tokens : Option (List ℕ) → List Token
implementation_tokens None = []
implementation_tokens (Some n) = token.Mark mark.Dot ∷ token.Name n ∷ []

-- "base_types" "::" BASE
abbrev pub base_tokens : BaseType → List Token
base_tokens base = token.Name (codes "base_types") ∷ token.Mark mark.DoubleColon ∷ token.Name (base_name base) ∷ []

-- the same, or NAME { "::" NAME } [ "." NAME ]
abbrev pub class_tokens : Class → List Token
class_tokens (Base at base) = base_tokens base
class_tokens (Model m) = token.Name m.first.name ∷ flat_map step_tokens m.others ++ implementation_tokens m.implementation

-- NAME ":" class ";"
abbrev pub variable_tokens : Variable → List Token
variable_tokens v = token.Name v.name.name ∷ token.Mark mark.Colon ∷ class_tokens v.class ++ token.Mark mark.Semicolon ∷ []

-- [ STRING ]
abbrev pub description_tokens : Option (List ℕ) → List Token
description_tokens None = []
description_tokens (Some d) = token.Text d ∷ []

-- ( "assume" | "guarantee" ) NAME [ STRING ] ":" expr ";"
abbrev pub clause_tokens : Clause → List Token
clause_tokens c =
    token.Word (clause_word c.kind) ∷ token.Name c.name.name ∷ description_tokens c.description ++ token.Mark mark.Colon ∷ [] ++
    expression_tokens c.expression level.Implication ++ token.Mark mark.Semicolon ∷ []

-- nothing for no member, and else the word and the members
abbrev pub section_tokens : {X : Type 0} → Word → (X → List Token) → List X → List Token
section_tokens w tokens [] = []
section_tokens w tokens (x ∷ xs) = token.Word w ∷ flat_map tokens (x ∷ xs)

-- "handle" NAME ":" clause { clause }
abbrev pub handler_tokens : Handler → List Token
handler_tokens h =
    token.Word word.Handle ∷ token.Name h.port.name ∷ token.Mark mark.Colon ∷ clause_tokens h.first ++ flat_map clause_tokens h.others

-- "compute" { clause } { handler }
abbrev pub compute_tokens : Option Compute → List Token
compute_tokens None = []
compute_tokens (Some c) = token.Word word.Compute ∷ flat_map clause_tokens c.clauses ++ flat_map handler_tokens c.handlers

-- the sections of a contract, each where it has something
abbrev pub contract_tokens : Contract → List Token
contract_tokens c =
    section_tokens word.State variable_tokens c.state ++ section_tokens word.Integration clause_tokens c.integration ++
    section_tokens word.Initialize clause_tokens c.initialize ++ compute_tokens c.compute
