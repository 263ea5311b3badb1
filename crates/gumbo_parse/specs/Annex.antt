-- The grammar of contracts, and their canonical text (this project's own; docs/formats/contracts.md).
use Rattle.std.specs.Prelude.{ℕ, false, List, [], ◌∷◌, ◌++◌, codes, Option, Some, None, ⊤}
use Rattle.std.specs.List.{flat_map}
use Rattle.hw_text.specs.declared.place.Place.{Place}
use Rattle.hw_reading.specs.Lists.{SomeOf}
use Rattle.hw_text.specs.Language.{One, ◌⋅◌, Maybe, Each, Made}
use Rattle.gumbo_parse.specs.declared.class.Variable.{Variable}
use Rattle.gumbo_parse.specs.declared.contract.ClauseKind.{ClauseKind}
use Rattle.gumbo_parse.specs.declared.contract.ClauseKind.TheVariants.{Assume, Guarantee}
use Rattle.gumbo_parse.specs.declared.contract.Clause.{Clause}
use Rattle.gumbo_parse.specs.declared.contract.Handler.{Handler}
use Rattle.gumbo_parse.specs.declared.contract.Compute.{Compute}
use Rattle.gumbo_parse.specs.declared.contract.Contract.{Contract}
use Rattle.gumbo_parse.specs.declared.expression.Expression.{Expression}
use Rattle.gumbo_parse.specs.declared.expression.Named.{Named}
use Rattle.gumbo_parse.specs.declared.level.Level.TheVariants as level
use Rattle.gumbo_parse.specs.declared.mark.Mark.TheVariants as mark
use Rattle.gumbo_parse.specs.declared.shape.Shape.{Shape}
use Rattle.gumbo_parse.specs.declared.shape.Shape.TheVariants as shape
use Rattle.gumbo_parse.specs.declared.word.Word.{Word}
use Rattle.gumbo_parse.specs.declared.word.Word.TheVariants as word
use Rattle.gumbo_parse.specs.Classes.{SpellsVariable, variable_text}
use Rattle.gumbo_parse.specs.Grammar.{Sign, Keyword, Name, SpellsStarted}
use Rattle.gumbo_parse.specs.Printing.{expression_text}
use Rattle.gumbo_parse.specs.Values.{Tokens, one_listed, text_of}
use Rattle.gumbo_parse.specs.Words.{word_spelling}

abbrev pub clause_word : ClauseKind → Word
clause_word Assume = word.Assume
clause_word Guarantee = word.Guarantee

abbrev pub kinds : List (Shape × ClauseKind)
kinds = (shape.Word word.Assume, Assume) ∷ (shape.Word word.Guarantee, Guarantee) ∷ []

abbrev pub ClauseParts : Type 0
ClauseParts = (Place × ClauseKind) × (Named × (Option (List ℕ) × (Place × ((Place × Expression) × Place))))

abbrev pub clause_of : ClauseParts → Clause
clause_of p = record {
  kind = p.0.1;
  name = p.1.0;
  description = p.1.1.0;
  expression_place = p.1.1.1.1.0.0;
  expression = p.1.1.1.1.0.1;
}

-- ( "assume" | "guarantee" ) NAME [ STRING ] ":" expr ";"
abbrev pub SpellsClause : Clause → Tokens → Type 0
SpellsClause = Made clause_of (One (one_listed kinds) ⋅ Name ⋅ Maybe (One text_of) ⋅ Sign mark.Colon ⋅ SpellsStarted ⋅ Sign mark.Semicolon)

abbrev pub or_none : {V X : Type 0} → Option (V × List X) → List X
or_none None = []
or_none (Some p) = p.1

-- [ word x { x } ]
abbrev pub SpellsSection : {V X : Type 0} → (V → Tokens → Type 0) → (X → Tokens → Type 0) → List X → Tokens → Type 0
SpellsSection W A = Made or_none (Maybe (W ⋅ SomeOf A))

abbrev pub SpellsState : List Variable → Tokens → Type 0
SpellsState = SpellsSection (Keyword word.State) SpellsVariable

abbrev pub SpellsIntegration : List Clause → Tokens → Type 0
SpellsIntegration = SpellsSection (Keyword word.Integration) SpellsClause

-- the two spellings of one word
abbrev pub initial : List (Shape × ⊤)
initial = (shape.Word word.Initialize, tt) ∷ (shape.Word word.Initialise, tt) ∷ []

abbrev pub SpellsInitialize : List Clause → Tokens → Type 0
SpellsInitialize = SpellsSection (One (one_listed initial)) SpellsClause

abbrev pub handler_of : Place × (Named × (Place × (Clause × List Clause))) → Handler
handler_of p = record { port = p.1.0; first = p.1.1.1.0; others = p.1.1.1.1 }

-- "handle" NAME ":" clause { clause }
abbrev pub SpellsHandler : Handler → Tokens → Type 0
SpellsHandler = Made handler_of (Keyword word.Handle ⋅ Name ⋅ Sign mark.Colon ⋅ SpellsClause ⋅ Each SpellsClause)

abbrev pub compute_of : Place × (List Clause × List Handler) → Compute
compute_of p = record { clauses = p.1.0; handlers = p.1.1 }

-- "compute" { clause } { handler }
abbrev pub SpellsCompute : Compute → Tokens → Type 0
SpellsCompute = Made compute_of (Keyword word.Compute ⋅ Each SpellsClause ⋅ Each SpellsHandler)

abbrev pub contract_of : List Variable × (List Clause × (List Clause × Option Compute)) → Contract
contract_of p = record { state = p.0; integration = p.1.0; initialize = p.1.1.0; compute = p.1.1.1 }

-- the sections of a contract, each where it has something
abbrev pub SpellsContract : Contract → Tokens → Type 0
SpellsContract = Made contract_of (SpellsState ⋅ SpellsIntegration ⋅ SpellsInitialize ⋅ Maybe SpellsCompute)

abbrev pub line : List ℕ → List ℕ
line text = text ++ 10 ∷ []

abbrev pub description_text : Option (List ℕ) → List ℕ
description_text None = []
description_text (Some text) = codes " \"" ++ text ++ codes "\""

-- one line
abbrev pub clause_text : Clause → List ℕ
clause_text c =
    word_spelling (clause_word c.kind) ++ codes " " ++ c.name.name ++ description_text c.description ++ codes ": " ++
    expression_text c.expression level.Implication false ++ line (codes ";")

abbrev pub clauses_text : List Clause → List ℕ
clauses_text cs = flat_map clause_text cs

-- nothing for no member, and else a line for the word and one for each member
abbrev pub section_text : {X : Type 0} → Word → (X → List ℕ) → List X → List ℕ
section_text w text [] = []
section_text w text (x ∷ xs) = line (word_spelling w) ++ flat_map text (x ∷ xs)

-- a line for the port, and one for each clause
abbrev pub handler_text : Handler → List ℕ
handler_text h = codes "handle " ++ h.port.name ++ line (codes ":") ++ clause_text h.first ++ clauses_text h.others

abbrev pub compute_text : Option Compute → List ℕ
compute_text None = []
compute_text (Some c) = line (codes "compute") ++ clauses_text c.clauses ++ flat_map handler_text c.handlers

abbrev pub annex_text : Contract → List ℕ
annex_text c =
    section_text word.State variable_text c.state ++ section_text word.Integration clause_text c.integration ++
    section_text word.Initialize clause_text c.initialize ++ compute_text c.compute
