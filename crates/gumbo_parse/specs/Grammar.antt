-- The grammar of expressions: which tokens spell a tree. Parentheses are no part of it (docs/formats/contracts.md).
use Rattle.std.specs.Prelude.{◌≡◌, ℕ, Bool, true, false, is_some, List, [], ◌∷◌, ◌++◌, Option, Some, None}
use Rattle.hw_text.specs.declared.place.Place.{Place}
use Rattle.hw_text.specs.Language.{One, ◌⋅◌, Maybe, Made}
use Rattle.gumbo_parse.specs.declared.expression.Named.{Named}
use Rattle.gumbo_parse.specs.declared.expression.Bound.{Bound}
use Rattle.gumbo_parse.specs.declared.expression.Selector.{Selector}
use Rattle.gumbo_parse.specs.declared.expression.Selector.TheVariants.{Field, Index}
use Rattle.gumbo_parse.specs.declared.expression.Expression.{Expression}
use Rattle.gumbo_parse.specs.declared.expression.Expression.TheVariants.{Number, Truth, Value, Before, Test, MustSend, Unary, Binary, Quantified}
use Rattle.gumbo_parse.specs.declared.level.Level.{Level}
use Rattle.gumbo_parse.specs.declared.level.Level.TheVariants as level
use Rattle.gumbo_parse.specs.declared.level.Form.TheVariants as form
use Rattle.gumbo_parse.specs.declared.mark.Mark.{Mark}
use Rattle.gumbo_parse.specs.declared.mark.Mark.TheVariants as mark
use Rattle.gumbo_parse.specs.declared.operation.Operation.{Operation}
use Rattle.gumbo_parse.specs.declared.quantification.Quantification.{Quantification}
use Rattle.gumbo_parse.specs.declared.operator.UnaryOperator.{UnaryOperator}
use Rattle.gumbo_parse.specs.declared.operator.BinaryOperator.{BinaryOperator}
use Rattle.gumbo_parse.specs.declared.operator.Quantifier.{Quantifier}
use Rattle.gumbo_parse.specs.declared.operator.Quantifier.TheVariants.{ForAll, Exists}
use Rattle.gumbo_parse.specs.declared.operator.PortTest.{PortTest}
use Rattle.gumbo_parse.specs.declared.operator.PortTest.TheVariants as test
use Rattle.gumbo_parse.specs.declared.word.Word.{Word}
use Rattle.gumbo_parse.specs.declared.word.Word.TheVariants as word
use Rattle.gumbo_parse.specs.Levels.{next, right, form_of, infixes, prefixes}
use Rattle.gumbo_parse.specs.Values.{Tokens, place_of, one_listed, name_of, number_of}
use Rattle.gumbo_parse.specs.declared.shape.Shape.{Shape}
use Rattle.gumbo_parse.specs.declared.shape.Shape.TheVariants as shape

-- this mark
abbrev pub Sign : Mark → Place → Tokens → Type 0
Sign m = One (place_of (shape.Mark m))

-- this word
abbrev pub Keyword : Word → Place → Tokens → Type 0
Keyword w = One (place_of (shape.Word w))

abbrev pub Name : Named → Tokens → Type 0
Name = One name_of

abbrev pub truths : List (Shape × Bool)
truths = (shape.Word word.True, true) ∷ (shape.Word word.False, false) ∷ []

-- what is asked of a port alone
abbrev pub tests : List (Shape × PortTest)
tests = (shape.Word word.HasEvent, test.HasEvent) ∷ (shape.Word word.NoSend, test.NoSend) ∷ []

abbrev pub quantifiers : List (Shape × Quantifier)
quantifiers = (shape.Word word.ForAll, ForAll) ∷ (shape.Word word.Exists, Exists) ∷ []

abbrev pub number_at : Place × ℕ → Expression
number_at p = Number p.0 p.1

abbrev pub truth_at : Place × Bool → Expression
truth_at p = Truth p.0 p.1

abbrev pub inside : Place × (Named × Place) → Named
inside p = p.1.0

-- "(" NAME ")"
abbrev pub SpellsPort : Named → Tokens → Type 0
SpellsPort = Made inside (Sign mark.OpenParenthesis ⋅ Name ⋅ Sign mark.CloseParenthesis)

abbrev pub test_of : (Place × PortTest) × Named → Expression
test_of p = Test p.0.0 p.0.1 p.1

abbrev pub SpellsNumber : Expression → Tokens → Type 0
SpellsNumber = Made number_at (One number_of)

abbrev pub SpellsTruth : Expression → Tokens → Type 0
SpellsTruth = Made truth_at (One (one_listed truths))

-- ( "HasEvent" | "NoSend" ) "(" NAME ")"
abbrev pub SpellsTest : Expression → Tokens → Type 0
SpellsTest = Made test_of (One (one_listed tests) ⋅ SpellsPort)

-- "In" "(" NAME ")"
abbrev pub SpellsIn : Place × Named → Tokens → Type 0
SpellsIn = Keyword word.In ⋅ SpellsPort

abbrev pub asked_of : Place × (Place × Named) → Place × Named
asked_of p = (p.0, p.1.1)

-- "MustSend" "(" NAME
abbrev pub SpellsAsked : Place × Named → Tokens → Type 0
SpellsAsked = Made asked_of (Keyword word.MustSend ⋅ Sign mark.OpenParenthesis ⋅ Name)

-- the port alone, or with what it must send
abbrev pub sent_of : Place × Named → Option (Place × Expression) → Expression
sent_of p None = Test p.0 test.MustSend p.1
sent_of p (Some v) = MustSend p.0 p.1 v.0 v.1

abbrev pub bound_of : Option Place × (Place × ℕ) → Bound
bound_of p = record { negative = is_some p.0; number = p.1.1; place = p.1.0 }

-- [ "-" ] INT
abbrev pub SpellsBound : Bound → Tokens → Type 0
SpellsBound = Made bound_of (Maybe (Sign mark.Minus) ⋅ One number_of)

abbrev pub Heading : Type 0
Heading = (Place × Quantifier) × (Named × (Place × (Bound × (Place × (Bound × Place)))))

abbrev pub quantification_of : Heading → Quantification
quantification_of p = record { place = p.0.0; quantifier = p.0.1; variable = p.1.0; from = p.1.1.1.0; below = p.1.1.1.1.1.0 }

-- ( "forall" | "exists" ) NAME "in" bound "..<" bound ":"
abbrev pub SpellsQuantification : Quantification → Tokens → Type 0
SpellsQuantification = Made quantification_of (One (one_listed quantifiers) ⋅ Name ⋅ Keyword word.In ⋅ SpellsBound ⋅ Sign mark.Below ⋅ SpellsBound ⋅ Sign mark.Colon)

-- what holds for all or for some numbers of a range
abbrev pub quantified_of : Quantification × (Place × Expression) → Expression
quantified_of p = Quantified p.0.place p.0.quantifier p.0.variable p.0.from p.0.below p.1.0 p.1.1

abbrev pub field_of : Place × Named → Selector
field_of p = Field p.1

-- "." NAME
abbrev pub SpellsField : Selector → Tokens → Type 0
SpellsField = Made field_of (Sign mark.Dot ⋅ Name)

abbrev pub start_of : Tokens → Place
start_of [] = record { line = 0; column = 0 }
start_of (t ∷ ts) = t.place

abbrev pub applied : Expression → Operation → Expression
applied x o = Binary o.place o.operator x o.operand

-- operations on an expression, from the left
abbrev pub chained : Expression → List Operation → Expression
chained x [] = x
chained x (o ∷ os) = chained (applied x o) os

-- one operation on an expression, or none
abbrev pub paired : Expression × Option Operation → Expression
paired p = elim p.1 [ None ↦ p.0 | Some o ↦ applied p.0 o ]

abbrev pub operation_of : (Place × BinaryOperator) × Expression → Operation
operation_of p = record { place = p.0.0; operator = p.0.1; operand = p.1 }

mutual
  -- these tokens spell this expression where one of this level stands
  pub data Spells : Level → Expression → Tokens → Type 0 where
    -- next { operation }, which groups to the left
    chain : (l : Level) (x : Expression) (os : List Operation) (us vs : Tokens) (e : Expression) (ts : Tokens) → form_of l ≡ form.Chain → e ≡ chained x os → ts ≡ us ++ vs → Spells (next l) x us → SpellsOperations l os vs → Spells l e ts
    -- next [ operation ]
    pair : (l : Level) (x : Expression) (o : Option Operation) (us vs : Tokens) (e : Expression) (ts : Tokens) → form_of l ≡ form.Pair → e ≡ paired (x, o) → ts ≡ us ++ vs → Spells (next l) x us → SpellsOptional l o vs → Spells l e ts
    -- operator level
    prefixed : (l : Level) (o : Place × UnaryOperator) (x : Expression) (os us : Tokens) (e : Expression) (ts : Tokens) → form_of l ≡ form.Prefix → e ≡ Unary o.0 o.1 x → ts ≡ os ++ us → One (one_listed (prefixes l)) o os → Spells l x us → Spells l e ts
    -- next
    plain : (l : Level) (e : Expression) (ts : Tokens) → form_of l ≡ form.Prefix → Spells (next l) e ts → Spells l e ts
    operand : (l : Level) (e : Expression) (ts : Tokens) → form_of l ≡ form.Operand → SpellsOperand e ts → Spells l e ts

  -- operator right
  pub data SpellsOperation : Level → Operation → Tokens → Type 0 where
    operation : (l : Level) (p : Place × BinaryOperator) (x : Expression) (os us : Tokens) (o : Operation) (ts : Tokens) → o ≡ operation_of (p, x) → ts ≡ os ++ us → One (one_listed (infixes l)) p os → Spells (right l) x us → SpellsOperation l o ts

  -- { operation }
  pub data SpellsOperations : Level → List Operation → Tokens → Type 0 where
    no_operations : (l : Level) (all : List Operation) (ts : Tokens) → all ≡ [] → ts ≡ [] → SpellsOperations l all ts
    operations : (l : Level) (o : Operation) (os : List Operation) (us vs : Tokens) (all : List Operation) (ts : Tokens) → all ≡ o ∷ os → ts ≡ us ++ vs → SpellsOperation l o us → SpellsOperations l os vs → SpellsOperations l all ts

  -- [ operation ]
  pub data SpellsOptional : Level → Option Operation → Tokens → Type 0 where
    no_operation : (l : Level) (o : Option Operation) (ts : Tokens) → o ≡ None → ts ≡ [] → SpellsOptional l o ts
    one_operation : (l : Level) (x : Operation) (o : Option Operation) (ts : Tokens) → o ≡ Some x → SpellsOperation l x ts → SpellsOptional l o ts

  -- INT | "true" | "false" | test | NAME parts | "In" "(" NAME ")" parts | "MustSend" "(" NAME sent ")" | "(" group ")"
  pub data SpellsOperand : Expression → Tokens → Type 0 where
    number : (e : Expression) (ts : Tokens) → SpellsNumber e ts → SpellsOperand e ts
    truth : (e : Expression) (ts : Tokens) → SpellsTruth e ts → SpellsOperand e ts
    test_alone : (e : Expression) (ts : Tokens) → SpellsTest e ts → SpellsOperand e ts
    value : (x : Named) (ps : List Selector) (ns us : Tokens) (e : Expression) (ts : Tokens) → e ≡ Value x ps → ts ≡ ns ++ us → Name x ns → SpellsParts ps us → SpellsOperand e ts
    before : (p : Place × Named) (ps : List Selector) (hs us : Tokens) (e : Expression) (ts : Tokens) → e ≡ Before p.0 p.1 ps → ts ≡ hs ++ us → SpellsIn p hs → SpellsParts ps us → SpellsOperand e ts
    must_send : (p : Place × Named) (s : Option (Place × Expression)) (q : Place) (hs us qs : Tokens) (e : Expression) (ts : Tokens) → e ≡ sent_of p s → ts ≡ hs ++ (us ++ qs) → SpellsAsked p hs → SpellsSent s us → Sign mark.CloseParenthesis q qs → SpellsOperand e ts
    parenthesised : (p q : Place) (x : Expression) (ps us qs : Tokens) (e : Expression) (ts : Tokens) → e ≡ x → ts ≡ ps ++ (us ++ qs) → Sign mark.OpenParenthesis p ps → SpellsGroup x us → Sign mark.CloseParenthesis q qs → SpellsOperand e ts

  -- a whole expression, and where it begins
  pub data SpellsStarted : Place × Expression → Tokens → Type 0 where
    started : (x : Expression) (p : Place × Expression) (ts : Tokens) → p ≡ (start_of ts, x) → Spells level.Implication x ts → SpellsStarted p ts

  -- [ "," started ]
  pub data SpellsSent : Option (Place × Expression) → Tokens → Type 0 where
    nothing_sent : (s : Option (Place × Expression)) (ts : Tokens) → s ≡ None → ts ≡ [] → SpellsSent s ts
    sent : (c : Place) (v : Place × Expression) (cs us : Tokens) (s : Option (Place × Expression)) (ts : Tokens) → s ≡ Some v → ts ≡ cs ++ us → Sign mark.Comma c cs → SpellsStarted v us → SpellsSent s ts

  -- expression | quantification started
  pub data SpellsGroup : Expression → Tokens → Type 0 where
    whole : (e : Expression) (ts : Tokens) → Spells level.Implication e ts → SpellsGroup e ts
    quantified : (q : Quantification) (v : Place × Expression) (hs us : Tokens) (e : Expression) (ts : Tokens) → e ≡ quantified_of (q, v) → ts ≡ hs ++ us → SpellsQuantification q hs → SpellsStarted v us → SpellsGroup e ts

  -- { part }
  pub data SpellsParts : List Selector → Tokens → Type 0 where
    no_parts : (all : List Selector) (ts : Tokens) → all ≡ [] → ts ≡ [] → SpellsParts all ts
    parts : (s : Selector) (ss : List Selector) (us vs : Tokens) (all : List Selector) (ts : Tokens) → all ≡ s ∷ ss → ts ≡ us ++ vs → SpellsPart s us → SpellsParts ss vs → SpellsParts all ts

  -- "." NAME | "[" started "]"
  pub data SpellsPart : Selector → Tokens → Type 0 where
    field : (s : Selector) (ts : Tokens) → SpellsField s ts → SpellsPart s ts
    index : (p q : Place) (v : Place × Expression) (os us qs : Tokens) (s : Selector) (ts : Tokens) → s ≡ Index v.0 v.1 → ts ≡ os ++ (us ++ qs) → Sign mark.OpenBracket p os → SpellsStarted v us → Sign mark.CloseBracket q qs → SpellsPart s ts

abbrev pub value_of : Named × List Selector → Expression
value_of p = Value p.0 p.1

abbrev pub SpellsValue : Expression → Tokens → Type 0
SpellsValue = Made value_of (Name ⋅ SpellsParts)

abbrev pub before_of : (Place × Named) × List Selector → Expression
before_of p = Before p.0.0 p.0.1 p.1

abbrev pub SpellsBefore : Expression → Tokens → Type 0
SpellsBefore = Made before_of (SpellsIn ⋅ SpellsParts)

abbrev pub must_send_of : (Place × Named) × (Option (Place × Expression) × Place) → Expression
must_send_of p = sent_of p.0 p.1.0

abbrev pub SpellsMustSend : Expression → Tokens → Type 0
SpellsMustSend = Made must_send_of (SpellsAsked ⋅ SpellsSent ⋅ Sign mark.CloseParenthesis)

abbrev pub grouped_of : Place × (Expression × Place) → Expression
grouped_of p = p.1.0

abbrev pub SpellsParenthesised : Expression → Tokens → Type 0
SpellsParenthesised = Made grouped_of (Sign mark.OpenParenthesis ⋅ SpellsGroup ⋅ Sign mark.CloseParenthesis)

abbrev pub SpellsQuantified : Expression → Tokens → Type 0
SpellsQuantified = Made quantified_of (SpellsQuantification ⋅ SpellsStarted)

abbrev pub index_of : Place × ((Place × Expression) × Place) → Selector
index_of p = Index p.1.0.0 p.1.0.1

abbrev pub SpellsIndex : Selector → Tokens → Type 0
SpellsIndex = Made index_of (Sign mark.OpenBracket ⋅ SpellsStarted ⋅ Sign mark.CloseBracket)
