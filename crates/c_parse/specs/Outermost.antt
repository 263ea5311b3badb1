-- The outermost expressions of a text of the grammar of users, which stand in no other and are no call: what stands on the right, an
-- argument without `&`, and an index of a left side (docs/formats/c.md). Here is the grammar again, as far as it holds such an expression:
-- `In` and a production say where one stands in a text of it.
use Rattle.std.specs.Prelude.{◌≡◌, ◌<◌, ◌+◌, ℕ, Bool, true, false, List, ◌++◌, length, take, is_some}
use Rattle.hw_text.specs.declared.place.Place.{Place}
use Rattle.hw_text.specs.Language.{◌⋅◌, Each}
use Rattle.c_tree.specs.declared.dialect.Dialect.TheVariants.{User}
use Rattle.c_tree.specs.declared.expression.RightSide.{RightSide}
use Rattle.c_tree.specs.declared.statement.Branch.{Branch}
use Rattle.c_tree.specs.declared.statement.Otherwise.{Otherwise}
use Rattle.c_tree.specs.declared.statement.Statement.{Statement}
use Rattle.c_tree.specs.declared.unit.Unit.{Unit as CUnit}
use Rattle.c_parse.specs.declared.counting.CountStart.{CountStart}
use Rattle.c_parse.specs.declared.counting.CountEnd.{CountEnd}
use Rattle.c_parse.specs.declared.headings.Heading.{Heading}
use Rattle.c_parse.specs.declared.keyword.Keyword.TheVariants as keyword
use Rattle.c_parse.specs.declared.mark.Mark.TheVariants as mark
use Rattle.c_parse.specs.Values.{Tokens}
use Rattle.c_parse.specs.ExpressionGrammar.{Sign, Name, SpellsBase, SpellsParts, SpellsLvalue, SpellsWhole}
use Rattle.c_parse.specs.CallGrammar.{Word, BehindComma, SpellsType, SpellsArgument, SpellsRightSide}
use Rattle.c_parse.specs.CountGrammar.{SpellsCount}
use Rattle.c_parse.specs.PlainGrammar.{SpellsCondition}
use Rattle.c_parse.specs.StatementGrammar.{SpellsStatement, SpellsStatements, SpellsBlock, SpellsBranch, SpellsElseIfs, SpellsOtherwise}
use Rattle.c_parse.specs.UnitGrammar.{SpellsHeading, SpellsParameters, SpellsItem, SpellsUnit}
use Rattle.c_parse.specs.Standing.{All, ◌▸◌, ◌◂◌, ◌∥◌}

-- behind a comma
abbrev pub InLaterArgument : Tokens → Tokens → Tokens → Type 0
InLaterArgument = Sign mark.Comma ▸ All (SpellsWhole User)

-- the first argument, or one behind a comma
abbrev pub InArguments : Tokens → Tokens → Tokens → Type 0
InArguments =
    (All (SpellsWhole User) ◂ Each (BehindComma (SpellsArgument User))) ∥
    (SpellsArgument User ▸ Each (BehindComma (SpellsArgument User)) ▸ InLaterArgument ◂ Each (BehindComma (SpellsArgument User)))

-- NAME "(" arguments ")"
abbrev pub InCall : Tokens → Tokens → Tokens → Type 0
InCall = Name ▸ Sign mark.OpenParenthesis ▸ InArguments ◂ Sign mark.CloseParenthesis

-- call | expr
abbrev pub InRightSide : Tokens → Tokens → Tokens → Type 0
InRightSide = InCall ∥ All (SpellsWhole User)

-- between brackets
abbrev pub InIndex : Tokens → Tokens → Tokens → Type 0
InIndex = Sign mark.OpenBracket ▸ All (SpellsWhole User) ◂ Sign mark.CloseBracket

-- in one of the parts of an lvalue
abbrev pub InParts : Tokens → Tokens → Tokens → Type 0
InParts = SpellsParts User ▸ InIndex ◂ SpellsParts User

-- "=" rhs
abbrev pub InGiven : Tokens → Tokens → Tokens → Type 0
InGiven = Sign mark.Assign ▸ InRightSide

-- ty NAME "=" rhs ";"
abbrev pub InLocal : Tokens → Tokens → Tokens → Type 0
InLocal = SpellsType ▸ Name ▸ InGiven ◂ Sign mark.Semicolon

-- lval "=" rhs ";"
abbrev pub InAssignment : Tokens → Tokens → Tokens → Type 0
InAssignment =
    (SpellsBase User ▸ InParts ◂ Sign mark.Assign ⋅ SpellsRightSide User ⋅ Sign mark.Semicolon) ∥
    (SpellsLvalue User ▸ InGiven ◂ Sign mark.Semicolon)

-- what has no block
abbrev pub InPlain : Tokens → Tokens → Tokens → Type 0
InPlain = InLocal ∥ InAssignment ∥ (InCall ◂ Sign mark.Semicolon)

-- "(" rhs ")"
abbrev pub InCondition : Tokens → Tokens → Tokens → Type 0
InCondition = Sign mark.OpenParenthesis ▸ InRightSide ◂ Sign mark.CloseParenthesis

mutual
  -- in a plain one, in a branch of an `if`, in its last block, or in the block of a `for`
  pub data InStatement : Tokens → Tokens → Tokens → Type 0 where
    in_plain : (us es vs : Tokens) → InPlain us es vs → InStatement us es vs
    in_first_branch : (bs : List Branch) (o : Otherwise) (us es ms ns os vs : Tokens) → vs ≡ ms ++ (ns ++ os) → InBranch us es ms → SpellsElseIfs User bs ns → SpellsOtherwise User o os → InStatement us es vs
    in_later_branch : (b : Branch) (o : Otherwise) (ws ms us es ns os vs : Tokens) → us ≡ ws ++ ms → vs ≡ ns ++ os → SpellsBranch User b ws → InElseIfs ms es ns → SpellsOtherwise User o os → InStatement us es vs
    in_else : (b : Branch) (bs : List Branch) (p : Place) (ws ns os ms us es vs : Tokens) → us ≡ ws ++ (ns ++ (os ++ ms)) → SpellsBranch User b ws → SpellsElseIfs User bs ns → Word keyword.Else p os → InBlock ms es vs → InStatement us es vs
    in_loop : (p q : Place) (h : CountStart × CountEnd) (fs os hs ms us es vs : Tokens) → us ≡ fs ++ (os ++ (hs ++ ms)) → Word keyword.For p fs → Sign mark.OpenParenthesis q os → SpellsCount h hs → InBlock ms es vs → InStatement us es vs

  -- in the first, or in a later one
  pub data InStatements : Tokens → Tokens → Tokens → Type 0 where
    in_first : (ss : List Statement) (us es ms ns vs : Tokens) → vs ≡ ms ++ ns → InStatement us es ms → SpellsStatements User ss ns → InStatements us es vs
    in_later : (s : Statement) (ws ms us es vs : Tokens) → us ≡ ws ++ ms → SpellsStatement User s ws → InStatements ms es vs → InStatements us es vs

  -- "{" statements "}"
  pub data InBlock : Tokens → Tokens → Tokens → Type 0 where
    in_block : (p q : Place) (os ms us es ns cs vs : Tokens) → us ≡ os ++ ms → vs ≡ ns ++ cs → Sign mark.OpenBrace p os → InStatements ms es ns → Sign mark.CloseBrace q cs → InBlock us es vs

  -- "if" "(" rhs ")" block
  pub data InBranch : Tokens → Tokens → Tokens → Type 0 where
    in_condition : (p : Place) (body : List Statement) (is ms us es ns bs vs : Tokens) → us ≡ is ++ ms → vs ≡ ns ++ bs → Word keyword.If p is → InCondition ms es ns → SpellsBlock User body bs → InBranch us es vs
    in_body : (p : Place) (c : RightSide) (is cs ms us es vs : Tokens) → us ≡ is ++ (cs ++ ms) → Word keyword.If p is → SpellsCondition User c cs → InBlock ms es vs → InBranch us es vs

  -- { "else" branch }
  pub data InElseIfs : Tokens → Tokens → Tokens → Type 0 where
    in_first_link : (p : Place) (bs : List Branch) (os ms us es ns ws vs : Tokens) → us ≡ os ++ ms → vs ≡ ns ++ ws → Word keyword.Else p os → InBranch ms es ns → SpellsElseIfs User bs ws → InElseIfs us es vs
    in_later_link : (p : Place) (b : Branch) (os ws ms us es vs : Tokens) → us ≡ os ++ (ws ++ ms) → Word keyword.Else p os → SpellsBranch User b ws → InElseIfs ms es vs → InElseIfs us es vs

-- "return" rhs
abbrev pub InReturned : Tokens → Tokens → Tokens → Type 0
InReturned = Word keyword.Return ▸ InRightSide

-- { stmt } "return" rhs ";" "}", or { stmt } "}" where nothing is returned
abbrev pub InBody : Bool → Tokens → Tokens → Tokens → Type 0
InBody true =
    (InStatements ◂ Word keyword.Return ⋅ SpellsRightSide User ⋅ Sign mark.Semicolon ⋅ Sign mark.CloseBrace) ∥
    (SpellsStatements User ▸ InReturned ◂ Sign mark.Semicolon ⋅ Sign mark.CloseBrace)
InBody false = InStatements ◂ Sign mark.CloseBrace

-- "(" parameters ")" "{" body
abbrev pub InFunction : Bool → Tokens → Tokens → Tokens → Type 0
InFunction returns = Sign mark.OpenParenthesis ▸ SpellsParameters User ▸ Sign mark.CloseParenthesis ▸ Sign mark.OpenBrace ▸ InBody returns

-- a heading, and the rest of its function
abbrev pub InItem : Tokens → Tokens → Tokens → Type 0
InItem us es vs = (h : Heading) × (ws ms : Tokens) × (us ≡ ws ++ ms) × SpellsHeading h ws × InFunction (is_some h.class) ms es vs

-- { item }
abbrev pub InUnit : Tokens → Tokens → Tokens → Type 0
InUnit = Each (SpellsItem User) ▸ InItem ◂ Each (SpellsItem User)

-- in a text of the grammar of users that ends there, these tokens are those of an outermost expression
abbrev pub IsOutermost : Place → Tokens → Tokens → Tokens → Type 0
IsOutermost end us es vs = (u : CUnit) × SpellsUnit User end u (us ++ (es ++ vs)) × InUnit us es vs

-- some text of the grammar of users begins with these tokens up to this one, which is there the 501st of an outermost expression
abbrev pub IsTooLongAt : Place → Tokens → ℕ → Type 0
IsTooLongAt end ts i = (us es vs more : Tokens) × IsOutermost end us es vs × (us ++ (es ++ vs) ≡ take (i + 1) ts ++ more) × (length us + 500 ≡ i) × (500 < length es)
