-- The grammar of statements, in the user grammar or the full one (docs/formats/c.md).
use Rattle.std.specs.Prelude.{◌≡◌, ◌≤◌, ◌+◌, ◌⊎◌, ◌||◌, ℕ, Bool, IsTrue, List, [], ◌∷◌, ◌++◌, length, ⊤}
use Rattle.hw_text.specs.declared.place.Place.{Place}
use Rattle.hw_text.specs.declared.placed.Placed.{Placed}
use Rattle.hw_text.specs.Language.{◌⋅◌, Made}
use Rattle.hw_text.specs.Reading.{BeginsWithout}
use Rattle.c_tree.specs.declared.dialect.Dialect.{Dialect}
use Rattle.c_tree.specs.Dialects.{is_full}
use Rattle.c_tree.specs.declared.expression.RightSide.{RightSide}
use Rattle.c_tree.specs.declared.statement.Branch.{Branch}
use Rattle.c_tree.specs.declared.statement.Otherwise.{Otherwise}
use Rattle.c_tree.specs.declared.statement.Otherwise.TheVariants as otherwise
use Rattle.c_tree.specs.declared.statement.Statement.{Statement}
use Rattle.c_tree.specs.declared.statement.Statement.TheVariants.{If, Count, Forever}
use Rattle.c_parse.specs.declared.counting.CountStart.{CountStart}
use Rattle.c_parse.specs.declared.counting.CountEnd.{CountEnd}
use Rattle.c_parse.specs.declared.token.Token.{Token}
use Rattle.c_parse.specs.declared.keyword.Keyword.TheVariants as keyword
use Rattle.c_parse.specs.declared.mark.Mark.TheVariants as mark
use Rattle.c_parse.specs.Values.{Tokens, is_mark, is_word}
use Rattle.c_parse.specs.ExpressionGrammar.{Sign}
use Rattle.c_parse.specs.CallGrammar.{Word}
use Rattle.c_parse.specs.PlainGrammar.{SpellsPlain, SpellsCondition}
use Rattle.c_parse.specs.CountGrammar.{SpellsCount, SpellsForeverHead}

abbrev pub count_of : (CountStart × CountEnd) × List Statement → Statement
count_of p = Count p.0.0.class p.0.0.name p.0.0.from p.0.1.place p.0.1.below p.1

-- in the grammar of users an `if` has at most 64 `else if`s
abbrev pub LinksFit : Dialect → ℕ → Type 0
LinksFit dialect n = IsTrue (is_full dialect) ⊎ (n ≤ 64)

mutual
  pub data SpellsStatement : Dialect → Statement → Tokens → Type 0 where
    plain : (dialect : Dialect) (s : Statement) (ts : Tokens) → SpellsPlain dialect s ts → SpellsStatement dialect s ts
    choice : (dialect : Dialect) (b : Branch) (bs : List Branch) (o : Otherwise) (us vs ws : Tokens) (s : Statement) (ts : Tokens) → s ≡ If b bs o → LinksFit dialect (length bs) → ts ≡ us ++ (vs ++ ws) → SpellsBranch dialect b us → SpellsElseIfs dialect bs vs → SpellsOtherwise dialect o ws → SpellsStatement dialect s ts
    loop : (dialect : Dialect) (p q : Place) (fs os us : Tokens) (s : Statement) (ts : Tokens) → ts ≡ fs ++ (os ++ us) → Word keyword.For p fs → Sign mark.OpenParenthesis q os → SpellsLoop dialect s us → SpellsStatement dialect s ts

  -- behind "for" "(": the range and a block, or in full ";" ";" ")" block
  pub data SpellsLoop : Dialect → Statement → Tokens → Type 0 where
    count : (dialect : Dialect) (h : CountStart × CountEnd) (body : List Statement) (us vs : Tokens) (s : Statement) (ts : Tokens) → s ≡ count_of (h, body) → ts ≡ us ++ vs → SpellsCount h us → SpellsBlock dialect body vs → SpellsLoop dialect s ts
    forever : (dialect : Dialect) (u : ⊤) (body : List Statement) (us vs : Tokens) (s : Statement) (ts : Tokens) → IsTrue (is_full dialect) → s ≡ Forever body → ts ≡ us ++ vs → SpellsForeverHead u us → SpellsBlock dialect body vs → SpellsLoop dialect s ts

  -- { stmt }
  pub data SpellsStatements : Dialect → List Statement → Tokens → Type 0 where
    no_statement : (dialect : Dialect) (all : List Statement) (ts : Tokens) → all ≡ [] → ts ≡ [] → SpellsStatements dialect all ts
    a_statement : (dialect : Dialect) (s : Statement) (ss : List Statement) (us vs : Tokens) (all : List Statement) (ts : Tokens) → all ≡ s ∷ ss → ts ≡ us ++ vs → SpellsStatement dialect s us → SpellsStatements dialect ss vs → SpellsStatements dialect all ts

  -- "{" { stmt } "}"
  pub data SpellsBlock : Dialect → List Statement → Tokens → Type 0 where
    block : (dialect : Dialect) (p q : Place) (ss : List Statement) (os us cs ts : Tokens) → ts ≡ os ++ (us ++ cs) → Sign mark.OpenBrace p os → SpellsStatements dialect ss us → Sign mark.CloseBrace q cs → SpellsBlock dialect ss ts

  -- "if" "(" rhs ")" block
  pub data SpellsBranch : Dialect → Branch → Tokens → Type 0 where
    branch : (dialect : Dialect) (p : Place) (c : RightSide) (body : List Statement) (is us vs : Tokens) (b : Branch) (ts : Tokens) → b ≡ record { condition = c; body = body } → ts ≡ is ++ (us ++ vs) → Word keyword.If p is → SpellsCondition dialect c us → SpellsBlock dialect body vs → SpellsBranch dialect b ts

  -- { "else" "if" "(" rhs ")" block }
  pub data SpellsElseIfs : Dialect → List Branch → Tokens → Type 0 where
    no_branch : (dialect : Dialect) (all : List Branch) (ts : Tokens) → all ≡ [] → ts ≡ [] → SpellsElseIfs dialect all ts
    else_if : (dialect : Dialect) (p : Place) (b : Branch) (bs : List Branch) (es us vs : Tokens) (all : List Branch) (ts : Tokens) → all ≡ b ∷ bs → ts ≡ es ++ (us ++ vs) → Word keyword.Else p es → SpellsBranch dialect b us → SpellsElseIfs dialect bs vs → SpellsElseIfs dialect all ts

  -- [ "else" block ]
  pub data SpellsOtherwise : Dialect → Otherwise → Tokens → Type 0 where
    no_else : (dialect : Dialect) (o : Otherwise) (ts : Tokens) → o ≡ otherwise.Nothing → ts ≡ [] → SpellsOtherwise dialect o ts
    an_else : (dialect : Dialect) (p : Place) (body : List Statement) (es us : Tokens) (o : Otherwise) (ts : Tokens) → o ≡ otherwise.Block body → ts ≡ es ++ us → Word keyword.Else p es → SpellsBlock dialect body us → SpellsOtherwise dialect o ts

-- what stands behind the first condition and its block, and behind so many `else if`s
abbrev pub SpellsElse : Dialect → ℕ → List Branch × Otherwise → Tokens → Type 0
SpellsElse dialect n p ts = LinksFit dialect (n + length p.0) × (SpellsElseIfs dialect ⋅ SpellsOtherwise dialect) p ts

abbrev pub choice_of : Branch × (List Branch × Otherwise) → Statement
choice_of p = If p.0 p.1.0 p.1.1

-- "if" "(" rhs ")" block { "else" "if" "(" rhs ")" block } [ "else" block ]
abbrev pub SpellsChoice : Dialect → Statement → Tokens → Type 0
SpellsChoice dialect = Made choice_of (SpellsBranch dialect ⋅ SpellsElse dialect 0)

-- "for" "(" and what stands behind
abbrev pub SpellsFor : Dialect → Statement → Tokens → Type 0
SpellsFor dialect = Made (λ p. p.1.1) (Word keyword.For ⋅ Sign mark.OpenParenthesis ⋅ SpellsLoop dialect)

-- no `else` stands behind
abbrev pub NoElse : Tokens → Type 0
NoElse = BeginsWithout (is_word keyword.Else)

-- a token that stands behind the statements of a block
abbrev pub ends_body : Placed Token → Bool
ends_body t = is_mark mark.CloseBrace t || is_word keyword.Return t
