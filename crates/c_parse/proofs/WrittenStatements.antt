-- The canonical texts of statements have their canonical tokens.
use Rattle.std.proofs.Common.{◌≡◌, ℕ, List, [], ◌∷◌, ◌++◌, map, codes, refl, sym, ap, subst}
use Rattle.std.specs.List.{flat_map}
use Rattle.hw_text.specs.declared.place.Place.{Place}
use Rattle.c_tree.specs.declared.integer_type.IntegerType.{IntegerType}
use Rattle.c_tree.specs.declared.named.Named.{Named}
use Rattle.c_tree.specs.declared.named.SignedLiteral.{SignedLiteral}
use Rattle.c_tree.specs.declared.type_name.TypeName.{TypeName}
use Rattle.c_tree.specs.declared.expression.Call.{Call}
use Rattle.c_tree.specs.declared.expression.Lvalue.{Lvalue}
use Rattle.c_tree.specs.declared.expression.RightSide.{RightSide}
use Rattle.c_tree.specs.declared.statement.LocalValue.{LocalValue}
use Rattle.c_tree.specs.declared.statement.Branch.{Branch}
use Rattle.c_tree.specs.declared.statement.Otherwise.{Otherwise}
use Rattle.c_tree.specs.declared.statement.Statement.{Statement}
use Rattle.c_tree.specs.declared.statement.Otherwise.TheFolds.{fold-roll-Statement, fold-roll-Branch, fold-roll-Otherwise, map-Statement, map-Branch, map-Otherwise}
use Rattle.c_tree.specs.declared.statement.Otherwise.TheOpen.{Statement-F, Branch-F, Otherwise-F}
use Rattle.c_tree.specs.declared.statement.Otherwise.TheOpen as opened
use Rattle.c_tree.specs.declared.statement.Otherwise.TheViews.{roll-Statement, roll-Branch, roll-Otherwise}
use Rattle.c_tree.specs.Statements.{Lines, deeper, all_lines, block_text, else_text, otherwise_step, branch_step, statement_step, statement_text, branch_text, otherwise_text}
use Rattle.c_parse.specs.PrintedStatements.{block_tokens, else_tokens, otherwise_tokens_step, branch_tokens_step, statement_tokens_step, statement_tokens, branch_tokens, otherwise_tokens}
use Rattle.c_parse.specs.declared.keyword.Keyword.TheVariants as keyword
use Rattle.c_parse.specs.declared.mark.Mark.TheVariants as mark
use Rattle.c_parse.specs.declared.token.Token.{Token}
use Rattle.c_parse.specs.declared.token.Token.TheVariants as token
use Rattle.c_tree.proofs.ExpressionInduction.{OfEach}
use Rattle.c_parse.proofs.PrintedPieces.{name, word, word_space, closed}
use Rattle.c_tree.proofs.StatementInduction.{Cases, of_each_statement}
use Rattle.c_parse.proofs.Written.{Writes, Anything, IsGap, both, next, blank-behind, blank-before, nothing, known-as, joined, space, newline}
use Rattle.c_parse.proofs.WrittenCalls.{call, right_side, type_name}
use Rattle.c_parse.proofs.WrittenExpressions.{lvalue}
use Rattle.c_parse.proofs.WrittenHeads.{assign, value_of, local-ended, semicolon, count-start, count-end, forever-head}

-- for each margin, a text with its tokens
pub record Lined (text : Lines) (tokens : List Token) : Type 0 where
  pub written : (margin : List ℕ) → IsGap margin → Writes Anything (text margin) tokens

abbrev StatementLined : Statement → Type 0
StatementLined x = Lined (statement_text x) (statement_tokens x)

abbrev BranchLined : Branch → Type 0
BranchLined x = Lined (branch_text x) (branch_tokens x)

abbrev OtherwiseLined : Otherwise → Type 0
OtherwiseLined x = Lined (otherwise_text x) (otherwise_tokens x)

lined-by : (f g : Lines) (us ts : List Token) → f ≡ g → us ≡ ts → Lined g ts → Lined f us
lined-by f g us ts e is lined = subst (λ (t : Lines). Lined t us) (sym e) (subst (λ (l : List Token). Lined g l) (sym is) lined)

statement-lined : (z : Statement-F Otherwise Statement Branch) → Lined (statement_step (map-Statement Otherwise Statement Branch Lines Lines Lines otherwise_text statement_text branch_text z)) (statement_tokens_step (map-Statement Otherwise Statement Branch (List Token) (List Token) (List Token) otherwise_tokens statement_tokens branch_tokens z)) → StatementLined (roll-Statement z)
statement-lined z lined =
    lined-by (statement_text (roll-Statement z)) (statement_step (map-Statement Otherwise Statement Branch Lines Lines Lines otherwise_text statement_text branch_text z))
    (statement_tokens (roll-Statement z)) (statement_tokens_step (map-Statement Otherwise Statement Branch (List Token) (List Token) (List Token) otherwise_tokens statement_tokens branch_tokens z))
    (fold-roll-Statement Lines Lines Lines otherwise_step statement_step branch_step z)
    (fold-roll-Statement (List Token) (List Token) (List Token) otherwise_tokens_step statement_tokens_step branch_tokens_step z) lined

branch-lined : (z : Branch-F Otherwise Statement Branch) → Lined (branch_step (map-Branch Otherwise Statement Branch Lines Lines Lines otherwise_text statement_text branch_text z)) (branch_tokens_step (map-Branch Otherwise Statement Branch (List Token) (List Token) (List Token) otherwise_tokens statement_tokens branch_tokens z)) → BranchLined (roll-Branch z)
branch-lined z lined =
    lined-by (branch_text (roll-Branch z)) (branch_step (map-Branch Otherwise Statement Branch Lines Lines Lines otherwise_text statement_text branch_text z))
    (branch_tokens (roll-Branch z)) (branch_tokens_step (map-Branch Otherwise Statement Branch (List Token) (List Token) (List Token) otherwise_tokens statement_tokens branch_tokens z))
    (fold-roll-Branch Lines Lines Lines otherwise_step statement_step branch_step z)
    (fold-roll-Branch (List Token) (List Token) (List Token) otherwise_tokens_step statement_tokens_step branch_tokens_step z) lined

otherwise-lined : (z : Otherwise-F Otherwise Statement Branch) → Lined (otherwise_step (map-Otherwise Otherwise Statement Branch Lines Lines Lines otherwise_text statement_text branch_text z)) (otherwise_tokens_step (map-Otherwise Otherwise Statement Branch (List Token) (List Token) (List Token) otherwise_tokens statement_tokens branch_tokens z)) → OtherwiseLined (roll-Otherwise z)
otherwise-lined z lined =
    lined-by (otherwise_text (roll-Otherwise z)) (otherwise_step (map-Otherwise Otherwise Statement Branch Lines Lines Lines otherwise_text statement_text branch_text z))
    (otherwise_tokens (roll-Otherwise z)) (otherwise_tokens_step (map-Otherwise Otherwise Statement Branch (List Token) (List Token) (List Token) otherwise_tokens statement_tokens branch_tokens z))
    (fold-roll-Otherwise Lines Lines Lines otherwise_step statement_step branch_step z)
    (fold-roll-Otherwise (List Token) (List Token) (List Token) otherwise_tokens_step statement_tokens_step branch_tokens_step z) lined

local-lined : (class : TypeName) (x : Named) (value : LocalValue) → StatementLined (roll-Statement (opened.Local class x value))
local-lined class x value = statement-lined (opened.Local class x value) (record {
  written = λ margin gap.
      both (both (next (blank-behind (codes " ") space (type_name class) (λ rest. refl)) (name x.name)) (value_of value) (λ rest ended. local-ended value rest))
      semicolon (λ rest any. refl);
})

assign-lined : (target : Lvalue) (value : RightSide) → StatementLined (roll-Statement (opened.Assign target value))
assign-lined target value = statement-lined (opened.Assign target value) (record {
  written = λ margin gap. both (next (both (lvalue target) assign (λ rest any. refl)) (right_side value)) semicolon (λ rest any. refl);
})

call-lined : (c : Call) → StatementLined (roll-Statement (opened.Call c))
call-lined c = statement-lined (opened.Call c) (record { written = λ margin gap. next (call c) semicolon })

break-lined : StatementLined (roll-Statement opened.Break)
break-lined = statement-lined opened.Break (record { written = λ margin gap. both (word keyword.Break) semicolon (λ rest any. refl) })

pub four_spaces : IsGap (codes "    ")
four_spaces = joined (codes " ") (codes "   ") space (joined (codes " ") (codes "  ") space (joined (codes " ") (codes " ") space space))

lines-by : (body : List Statement) → OfEach StatementLined body → (margin : List ℕ) → IsGap margin → Writes Anything (all_lines (map statement_text body) margin) (flat_map (λ ts. ts) (map statement_tokens body))
lines-by [] each margin gap = nothing
lines-by (x ∷ xs) each margin gap =
    next (blank-behind (10 ∷ []) newline (blank-before margin gap (each.0.written margin gap)) (λ rest. tt)) (lines-by xs each.1 margin gap)

block : (body : List Statement) → OfEach StatementLined body → (margin : List ℕ) → IsGap margin → Writes Anything (block_text (map statement_text body) margin) (block_tokens (map statement_tokens body))
block body each margin gap =
    let opening : Writes Anything (codes " {" ++ 10 ∷ []) (token.Mark mark.OpenBrace ∷ []) =
    blank-behind (10 ∷ []) newline (blank-before (codes " ") space (closed mark.OpenBrace refl)) (λ rest. tt) in
    let inner = next opening (lines-by body each (deeper margin) (joined margin (codes "    ") gap four_spaces)) in
    next (blank-behind margin gap inner (λ rest. tt)) (closed mark.CloseBrace refl)

elses : (others : List Branch) → OfEach BranchLined others → (margin : List ℕ) → IsGap margin → Writes Anything (flat_map (else_text margin) (map branch_text others)) (flat_map else_tokens (map branch_tokens others))
elses [] each margin gap = nothing
elses (b ∷ bs) each margin gap =
    next (next (blank-before (codes " ") space (word_space keyword.Else)) (each.0.written margin gap)) (elses bs each.1 margin gap)

choice-lined : (first : Branch) (others : List Branch) (otherwise : Otherwise) → BranchLined first → OfEach BranchLined others → OtherwiseLined otherwise → StatementLined (roll-Statement (opened.If first others otherwise))
choice-lined first others otherwise a b c = statement-lined (opened.If first others otherwise) (record {
  written = λ margin gap. next (next (a.written margin gap) (elses others b margin gap)) (c.written margin gap);
})

count-lined : (class : IntegerType) (x : Named) (from : SignedLiteral) (at : Place) (below : SignedLiteral) (body : List Statement) → OfEach StatementLined body → StatementLined (roll-Statement (opened.Count class x from at below body))
count-lined class x from at below body each = statement-lined (opened.Count class x from at below body) (record {
  written = λ margin gap. next (next (count-start class x from) (count-end x below)) (block body each margin gap);
})

forever-lined : (body : List Statement) → OfEach StatementLined body → StatementLined (roll-Statement (opened.Forever body))
forever-lined body each = statement-lined (opened.Forever body) (record { written = λ margin gap. next forever-head (block body each margin gap) })

branch_lined : (condition : RightSide) (body : List Statement) → OfEach StatementLined body → BranchLined (roll-Branch (record { condition = condition; body = body }))
branch_lined condition body each = branch-lined (record { condition = condition; body = body }) (record {
  written = λ margin gap.
      next (both (next (next (word_space keyword.If) (closed mark.OpenParenthesis refl)) (right_side condition)) (closed mark.CloseParenthesis refl) (λ rest any. refl))
      (block body each margin gap);
})

nothing-lined : OtherwiseLined (roll-Otherwise opened.Nothing)
nothing-lined = otherwise-lined opened.Nothing (record { written = λ margin gap. nothing })

block-lined : (body : List Statement) → OfEach StatementLined body → OtherwiseLined (roll-Otherwise (opened.Block body))
block-lined body each = otherwise-lined (opened.Block body) (record {
  written = λ margin gap. both (blank-before (codes " ") space (word keyword.Else)) (block body each margin gap) (λ rest any. refl);
})

cases : Cases OtherwiseLined StatementLined BranchLined
cases = record {
  local = local-lined;
  assign = assign-lined;
  call = call-lined;
  choice = choice-lined;
  count = count-lined;
  forever = forever-lined;
  break = break-lined;
  branch = branch_lined;
  nothing = nothing-lined;
  block = block-lined;
}

all-lined : (body : List Statement) → OfEach StatementLined body
all-lined [] = tt
all-lined (x ∷ xs) = (of_each_statement OtherwiseLined StatementLined BranchLined cases x, all-lined xs)

flat-map : {X : Type 0} (tokens : X → List Token) (xs : List X) → flat_map (λ ts. ts) (map tokens xs) ≡ flat_map tokens xs
flat-map tokens [] = refl
flat-map tokens (x ∷ xs) = ap (λ (ts : List Token). tokens x ++ ts) (flat-map tokens xs)

-- statements, a line each
pub lines : (body : List Statement) (margin : List ℕ) → IsGap margin → Writes Anything (all_lines (map statement_text body) margin) (flat_map statement_tokens body)
lines body margin gap = known-as refl (sym (flat-map statement_tokens body)) (lines-by body (all-lined body) margin gap)
