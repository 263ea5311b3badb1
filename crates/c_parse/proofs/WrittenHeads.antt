-- The canonical texts of what statements have beside blocks have their canonical tokens.
use Rattle.std.proofs.Common.{◌≡◌, ℕ, List, [], ◌∷◌, ◌++◌, codes, refl, append_assoc}
use Rattle.c_tree.specs.Spellings as numeral
use Rattle.c_tree.specs.declared.integer_type.IntegerType.{IntegerType}
use Rattle.c_tree.specs.declared.named.Named.{Named}
use Rattle.c_tree.specs.declared.named.SignedLiteral.{SignedLiteral}
use Rattle.c_tree.specs.declared.statement.LocalValue.{LocalValue}
use Rattle.c_tree.specs.declared.statement.LocalValue.TheVariants as local
use Rattle.c_tree.specs.Statements.{local_text, count_start_text, count_end_text, forever_text}
use Rattle.c_parse.specs.PrintedStatements.{signed_tokens, zero_tokens, local_tokens, count_start_tokens, count_end_tokens, forever_tokens}
use Rattle.c_parse.specs.declared.keyword.Keyword.TheVariants as keyword
use Rattle.c_parse.specs.declared.mark.Mark.TheVariants as mark
use Rattle.c_parse.specs.declared.token.Token.{Token}
use Rattle.c_parse.specs.declared.token.Token.TheVariants as token
use Rattle.c_parse.proofs.PrintedPieces.{name, literal, word_space, integer, closed, mark_space}
use Rattle.c_parse.proofs.WordFronts.{Ended}
use Rattle.c_parse.proofs.Written.{Writes, Anything, both, next, blank-behind, blank-before, known-as, space}
use Rattle.c_parse.proofs.WrittenCalls.{right_side, signed}
use Rattle.c_parse.proofs.WrittenOperands.{open_ended}

pub assign : Writes Anything (codes " = ") (token.Mark mark.Assign ∷ [])
assign = blank-before (codes " ") space (mark_space mark.Assign)

pub zero : Writes Anything (codes " = {0}") zero_tokens
zero = next assign (both (next (closed mark.OpenBrace refl) (literal numeral.zero)) (closed mark.CloseBrace refl) (λ rest any. refl))

pub value_of : (v : LocalValue) → Writes Ended (local_text v) (local_tokens v)
value_of (local.ZeroArray l) =
    open_ended (both (next (closed mark.OpenBracket refl) (literal l.numeral)) (next (closed mark.CloseBracket refl) zero) (λ rest any. refl))
value_of local.Zero = open_ended zero
value_of (local.Given value) = next assign (right_side value)

pub local-ended : (v : LocalValue) (rest : List ℕ) → Ended (local_text v ++ rest)
local-ended (local.ZeroArray l) rest = refl
local-ended local.Zero rest = refl
local-ended (local.Given value) rest = refl

pub semicolon : Writes Anything (codes ";") (token.Mark mark.Semicolon ∷ [])
semicolon = closed mark.Semicolon refl

for_parenthesis : Writes Anything (codes "for (") (token.Keyword keyword.For ∷ token.Mark mark.OpenParenthesis ∷ [])
for_parenthesis = next (word_space keyword.For) (closed mark.OpenParenthesis refl)

less : Writes Anything (codes " < ") (token.Mark mark.Less ∷ [])
less = blank-before (codes " ") space (mark_space mark.Less)

pub count-start : (class : IntegerType) (x : Named) (from : SignedLiteral) → Writes Anything (count_start_text class x from) (count_start_tokens class x from)
count-start class x from =
    let begun = both (next (next for_parenthesis (blank-behind (codes " ") space (integer class) (λ rest. refl))) (name x.name)) assign (λ rest any. refl) in
    both (next begun (signed from)) (mark_space mark.Semicolon) (λ rest any. refl)

end-tokens : (below : List Token) (x l s i c : Token) → (x ∷ l ∷ below) ++ s ∷ x ∷ i ∷ c ∷ [] ≡ (x ∷ l ∷ below) ++ s ∷ [] ++ x ∷ [] ++ (i ∷ c ∷ [])
end-tokens below x l s i c = simp append_assoc

pub count-end : (x : Named) (below : SignedLiteral) → Writes Anything (count_end_text x below) (count_end_tokens x below)
count-end x below =
    let compared = next (both (name x.name) less (λ rest any. refl)) (signed below) in
    let stepped = next (both compared (mark_space mark.Semicolon) (λ rest any. refl)) (name x.name) in
    known-as refl (end-tokens (signed_tokens below) (token.Name x.name) (token.Mark mark.Less) (token.Mark mark.Semicolon) (token.Mark mark.Increment) (token.Mark mark.CloseParenthesis))
    (both stepped (next (closed mark.Increment refl) (closed mark.CloseParenthesis refl)) (λ rest any. refl))

pub forever-head : Writes Anything forever_text forever_tokens
unfolding forever_text
forever-head = next (next (next for_parenthesis semicolon) semicolon) (closed mark.CloseParenthesis refl)
