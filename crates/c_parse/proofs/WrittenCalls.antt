-- The canonical texts of lists, calls, and what declarations name have their canonical tokens.
use Rattle.std.proofs.Common.{ℕ, Bool, true, false, if◌then◌else◌, List, [], ◌∷◌, ◌++◌, map, codes, Option, Some, None, refl}
use Rattle.std.specs.List.{flat_map}
use Rattle.c_tree.specs.declared.numeral.Numeral.{Numeral}
use Rattle.c_tree.specs.declared.named.Literal.{Literal}
use Rattle.c_tree.specs.declared.named.Named.{Named}
use Rattle.c_tree.specs.declared.named.SignedLiteral.{SignedLiteral}
use Rattle.c_tree.specs.declared.type_name.TypeName.{TypeName}
use Rattle.c_tree.specs.declared.type_name.TypeName.TheVariants as class
use Rattle.c_tree.specs.declared.expression.Argument.{Argument}
use Rattle.c_tree.specs.declared.expression.Argument.TheVariants as argument
use Rattle.c_tree.specs.declared.expression.Call.{Call}
use Rattle.c_tree.specs.declared.expression.RightSide.{RightSide}
use Rattle.c_tree.specs.declared.expression.RightSide.TheVariants as right
use Rattle.c_tree.specs.Expressions.{argument_text, call_text, right_text}
use Rattle.c_tree.specs.Printing.{type_text, signed_text, length_text, declared_text, behind_comma, with_commas}
use Rattle.c_parse.specs.PrintedExpressions.{behind_comma_tokens, separated, argument_tokens, call_tokens, right_tokens}
use Rattle.c_parse.specs.PrintedStatements.{type_token, signed_tokens, length_tokens}
use Rattle.c_parse.specs.PrintedUnits.{declared_tokens}
use Rattle.c_parse.specs.declared.keyword.Keyword.TheVariants as keyword
use Rattle.c_parse.specs.declared.mark.Mark.TheVariants as mark
use Rattle.c_parse.specs.declared.token.Token.{Token}
use Rattle.c_parse.specs.declared.token.Token.TheVariants as token
use Rattle.c_parse.proofs.PrintedPieces.{name, literal, word, integer, closed, mark_space, minus, ampersand, name-no-operator, literal-no-operator}
use Rattle.c_parse.proofs.WordFronts.{Ended}
use Rattle.c_parse.proofs.Written.{Writes, Anything, both, next, blank-behind, nothing, space}
use Rattle.c_parse.proofs.WrittenExpressions.{expression}
use Rattle.c_parse.proofs.WrittenOperands.{open_ended}

module _ {X : Type 0} (text : X → List ℕ) (tokens : X → List Token) (each : (x : X) → Writes Ended (text x) (tokens x)) where
  commas-ended : (xs : List X) (rest : List ℕ) → Ended rest → Ended (flat_map behind_comma (map text xs) ++ rest)
  commas-ended [] rest ended = ended
  commas-ended (x ∷ xs) rest ended = refl

  commas : (xs : List X) → Writes Ended (flat_map behind_comma (map text xs)) (flat_map (behind_comma_tokens tokens) xs)
  commas [] = nothing
  commas (x ∷ xs) = both (next (mark_space mark.Comma) (each x)) (commas xs) (λ rest ended. commas-ended xs rest ended)

  -- one after another, with commas between
  pub with-commas : (xs : List X) → Writes Ended (with_commas (map text xs)) (separated tokens xs)
  with-commas [] = nothing
  with-commas (x ∷ xs) = both (each x) (commas xs) (λ rest ended. commas-ended xs rest ended)

handed : (a : Argument) → Writes Ended (argument_text a) (argument_tokens a)
handed (argument.Address at x) = both ampersand (name x.name) (λ rest ended. (name-no-operator x.name rest).no_and)
handed (argument.Value x) = expression x

pub call : (c : Call) → Writes Anything (call_text c) (call_tokens c)
call c =
    both (next (both (name c.name.name) (closed mark.OpenParenthesis refl) (λ rest any. refl)) (with-commas argument_text argument_tokens handed c.arguments))
    (closed mark.CloseParenthesis refl) (λ rest any. refl)

pub right_side : (r : RightSide) → Writes Ended (right_text r) (right_tokens r)
right_side (right.Call c) = open_ended (call c)
right_side (right.Value x) = expression x

pub type_name : (t : TypeName) → Writes Ended (type_text t) (type_token t ∷ [])
type_name (class.Integer at kind) = integer kind
type_name (class.Truth at) = word keyword.Bool
type_name (class.Defined x) = name x.name

signed_by : (negative : Bool) (n : Numeral) → Writes Ended ((if negative then codes "-" else []) ++ n.bytes) ((if negative then token.Mark mark.Minus ∷ [] else []) ++ token.Literal n ∷ [])
signed_by true n = both minus (literal n) (λ rest ended. (literal-no-operator n rest).no_sign)
signed_by false n = literal n

pub signed : (l : SignedLiteral) → Writes Ended (signed_text l) (signed_tokens l)
signed l = signed_by l.negative l.literal.numeral

pub length_of : (o : Option Literal) → Writes Ended (length_text o) (length_tokens o)
length_of None = nothing
length_of (Some l) =
    open_ended (both (next (closed mark.OpenBracket refl) (literal l.numeral)) (closed mark.CloseBracket refl) (λ rest any. refl))

length-ended : (o : Option Literal) (rest : List ℕ) → Ended rest → Ended (length_text o ++ rest)
length-ended None rest ended = ended
length-ended (Some l) rest ended = refl

pub declared : (t : TypeName) (x : Named) (o : Option Literal) → Writes Ended (declared_text t x o) (declared_tokens t x o)
declared t x o =
    both (next (blank-behind (codes " ") space (type_name t) (λ rest. refl)) (name x.name)) (length_of o) (λ rest ended. length-ended o rest ended)
