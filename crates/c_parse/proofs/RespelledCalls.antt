-- The canonical tokens of lists, calls, types and the values of variables spell them.
use Rattle.std.proofs.Common.{Bool, true, false, if◌then◌else◌, List, [], ◌∷◌, ◌++◌, map, Option, Some, None, refl, ap, IsTrue}
use Rattle.std.specs.List.{flat_map}
use Rattle.std.specs.Option.{option_map}
use Rattle.hw_text.specs.Language.{Each}
use Rattle.c_tree.specs.declared.dialect.Dialect.{Dialect}
use Rattle.c_tree.specs.Spellings as numeral
use Rattle.c_tree.specs.Unplaced.{origin, unplaced_literal, unplaced_signed, unplaced_class, unplaced_argument, unplaced_call, unplaced_right, unplaced_local}
use Rattle.c_tree.specs.declared.named.Literal.{Literal}
use Rattle.c_tree.specs.declared.named.SignedLiteral.{SignedLiteral}
use Rattle.c_tree.specs.declared.type_name.TypeName.{TypeName}
use Rattle.c_tree.specs.declared.type_name.TypeName.TheVariants as class
use Rattle.c_tree.specs.declared.expression.Argument.{Argument}
use Rattle.c_tree.specs.declared.expression.Argument.TheVariants as argument
use Rattle.c_tree.specs.declared.expression.Call.{Call}
use Rattle.c_tree.specs.declared.expression.RightSide.{RightSide}
use Rattle.c_tree.specs.declared.expression.RightSide.TheVariants as right
use Rattle.c_tree.specs.declared.statement.LocalValue.{LocalValue}
use Rattle.c_tree.specs.declared.statement.LocalValue.TheVariants as local
use Rattle.c_parse.specs.CallGrammar.{BehindComma, Separated, integer_name, SpellsType, plain_literal, negative_literal, SpellsSigned, address, SpellsArgument, call_of, SpellsCall, SpellsRightSide}
use Rattle.c_parse.specs.PlainGrammar.{SpellsZeros, SpellsGiven, zero_array, SpellsLocalValue}
use Rattle.c_parse.specs.PrintedExpressions.{behind_comma_tokens, separated, argument_tokens, call_tokens, right_tokens}
use Rattle.c_parse.specs.PrintedStatements.{type_token, signed_tokens, length_tokens, local_tokens}
use Rattle.c_parse.specs.TypedefGrammar.{length_of, SpellsLength}
use Rattle.c_tree.specs.Dialects.{has_argument, has_call, has_right, has_local}
use Rattle.c_parse.specs.Values.{Tokens}
use Rattle.c_parse.specs.declared.keyword.Keyword.TheVariants as keyword
use Rattle.c_parse.specs.declared.mark.Mark.TheVariants as mark
use Rattle.c_parse.specs.declared.token.Token.{Token}
use Rattle.c_parse.specs.declared.token.Token.TheVariants as token
use Rattle.c_tree.proofs.ExpressionInduction.{OfEach}
use Rattle.c_parse.proofs.Respelled.{Respells, no-tokens, after, turned, built, one-way, other-way, not-there, there, each-of, all-parts}
use Rattle.c_parse.proofs.RespelledExpressions.{whole}
use Rattle.c_parse.proofs.RespelledWords.{sign, word, named, literal, zero, integer}

-- what holds of each member, as something else does
pub of-each-as : {X : Type 0} {P Q : X → Type 0} → ((x : X) → P x → Q x) → (xs : List X) → OfEach P xs → OfEach Q xs
of-each-as make [] all = tt
of-each-as make (x ∷ xs) all = (make x all.0, of-each-as make xs all.1)

pub behind-comma : {X : Type 0} {A : X → Tokens → Type 0} {f : X → X} {z : X} {us : List Token} → Respells A f z us → Respells (BehindComma A) f z (token.Mark mark.Comma ∷ us)
behind-comma text = built (λ p. p.1) (after (sign mark.Comma) text) (λ y. refl) refl

module _ {X : Type 0} (A : X → Tokens → Type 0) {f : X → X} (tokens : X → List Token) where
  pub later-read : (xs : List X) → OfEach (λ x. Respells A f (f x) (tokens x)) xs → Respells (Each (BehindComma A)) (map f) (map f xs) (flat_map (behind_comma_tokens tokens) xs)
  later-read xs all = each-of (behind_comma_tokens tokens) xs (of-each-as (λ x text. behind-comma text) xs all)

  separated-read : (xs : List X) → OfEach (λ x. Respells A f (f x) (tokens x)) xs → Respells (Separated A) (map f) (map f xs) (separated tokens xs)
  separated-read [] all = record { found = λ ts e. ([], no-tokens ts e, refl) }
  separated-read (x ∷ xs) all =
      turned (λ (p : X × List X). p.0 ∷ p.1) (λ p ts text. text) (λ p same. ap (λ (q : X × List X). q.0 ∷ q.1) same) (after all.0 (later-read xs all.1))

pub type_name : (t : TypeName) → Respells SpellsType unplaced_class (unplaced_class t) (type_token t ∷ [])
type_name (class.Integer at kind) = one-way (built integer_name (integer kind) (λ y. refl) refl)
type_name (class.Truth at) = other-way (one-way (built class.Truth (word keyword.Bool) (λ y. refl) refl))
type_name (class.Defined x) = other-way (other-way (built class.Defined (named x) (λ y. refl) refl))

signed_by : (negative : Bool) (l : Literal) → Respells SpellsSigned unplaced_signed (record { start = origin; negative = negative; literal = unplaced_literal l }) ((if negative then token.Mark mark.Minus ∷ [] else []) ++ token.Literal l.numeral ∷ [])
signed_by true l = other-way (built negative_literal (after (sign mark.Minus) (literal l)) (λ y. refl) refl)
signed_by false l = one-way (built plain_literal (literal l) (λ y. refl) refl)

pub signed : (l : SignedLiteral) → Respells SpellsSigned unplaced_signed (unplaced_signed l) (signed_tokens l)
signed l = signed_by l.negative l.literal

pub a_length : (o : Option Literal) → Respells SpellsLength (option_map unplaced_literal) (option_map unplaced_literal o) (length_tokens o)
a_length None = not-there
a_length (Some l) = there (built length_of (after (sign mark.OpenBracket) (after (literal l) (sign mark.CloseBracket))) (λ y. refl) refl)

abbrev pub zeros_tokens : List Token
zeros_tokens = token.Mark mark.OpenBrace ∷ token.Literal numeral.zero ∷ token.Mark mark.CloseBrace ∷ []

pub zeros : Respells SpellsZeros (λ u. u) tt zeros_tokens
zeros = built (λ p. tt) (after (sign mark.OpenBrace) (after zero (sign mark.CloseBrace))) (λ y. refl) refl

module _ (dialect : Dialect) where
  handed : (a : Argument) → IsTrue (has_argument dialect a) → Respells (SpellsArgument dialect) unplaced_argument (unplaced_argument a) (argument_tokens a)
  handed (argument.Address at x) allowed = one-way (built address (after (sign mark.Ampersand) (named x)) (λ y. refl) refl)
  handed (argument.Value x) allowed = other-way (built argument.Value (whole dialect x allowed) (λ y. refl) refl)

  pub call : (c : Call) → IsTrue (has_call dialect c) → Respells (SpellsCall dialect) unplaced_call (unplaced_call c) (call_tokens c)
  call c allowed =
      let all = of-each-as handed c.arguments (all-parts (has_argument dialect) c.arguments allowed) in
      built call_of (after (named c.name) (after (sign mark.OpenParenthesis) (after (separated-read (SpellsArgument dialect) argument_tokens c.arguments all) (sign mark.CloseParenthesis)))) (λ y. refl) refl

  pub right_side : (r : RightSide) → IsTrue (has_right dialect r) → Respells (SpellsRightSide dialect) unplaced_right (unplaced_right r) (right_tokens r)
  right_side (right.Call c) allowed = one-way (built right.Call (call c allowed) (λ y. refl) refl)
  right_side (right.Value x) allowed = other-way (built right.Value (whole dialect x allowed) (λ y. refl) refl)

  pub local_value : (v : LocalValue) → IsTrue (has_local dialect v) → Respells (SpellsLocalValue dialect) unplaced_local (unplaced_local v) (local_tokens v)
  local_value (local.ZeroArray l) allowed =
      one-way (built zero_array (after (sign mark.OpenBracket) (after (literal l) (after (sign mark.CloseBracket) (after (sign mark.Assign) zeros)))) (λ y. refl) refl)
  local_value local.Zero allowed =
      let given : Respells (SpellsGiven dialect) unplaced_local local.Zero zeros_tokens = one-way (built (λ u. local.Zero) zeros (λ y. refl) refl) in
      other-way (built (λ p. p.1) (after (sign mark.Assign) given) (λ y. refl) refl)
  local_value (local.Given value) allowed =
      let given : Respells (SpellsGiven dialect) unplaced_local (local.Given (unplaced_right value)) (right_tokens value) =
      other-way (built local.Given (right_side value allowed) (λ y. refl) refl) in
      other-way (built (λ p. p.1) (after (sign mark.Assign) given) (λ y. refl) refl)
