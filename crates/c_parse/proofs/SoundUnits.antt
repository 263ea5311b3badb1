-- No empty range stands in the canonical tokens of a unit that a grammar has.
use Rattle.std.proofs.Common.{◌≡◌, ◌∙◌, Bool, true, false, ◌&&◌, List, [], ◌∷◌, ◌++◌, length, Option, Some, None, ℕ, refl, sym, ap, arith}
use Rattle.std.proofs.lemmas.Bool.{and_parts}
use Rattle.std.proofs.lemmas.List.{map-append}
use Rattle.std.specs.List.{flat_map, list_all}
use Rattle.c_tree.specs.Items.{class_of}
use Rattle.c_tree.specs.Dialects.{has_parameter, has_statement, has_returned, has_item, has_unit}
use Rattle.c_tree.specs.declared.dialect.Dialect.{Dialect}
use Rattle.c_tree.specs.declared.named.Named.{Named}
use Rattle.c_tree.specs.declared.named.Literal.{Literal}
use Rattle.c_tree.specs.declared.type_name.TypeName.{TypeName}
use Rattle.c_tree.specs.declared.item.Enumeration.{Enumeration}
use Rattle.c_tree.specs.declared.item.Member.{Member}
use Rattle.c_tree.specs.declared.item.Structure.{Structure}
use Rattle.c_tree.specs.declared.item.InitialValue.{InitialValue}
use Rattle.c_tree.specs.declared.item.InitialValue.TheVariants as initial
use Rattle.c_tree.specs.declared.item.Parameter.{Parameter}
use Rattle.c_tree.specs.declared.item.Returned.{Returned}
use Rattle.c_tree.specs.declared.item.Function.{Function}
use Rattle.c_tree.specs.declared.item.Item.{Item}
use Rattle.c_tree.specs.declared.item.Item.TheVariants as item
use Rattle.c_tree.specs.declared.statement.Statement.{Statement}
use Rattle.c_tree.specs.declared.unit.Unit.{Unit as CUnit}
use Rattle.c_parse.specs.PrintedExpressions.{name_tokens}
use Rattle.c_parse.specs.PrintedStatements.{length_tokens, statement_tokens}
use Rattle.c_parse.specs.PrintedUnits.{declared_tokens, enumeration_tokens, member_tokens, structure_tokens, static_tokens, initial_tokens, star_tokens, parameter_tokens, parameters_tokens, result_tokens, signature_tokens, return_tokens, function_tokens, item_tokens, unit_tokens}
use Rattle.c_parse.specs.Values.{Tokens}
use Rattle.c_parse.specs.declared.keyword.Keyword.TheVariants as keyword
use Rattle.c_parse.specs.declared.mark.Mark.TheVariants as mark
use Rattle.c_parse.specs.declared.token.Token.{Token}
use Rattle.c_parse.specs.declared.token.Token.TheVariants as token
use Rattle.c_parse.proofs.ClearRanges.{Clear}
use Rattle.c_parse.proofs.SoundTokens.{Sound, tokens_of, none, and-then, all, sign, word, named, literal, good-at}
use Rattle.c_parse.proofs.SoundExpressions.{truth, parted, right_side}
use Rattle.c_parse.proofs.SoundStatements.{typed, signed, zero, semicolon, statement}

length_of : (o : Option Literal) → Sound (length_tokens o)
length_of None = none
length_of (Some l) = sign mark.OpenBracket (literal l.numeral (sign mark.CloseBracket none))

declared : (t : TypeName) (x : Named) (o : Option Literal) → Sound (declared_tokens t x o)
declared t x o = typed t (named x.name (length_of o))

-- "}" NAME ";"
closing : (x : Named) → Sound (token.Mark mark.CloseBrace ∷ token.Name x.name ∷ token.Mark mark.Semicolon ∷ [])
closing x = sign mark.CloseBrace (named x.name semicolon)

enumeration : (e : Enumeration) → Sound (enumeration_tokens e)
enumeration e =
    word keyword.Typedef refl (word keyword.Enum refl (sign mark.OpenBrace (and-then (parted name_tokens (λ x. named x.name none) (e.first ∷ e.others)) (closing e.name))))

member : (m : Member) → Sound (member_tokens m)
member m = and-then (declared m.class m.name m.length) semicolon

structure : (s : Structure) → Sound (structure_tokens s)
structure s = word keyword.Typedef refl (word keyword.Struct refl (sign mark.OpenBrace (and-then (all member_tokens member (s.first ∷ s.others)) (closing s.name))))

static : (b : Bool) → Sound (static_tokens b)
static true = word keyword.Static refl none
static false = none

initial_value : (v : Option InitialValue) → Sound (initial_tokens v)
initial_value None = none
initial_value (Some initial.Zero) = zero
initial_value (Some (initial.Number l)) = sign mark.Assign (signed l)
initial_value (Some (initial.Truth at b)) = sign mark.Assign (truth b)
initial_value (Some (initial.Enumerator x)) = sign mark.Assign (named x.name none)

star : (b : Bool) → Sound (star_tokens b)
star true = sign mark.Star none
star false = none

parameter : (p : Parameter) → Sound (parameter_tokens p)
parameter p = typed p.class (and-then (star p.is_pointer) (named p.name.name none))

parameters : (ps : List Parameter) → Sound (parameters_tokens ps)
parameters [] = word keyword.Void refl none
parameters (p ∷ ps) = parted parameter_tokens parameter (p ∷ ps)

result_type : (o : Option TypeName) → Sound (result_tokens o)
result_type None = word keyword.Void refl none
result_type (Some t) = typed t none

signature : (x : Named) (ps : List Parameter) → Sound (signature_tokens x ps)
signature x ps = named x.name (sign mark.OpenParenthesis (and-then (parameters ps) (sign mark.CloseParenthesis none)))

returned : (o : Option Returned) → Sound (return_tokens o)
returned None = none
returned (Some r) = word keyword.Return refl (and-then (right_side r.value) semicolon)

module _ (dialect : Dialect) where
  statements : (body : List Statement) → list_all (has_statement dialect) body ≡ true → Sound (flat_map statement_tokens body)
  statements [] h = none
  statements (x ∷ xs) h =
      let parts = and_parts (has_statement dialect x) (list_all (has_statement dialect) xs) h in
      and-then (statement dialect x parts.0) (statements xs parts.1)

  function : (f : Function) → has_item dialect (item.Function f) ≡ true → Sound (function_tokens f)
  function f h =
      let inner = list_all (has_statement dialect) f.body && has_returned dialect f.returned in
      let parts = and_parts (list_all (has_parameter dialect) f.parameters) inner h in
      let body = and_parts (list_all (has_statement dialect) f.body) (has_returned dialect f.returned) parts.1 in
      let opening = and-then (and-then (and-then (static f.is_static) (result_type (class_of f.returned))) (signature f.name f.parameters)) (sign mark.OpenBrace none) in
      and-then (and-then opening (and-then (statements f.body body.0) (returned f.returned))) (sign mark.CloseBrace none)

  item_sound : (i : Item) → has_item dialect i ≡ true → Sound (item_tokens i)
  item_sound (item.Enumeration e) h = enumeration e
  item_sound (item.Structure s) h = structure s
  item_sound (item.Variable v) h = and-then (and-then (and-then (static v.is_static) (declared v.class v.name v.length)) (initial_value v.initial)) semicolon
  item_sound (item.External x) h = word keyword.Extern refl (and-then (declared x.class x.name x.length) semicolon)
  item_sound (item.Pointer p) h = word keyword.Volatile refl (named p.class.name (sign mark.Star (named p.name.name semicolon)))
  item_sound (item.Prototype p) h = and-then (and-then (and-then (static p.is_static) (result_type p.class)) (signature p.name p.parameters)) semicolon
  item_sound (item.Function f) h = function f h

  items : (is : List Item) → list_all (has_item dialect) is ≡ true → Sound (flat_map item_tokens is)
  items [] h = none
  items (i ∷ is) h =
      let parts = and_parts (has_item dialect i) (list_all (has_item dialect) is) h in
      and-then (item_sound i parts.0) (items is parts.1)

  -- the canonical tokens of a unit that the grammar has, wherever they stand, have no empty range
  pub unit-clear : (u : CUnit) → has_unit dialect u ≡ true → (ts : Tokens) → tokens_of ts ≡ unit_tokens u → Clear ts
  unit-clear u had ts same = record {
    none = λ i at r.
        let rest : List Token = tokens_of (r.head ++ r.behind) in
        let split : unit_tokens u ≡ tokens_of r.before ++ rest = sym same ∙ ap tokens_of r.split ∙ map-append (λ t. t.token) r.before (r.head ++ r.behind) in
        let word = r.spelled.2.3 in
        let some : r.head ++ r.behind ≡ word.0 ∷ (r.spelled.2.1 ++ r.behind) =
        ap (λ (l : Tokens). l ++ r.behind) (r.spelled.2.2 ∙ ap (λ (l : Tokens). l ++ r.spelled.2.1) word.1) in
        let more : rest ≡ [] → ⊥ = λ none_left. absurd (omega (arith, ap {B = ℕ} (λ (l : List Token). length l) (sym none_left ∙ ap tokens_of some))) in
        good-at (unit_tokens u) (tokens_of r.before) rest (items u.items had) split more r.bounds r.head r.behind refl r.spelled r.not_above;
  }
