-- The canonical tokens of units spell them.
use Rattle.std.specs.Prelude.{◌||◌}
use Rattle.std.proofs.Common.{◌≡◌, Bool, true, false, not, List, [], ◌∷◌, ◌++◌, map, Option, Some, None, inr, refl, sym, ap, ◌∙◌, append_assoc, append-nil, IsTrue}
use Rattle.std.specs.Prelude.{◌&&◌}
use Rattle.std.specs.List.{flat_map, list_all}
use Rattle.std.specs.Option.{option_map}
use Rattle.hw_text.specs.declared.place.Place.{Place}
use Rattle.hw_text.specs.Language.{◌⋅◌, Made, ◌∣◌}
use Rattle.std.proofs.lemmas.Bool.{and_parts}
use Rattle.c_parse.proofs.DialectExpressions.{both-true}
use Rattle.c_tree.specs.declared.dialect.Dialect.{Dialect}
use Rattle.c_tree.specs.Unplaced.{origin, unplaced_named, unplaced_class, unplaced_right, unplaced_statement}
use Rattle.c_tree.specs.UnplacedUnits.{unplaced_parameter, unplaced_item, SameUnit}
use Rattle.c_tree.specs.declared.named.Named.{Named}
use Rattle.c_tree.specs.declared.type_name.TypeName.{TypeName}
use Rattle.c_tree.specs.declared.expression.RightSide.{RightSide}
use Rattle.c_tree.specs.declared.item.Parameter.{Parameter}
use Rattle.c_tree.specs.declared.item.Returned.{Returned}
use Rattle.c_tree.specs.declared.item.Item.{Item}
use Rattle.c_tree.specs.declared.item.Item.TheVariants as item
use Rattle.c_tree.specs.declared.statement.Statement.{Statement}
use Rattle.c_tree.specs.declared.unit.Unit.{Unit as CUnit}
use Rattle.c_parse.specs.CallGrammar.{Word, SpellsType}
use Rattle.c_parse.specs.ExpressionGrammar.{Sign, Name}
use Rattle.c_parse.specs.PrintedExpressions.{right_tokens}
use Rattle.c_parse.specs.PrintedStatements.{type_token, statement_tokens}
use Rattle.c_parse.specs.PrintedUnits.{static_tokens, star_tokens, parameter_tokens, parameters_tokens, prototype_tokens, function_tokens, item_tokens, unit_tokens}
use Rattle.c_parse.specs.TypedefGrammar.{SpellsEnumeration, SpellsStructure}
use Rattle.c_parse.specs.UnitGrammar.{SpellsStatic, parameter_of, pointer_parameter_of, SpellsParameter, parameters_of, SpellsParameters, heading_of, Body, SpellsBody, SpellsEnding, function_of, SpellsDeclared, SpellsItem, SpellsUnit}
use Rattle.c_tree.specs.Dialects.{has_right, has_statement, has_parameter, has_returned, has_item, has_unit, is_full}
use Rattle.c_parse.specs.Values.{Tokens}
use Rattle.c_parse.specs.declared.keyword.Keyword.TheVariants as keyword
use Rattle.c_parse.specs.declared.mark.Mark.TheVariants as mark
use Rattle.c_parse.specs.declared.token.Token.{Token}
use Rattle.c_parse.specs.declared.token.Token.TheVariants as token
use Rattle.c_parse.proofs.Respelled.{Respells, tokens_of, both_bare, respelled-as, after, turned, built, one-way, other-way, in-full, each-of, all-parts}
use Rattle.c_parse.proofs.RespelledCalls.{of-each-as, later-read, type_name, right_side}
use Rattle.c_parse.proofs.RespelledStatements.{statements}
use Rattle.c_parse.proofs.RespelledWords.{sign, word, named}
use Rattle.c_parse.proofs.RespelledDeclarations.{enumeration, structure, static, external, pointer, typed-heading, void-heading, variable}

-- a body without its places
abbrev body_bare : Body → Body
body_bare b = (map unplaced_statement b.0, option_map unplaced_right b.1)

body-is : (s : Bool) (t : TypeName) (x : Named) (ps : List Parameter) (ss : List Statement) (o : Option RightSide) → unplaced_item (function_of (heading_of (s, (Some t, x))) ps (Some (ss, o))) ≡ function_of (heading_of (s, (Some (unplaced_class t), unplaced_named x))) (map unplaced_parameter ps) (Some (map unplaced_statement ss, option_map unplaced_right o))
body-is s t x ps ss None = refl
body-is s t x ps ss (Some r) = refl

function-bare : (s : Bool) (o : Option TypeName) (x : Named) (ps : List Parameter) (b : Option Body) → unplaced_item (function_of (heading_of (s, (o, x))) ps b) ≡ function_of (heading_of (s, (option_map unplaced_class o, unplaced_named x))) (map unplaced_parameter ps) (option_map body_bare b)
function-bare s o x ps None = refl
function-bare s None x ps (Some b) = refl
function-bare s (Some t) x ps (Some b) = body-is s t x ps b.0 b.1

-- what stands behind the name of a function
abbrev Rest : Type 0
Rest = Place × (List Parameter × (Place × Option Body))

abbrev TypedParts : Type 0
TypedParts = (Bool × (TypeName × Named)) × Rest

abbrev VoidParts : Type 0
VoidParts = (Bool × (Place × Named)) × Rest

abbrev typed_of : TypedParts → Item
typed_of k = function_of (heading_of (k.0.0, (Some k.0.1.0, k.0.1.1))) k.1.1.0 k.1.1.1.1

abbrev void_of : VoidParts → Item
void_of k = function_of (heading_of (k.0.0, (None, k.0.1.1))) k.1.1.0 k.1.1.1.1

or-none : (b : Bool) → IsTrue (b || false) → IsTrue b
or-none true h = h
or-none false h = h

module _ (dialect : Dialect) where
  parameter_by : (t : TypeName) (is_pointer : Bool) (x : Named) → IsTrue (is_full dialect || not is_pointer) → Respells (SpellsParameter dialect) unplaced_parameter (record { class = unplaced_class t; is_pointer = is_pointer; name = unplaced_named x }) (type_token t ∷ star_tokens is_pointer ++ token.Name x.name ∷ [])
  parameter_by t false x allowed = one-way (built parameter_of (after (type_name t) (named x)) (λ y. refl) refl)
  parameter_by t true x allowed =
      other-way (in-full dialect (or-none (is_full dialect) allowed) (built pointer_parameter_of (after (type_name t) (after (sign mark.Star) (named x))) (λ y. refl) refl))

  parameter : (p : Parameter) → IsTrue (has_parameter dialect p) → Respells (SpellsParameter dialect) unplaced_parameter (unplaced_parameter p) (parameter_tokens p)
  parameter p allowed = parameter_by p.class p.is_pointer p.name allowed

  parameters : (ps : List Parameter) → IsTrue (list_all (has_parameter dialect) ps) → Respells (SpellsParameters dialect) (map unplaced_parameter) (map unplaced_parameter ps) (parameters_tokens ps)
  parameters [] allowed = one-way (built (λ p. []) (word keyword.Void) (λ y. refl) refl)
  parameters (p ∷ ps) allowed =
      let all = of-each-as parameter (p ∷ ps) (all-parts (has_parameter dialect) (p ∷ ps) allowed) in
      other-way (built parameters_of (after all.0 (later-read (SpellsParameter dialect) parameter_tokens ps all.1)) (λ y. refl) refl)

  abbrev SpellsRest : Bool → Rest → Tokens → Type 0
  SpellsRest returns = Sign mark.OpenParenthesis ⋅ SpellsParameters dialect ⋅ Sign mark.CloseParenthesis ⋅ SpellsEnding dialect returns

  typed : {s : Bool} {t : TypeName} {x : Named} {ps : List Parameter} {b : Option Body} {us : List Token} → Respells ((SpellsStatic ⋅ SpellsType ⋅ Name) ⋅ SpellsRest true) (both_bare (both_bare (λ v. v) (both_bare unplaced_class unplaced_named)) (both_bare (λ at. origin) (both_bare (map unplaced_parameter) (both_bare (λ at. origin) (option_map body_bare))))) ((s, (t, x)), (origin, (ps, (origin, b)))) us → Respells (SpellsDeclared dialect) unplaced_item (function_of (heading_of (s, (Some t, x))) ps b) us
  typed text =
      turned typed_of
      (λ k ts spelled. (heading_of (k.0.0, (Some k.0.1.0, k.0.1.1)), spelled.0, spelled.1, spelled.2, typed-heading k.0.0 k.0.1.0 k.0.1.1 spelled.0 spelled.3, inr (k.1, refl, spelled.4)))
      (λ k same. function-bare k.0.0 (Some k.0.1.0) k.0.1.1 k.1.1.0 k.1.1.1.1 ∙ ap typed_of same) text

  without_type : {s : Bool} {x : Named} {ps : List Parameter} {b : Option Body} {us : List Token} → Respells ((SpellsStatic ⋅ Word keyword.Void ⋅ Name) ⋅ SpellsRest false) (both_bare (both_bare (λ v. v) (both_bare (λ at. origin) unplaced_named)) (both_bare (λ at. origin) (both_bare (map unplaced_parameter) (both_bare (λ at. origin) (option_map body_bare))))) ((s, (origin, x)), (origin, (ps, (origin, b)))) us → Respells (SpellsDeclared dialect) unplaced_item (function_of (heading_of (s, (None, x))) ps b) us
  without_type text =
      turned void_of
      (λ k ts spelled. (heading_of (k.0.0, (None, k.0.1.1)), spelled.0, spelled.1, spelled.2, void-heading k.0.0 k.0.1.0 k.0.1.1 spelled.0 spelled.3, (k.1, refl, spelled.4)))
      (λ k same. function-bare k.0.0 None k.0.1.1 k.1.1.0 k.1.1.1.1 ∙ ap void_of same) text

  no_body : (returns : Bool) → IsTrue (is_full dialect) → Respells (SpellsEnding dialect returns) (option_map body_bare) None (token.Mark mark.Semicolon ∷ [])
  no_body returns allowed = one-way (in-full dialect allowed (built (λ p. None) (sign mark.Semicolon) (λ y. refl) refl))

  prototype-split : (s ps : List Token) (t n o c e : Token) → (s ++ t ∷ n ∷ []) ++ (o ∷ (ps ++ c ∷ e ∷ [])) ≡ s ++ t ∷ [] ++ (n ∷ o ∷ ps ++ c ∷ []) ++ e ∷ []
  prototype-split s ps t n o c e = simp append_assoc

  prototype_by : (s : Bool) (o : Option TypeName) (x : Named) (ps : List Parameter) → IsTrue (is_full dialect) → IsTrue (list_all (has_parameter dialect) ps) → Respells (SpellsDeclared dialect) unplaced_item (unplaced_item (item.Prototype (record { is_static = s; class = o; name = x; parameters = ps }))) (prototype_tokens (record { is_static = s; class = o; name = x; parameters = ps }))
  prototype_by s None x ps allowed users =
      respelled-as (prototype-split (static_tokens s) (parameters_tokens ps) (token.Keyword keyword.Void) (token.Name x.name) (token.Mark mark.OpenParenthesis) (token.Mark mark.CloseParenthesis) (token.Mark mark.Semicolon)) refl
      (without_type (after (after (static s) (after (word keyword.Void) (named x))) (after (sign mark.OpenParenthesis) (after (parameters ps users) (after (sign mark.CloseParenthesis) (no_body false allowed))))))
  prototype_by s (Some t) x ps allowed users =
      respelled-as (prototype-split (static_tokens s) (parameters_tokens ps) (type_token t) (token.Name x.name) (token.Mark mark.OpenParenthesis) (token.Mark mark.CloseParenthesis) (token.Mark mark.Semicolon)) refl
      (typed (after (after (static s) (after (type_name t) (named x))) (after (sign mark.OpenParenthesis) (after (parameters ps users) (after (sign mark.CloseParenthesis) (no_body true allowed))))))

  void_body : (ss : List Statement) → IsTrue (list_all (has_statement dialect) ss) → Respells (SpellsBody dialect false) body_bare (map unplaced_statement ss, None) (flat_map statement_tokens ss ++ token.Mark mark.CloseBrace ∷ [])
  void_body ss allowed = built (λ p. (p.0, None)) (after (statements dialect ss allowed) (sign mark.CloseBrace)) (λ y. refl) refl

  returning_body : (ss : List Statement) (r : RightSide) → IsTrue (list_all (has_statement dialect) ss) → IsTrue (has_right dialect r) → Respells (SpellsBody dialect true) body_bare (map unplaced_statement ss, Some (unplaced_right r)) (flat_map statement_tokens ss ++ token.Keyword keyword.Return ∷ (right_tokens r ++ token.Mark mark.Semicolon ∷ token.Mark mark.CloseBrace ∷ []))
  returning_body ss r allowed user =
      built (λ p. (p.0, Some p.1.1.0)) (after (statements dialect ss allowed) (after (word keyword.Return) (after (right_side dialect r user) (after (sign mark.Semicolon) (sign mark.CloseBrace))))) (λ y. refl) refl

  braced : (returns : Bool) {b : Body} {us : List Token} → Respells (SpellsBody dialect returns) body_bare b us → Respells (SpellsEnding dialect returns) (option_map body_bare) (Some b) (token.Mark mark.OpenBrace ∷ us)
  braced returns text = other-way (built (λ p. Some p.1) (after (sign mark.OpenBrace) text) (λ y. refl) refl)

  -- a heading, and what stands behind its brace
  behind-brace : (h ps xs : List Token) (o c b : Token) → h ++ (o ∷ (ps ++ c ∷ b ∷ xs)) ≡ h ++ (o ∷ (ps ++ c ∷ b ∷ [])) ++ xs
  behind-brace h ps xs o c b = simp append_assoc

  function-split : (s ps body : List Token) (t n o c b e : Token) → (s ++ t ∷ n ∷ []) ++ (o ∷ (ps ++ c ∷ b ∷ (body ++ e ∷ []))) ≡ s ++ t ∷ [] ++ (n ∷ o ∷ ps ++ c ∷ []) ++ b ∷ [] ++ body ++ e ∷ []
  function-split s ps body t n o c b e =
      behind-brace (s ++ t ∷ n ∷ []) ps (body ++ e ∷ []) o c b ∙ ap (λ (l : List Token). l ++ (body ++ e ∷ [])) (prototype-split s ps t n o c b) ∙
      sym (append_assoc (s ++ t ∷ [] ++ (n ∷ o ∷ ps ++ c ∷ []) ++ b ∷ []) body (e ∷ []))

  void-split : (s ps ss : List Token) (t n o c b e : Token) → (s ++ t ∷ n ∷ []) ++ (o ∷ (ps ++ c ∷ b ∷ (ss ++ e ∷ []))) ≡ s ++ t ∷ [] ++ (n ∷ o ∷ ps ++ c ∷ []) ++ b ∷ [] ++ (ss ++ []) ++ e ∷ []
  void-split s ps ss t n o c b e =
      function-split s ps ss t n o c b e ∙
      ap (λ (l : List Token). s ++ t ∷ [] ++ (n ∷ o ∷ ps ++ c ∷ []) ++ b ∷ [] ++ l ++ e ∷ []) (sym (append-nil ss))

  returning : (ss rs : List Token) (w d e : Token) → ss ++ (w ∷ (rs ++ d ∷ e ∷ [])) ≡ ss ++ (w ∷ rs ++ d ∷ []) ++ e ∷ []
  returning ss rs w d e = simp append_assoc

  returning-split : (s ps ss rs : List Token) (t n o c b w d e : Token) → (s ++ t ∷ n ∷ []) ++ (o ∷ (ps ++ c ∷ b ∷ (ss ++ w ∷ (rs ++ d ∷ e ∷ [])))) ≡ s ++ t ∷ [] ++ (n ∷ o ∷ ps ++ c ∷ []) ++ b ∷ [] ++ (ss ++ (w ∷ rs ++ d ∷ [])) ++ e ∷ []
  returning-split s ps ss rs t n o c b w d e =
      ap (λ (l : List Token). (s ++ t ∷ n ∷ []) ++ (o ∷ (ps ++ c ∷ b ∷ l))) (returning ss rs w d e) ∙ function-split s ps (ss ++ (w ∷ rs ++ d ∷ [])) t n o c b e

  function_by : (s : Bool) (o : Option Returned) (x : Named) (ps : List Parameter) (ss : List Statement) → IsTrue (list_all (has_parameter dialect) ps) → IsTrue (list_all (has_statement dialect) ss) → IsTrue (has_returned dialect o) → Respells (SpellsDeclared dialect) unplaced_item (unplaced_item (item.Function (record { is_static = s; returned = o; name = x; parameters = ps; body = ss }))) (function_tokens (record { is_static = s; returned = o; name = x; parameters = ps; body = ss }))
  function_by s None x ps ss users all user =
      respelled-as (void-split (static_tokens s) (parameters_tokens ps) (flat_map statement_tokens ss) (token.Keyword keyword.Void) (token.Name x.name) (token.Mark mark.OpenParenthesis) (token.Mark mark.CloseParenthesis) (token.Mark mark.OpenBrace) (token.Mark mark.CloseBrace)) refl
      (without_type (after (after (static s) (after (word keyword.Void) (named x))) (after (sign mark.OpenParenthesis) (after (parameters ps users) (after (sign mark.CloseParenthesis) (braced false (void_body ss all)))))))
  function_by s (Some r) x ps ss users all user =
      respelled-as (returning-split (static_tokens s) (parameters_tokens ps) (flat_map statement_tokens ss) (right_tokens r.value) (type_token r.class) (token.Name x.name) (token.Mark mark.OpenParenthesis) (token.Mark mark.CloseParenthesis) (token.Mark mark.OpenBrace) (token.Keyword keyword.Return) (token.Mark mark.Semicolon) (token.Mark mark.CloseBrace)) refl
      (typed (after (after (static s) (after (type_name r.class) (named x))) (after (sign mark.OpenParenthesis) (after (parameters ps users) (after (sign mark.CloseParenthesis) (braced true (returning_body ss r.value all user)))))))

  full_parameters : IsTrue (is_full dialect) → (ps : List Parameter) → IsTrue (list_all (has_parameter dialect) ps)
  full_parameters full [] = refl
  full_parameters full (p ∷ ps) =
      both-true (has_parameter dialect p) (list_all (has_parameter dialect) ps) (ap (λ (b : Bool). b || not p.is_pointer) full) (full_parameters full ps)

  a_typedef : {z : Item} {us : List Token} → Respells (Made item.Enumeration SpellsEnumeration ∣ Made item.Structure SpellsStructure) unplaced_item z us → IsTrue (is_full dialect) → Respells (SpellsItem dialect) unplaced_item z (token.Keyword keyword.Typedef ∷ us)
  a_typedef text allowed = one-way (in-full dialect allowed (built (λ p. p.1) (after (word keyword.Typedef) text) (λ y. refl) refl))

  declared : {z : Item} {us : List Token} → Respells (SpellsDeclared dialect) unplaced_item z us → Respells (SpellsItem dialect) unplaced_item z us
  declared text = other-way (other-way (other-way text))

  item_read : (i : Item) → IsTrue (has_item dialect i) → Respells (SpellsItem dialect) unplaced_item (unplaced_item i) (item_tokens i)
  item_read (item.Enumeration e) allowed = a_typedef (one-way (built item.Enumeration (enumeration e) (λ y. refl) refl)) allowed
  item_read (item.Structure s) allowed = a_typedef (other-way (built item.Structure (structure s) (λ y. refl) refl)) allowed
  item_read (item.Variable v) allowed = declared (variable dialect v)
  item_read (item.External x) allowed = other-way (one-way (in-full dialect allowed (built item.External (external x) (λ y. refl) refl)))
  item_read (item.Pointer p) allowed = other-way (other-way (one-way (in-full dialect allowed (built item.Pointer (pointer p) (λ y. refl) refl))))
  item_read (item.Prototype p) allowed = declared (prototype_by p.is_static p.class p.name p.parameters allowed (full_parameters allowed p.parameters))
  item_read (item.Function f) allowed =
      let both = and_parts (list_all (has_parameter dialect) f.parameters) (list_all (has_statement dialect) f.body && has_returned dialect f.returned) allowed in
      let rest = and_parts (list_all (has_statement dialect) f.body) (has_returned dialect f.returned) both.1 in
      declared (function_by f.is_static f.returned f.name f.parameters f.body both.0 rest.0 rest.1)

  -- the canonical tokens of a unit, wherever they stand, are a text of a unit that is the same but for places
  pub unit-read : (u : CUnit) (ts : Tokens) (end : Place) → tokens_of ts ≡ unit_tokens u → IsTrue (has_unit dialect u) → (q : CUnit) × SpellsUnit dialect end q ts × SameUnit u q
  unit-read u ts end e allowed =
      let all = each-of item_tokens u.items (of-each-as item_read u.items (all-parts (has_item dialect) u.items allowed)) in
      let found = all.found ts e in
      (record { items = found.0; end = end }, (found.1, refl), ap (λ (l : List Item). record { items = l; end = origin }) (sym found.2))
