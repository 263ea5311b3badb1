-- Which units a grammar has texts of: those of which each range holds, and for users those of variables and functions alone.
use Rattle.std.proofs.Common.{◌≡◌, ◌∙◌, refl, sym, ap, Bool, true, false, List, [], ◌∷◌, map, Option, Some, None, inl, inr}
use Rattle.std.specs.Prelude.{◌&&◌, ◌||◌, is_some}
use Rattle.std.specs.List.{list_all}
use Rattle.hw_text.specs.declared.place.Place.{Place}
use Rattle.c_tree.specs.declared.type_name.TypeName.{TypeName}
use Rattle.c_tree.specs.declared.item.Parameter.{Parameter}
use Rattle.c_tree.specs.declared.item.Item.{Item}
use Rattle.c_tree.specs.declared.statement.Statement.{Statement}
use Rattle.c_tree.specs.declared.unit.Unit.{Unit as CUnit}
use Rattle.c_parse.specs.declared.headings.Heading.{Heading}
use Rattle.c_parse.specs.CallGrammar.{BehindComma}
use Rattle.c_parse.specs.UnitGrammar.{SpellsParameter, SpellsParameters, Body, SpellsBody, SpellsEnding, returned_of, function_of, FunctionBehind, ItemBehind, SpellsItem, SpellsUnit}
use Rattle.c_tree.specs.Dialects.{is_full, has_statement, has_parameter, has_returned, has_item, has_unit}
use Rattle.c_parse.specs.Values.{Tokens}
use Rattle.hw_text.specs.Language.{Each, Made, ◌∣◌}
use Rattle.c_tree.specs.declared.dialect.Dialect.{Dialect}
use Rattle.c_parse.specs.TypedefGrammar.{SpellsEnumeration, SpellsStructure}
use Rattle.c_tree.specs.declared.item.Item.TheVariants as item
use Rattle.c_parse.proofs.ClearRanges.{Clear, halves}
use Rattle.c_parse.proofs.DialectCalls.{all-had, later-had, right-had}
use Rattle.c_parse.proofs.DialectExpressions.{both-true}
use Rattle.c_parse.proofs.DialectStatements.{or-true, statements-had}

all-map : {X : Type 0} (test : X → Bool) (xs : List X) → list_all (λ b. b) (map test xs) ≡ list_all test xs
all-map test [] = refl
all-map test (x ∷ xs) = ap (λ (b : Bool). test x && b) (all-map test xs)

-- what a function has in its braces, whatever it returns
record IsBody (f : Dialect) (b : Body) : Type 0 where
  statements : list_all (has_statement f) b.0 ≡ true
  returned : (class : Option TypeName) → has_returned f (returned_of class b.1) ≡ true

module _ (f : Dialect) where
  parameter-had : (p : Parameter) (ws : Tokens) → SpellsParameter f p ws → has_parameter f p ≡ true
  parameter-had p ws (inl text) = ap (has_parameter f) text.1 ∙ or-true (is_full f)
  parameter-had p ws (inr text) = ap (has_parameter f) text.1.1 ∙ ap (λ (b : Bool). b || false) text.0

  parameters-had : (ps : List Parameter) (ws : Tokens) → SpellsParameters f ps ws → list_all (has_parameter f) ps ≡ true
  parameters-had ps ws (inl text) = ap (list_all (has_parameter f)) text.1
  parameters-had ps ws (inr text) =
      let others = all-had (has_parameter f) (BehindComma (SpellsParameter f)) (later-had (has_parameter f) (SpellsParameter f) parameter-had) text.0.1 text.2.1 text.2.4 in
      ap (list_all (has_parameter f)) text.1 ∙
      both-true (has_parameter f text.0.0) (list_all (has_parameter f) text.0.1) (parameter-had text.0.0 text.2.0 text.2.3) others

  all-statements : (body : List Statement) → list_all (λ b. b) (map (has_statement f) body) ≡ true → list_all (has_statement f) body ≡ true
  all-statements body each = sym (all-map (has_statement f) body) ∙ each

  body-had : (returns : Bool) (b : Body) (ws : Tokens) → SpellsBody f returns b ws → Clear ws → IsBody f b
  body-had true b ws text clear = record {
    statements = ap (λ (c : Body). list_all (has_statement f) c.0) text.1 ∙ all-statements text.0.0 (statements-had f text.0.0 text.2.0 text.2.3 (halves text.2.0 text.2.1 text.2.2 clear).0);
    returned = λ class. ap (λ (c : Body). has_returned f (returned_of class c.1)) text.1 ∙ value class;
  }
    where
      value : (class : Option TypeName) → has_returned f (returned_of class (Some text.0.1.1.0)) ≡ true
      value None = refl
      value (Some class) = right-had f text.0.1.1.0 text.2.4.4.0 text.2.4.4.3
  body-had false b ws text clear = record {
    statements = ap (λ (c : Body). list_all (has_statement f) c.0) text.1 ∙ all-statements text.0.0 (statements-had f text.0.0 text.2.0 text.2.3 (halves text.2.0 text.2.1 text.2.2 clear).0);
    returned = λ class. ap (λ (c : Body). has_returned f (returned_of class c.1)) text.1 ∙ nothing class;
  }
    where
      nothing : (class : Option TypeName) → has_returned f (returned_of class None) ≡ true
      nothing None = refl
      nothing (Some class) = refl

  ended-had : (h : Heading) (ps : List Parameter) (o : Option Body) (ws : Tokens) → list_all (has_parameter f) ps ≡ true → SpellsEnding f (is_some h.class) o ws → Clear ws → has_item f (function_of h ps o) ≡ true
  ended-had h ps o ws parameters (inl text) clear = ap (λ (p : Option Body). has_item f (function_of h ps p)) text.1.1 ∙ text.0
  ended-had h ps o ws parameters (inr text) clear =
      let b = text.0.1 in
      let body = body-had (is_some h.class) b text.2.1 text.2.4 (halves text.2.0 text.2.1 text.2.2 clear).1 in
      let returned = has_returned f (returned_of h.class b.1) in
      ap (λ (p : Option Body). has_item f (function_of h ps p)) text.1 ∙
      both-true (list_all (has_parameter f) ps) (list_all (has_statement f) b.0 && returned) parameters
      (both-true (list_all (has_statement f) b.0) returned body.statements (body.returned h.class))

  function-had : (h : Heading) (i : Item) (ws : Tokens) → FunctionBehind f h i ws → Clear ws → has_item f i ≡ true
  function-had h i ws text clear =
      let rest = text.2.4 in
      let last = halves rest.4.0 rest.4.1 rest.4.2 (halves rest.0 rest.1 rest.2 (halves text.2.0 text.2.1 text.2.2 clear).1).1 in
      ap (has_item f) text.1 ∙
      ended-had h text.0.1.0 text.0.1.1.1 rest.4.1 (parameters-had text.0.1.0 rest.0 rest.3) rest.4.4 last.1

  behind-had : (h : Heading) (class : Option TypeName) (i : Item) (ws : Tokens) → ItemBehind f h class i ws → Clear ws → has_item f i ≡ true
  behind-had h None i ws text clear = function-had h i ws text clear
  behind-had h (Some class) i ws (inl text) clear = ap (has_item f) text.1
  behind-had h (Some class) i ws (inr text) clear = function-had h i ws text clear

  typedef-is : (i : Item) (ws : Tokens) → (Made item.Enumeration SpellsEnumeration ∣ Made item.Structure SpellsStructure) i ws → has_item f i ≡ is_full f
  typedef-is i ws (inl text) = ap (has_item f) text.1
  typedef-is i ws (inr text) = ap (has_item f) text.1

  item-had : (i : Item) (ws : Tokens) → SpellsItem f i ws → Clear ws → has_item f i ≡ true
  item-had i ws (inl text) clear = ap (has_item f) text.1.1 ∙ typedef-is text.1.0.1 text.1.2.1 text.1.2.4 ∙ text.0
  item-had i ws (inr (inl text)) clear = ap (has_item f) text.1.1 ∙ text.0
  item-had i ws (inr (inr (inl text))) clear = ap (has_item f) text.1.1 ∙ text.0
  item-had i ws (inr (inr (inr text))) clear = behind-had text.0 text.0.class i text.2 text.5 (halves text.1 text.2 text.3 clear).1

  items-had : (is : List Item) (ws : Tokens) → Each (SpellsItem f) is ws → Clear ws → list_all (has_item f) is ≡ true
  items-had [] ws text clear = refl
  items-had (i ∷ is) ws text clear =
      let parts = halves text.0 text.1 text.2 clear in
      both-true (has_item f i) (list_all (has_item f) is) (item-had i text.0 text.3 parts.0) (items-had is text.1 text.4 parts.1)

  -- a text in which no range is empty is one of a unit that the grammar has
  pub unit-had : (end : Place) (u : CUnit) (ts : Tokens) → SpellsUnit f end u ts → Clear ts → has_unit f u ≡ true
  unit-had end u ts text clear = items-had u.items ts text.0 clear
