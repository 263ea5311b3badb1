-- The grammar of property values (docs/formats/model.md).
use Rattle.std.specs.Prelude.{◌≡◌, ℕ, List, [], ◌∷◌, ◌++◌, codes, Option, Some, None, ⊤}
use Rattle.hw_text.specs.declared.placed.Placed.{Placed}
use Rattle.hw_text.specs.Language.{◌⋅◌, Made, Maybe, Each}
use Rattle.aadl_tree.specs.declared.token.Token.{Token}
use Rattle.aadl_tree.specs.declared.value.PropertyValue.{PropertyValue}
use Rattle.aadl_tree.specs.declared.value.PropertyValue.TheVariants as value
use Rattle.aadl_tree.specs.declared.value.RecordField.{RecordField}
use Rattle.aadl_parse.specs.SimpleValue.{Symbol, SpellsSimple, SpellsFieldName}

mutual
  -- a value without parts, or "(" [ value { "," value } ] ")", or "[" { field } "]"
  pub data SpellsValue : PropertyValue → List (Placed Token) → Type 0 where
    simple : (v : PropertyValue) (ts : List (Placed Token)) → SpellsSimple v ts → SpellsValue v ts
    list : (vs : List PropertyValue) (os us cs : List (Placed Token)) (v : PropertyValue) (ts : List (Placed Token)) → v ≡ value.List vs → ts ≡ os ++ (us ++ cs) → Symbol (codes "(") tt os → SpellsMembers vs us → Symbol (codes ")") tt cs → SpellsValue v ts
    set : (fs : List RecordField) (os us cs : List (Placed Token)) (v : PropertyValue) (ts : List (Placed Token)) → v ≡ value.Record fs → ts ≡ os ++ (us ++ cs) → Symbol (codes "[") tt os → SpellsFields fs us → Symbol (codes "]") tt cs → SpellsValue v ts

  -- [ value { "," value } ]
  pub data SpellsMembers : List PropertyValue → List (Placed Token) → Type 0 where
    no_members : (vs : List PropertyValue) (ts : List (Placed Token)) → vs ≡ [] → ts ≡ [] → SpellsMembers vs ts
    members : (v : PropertyValue) (vs : List PropertyValue) (us ws : List (Placed Token)) (all : List PropertyValue) (ts : List (Placed Token)) → all ≡ v ∷ vs → ts ≡ us ++ ws → SpellsValue v us → SpellsFurther vs ws → SpellsMembers all ts

  -- { "," value }
  pub data SpellsFurther : List PropertyValue → List (Placed Token) → Type 0 where
    no_further : (vs : List PropertyValue) (ts : List (Placed Token)) → vs ≡ [] → ts ≡ [] → SpellsFurther vs ts
    further : (v : PropertyValue) (vs : List PropertyValue) (cs us ws : List (Placed Token)) (all : List PropertyValue) (ts : List (Placed Token)) → all ≡ v ∷ vs → ts ≡ (cs ++ us) ++ ws → Symbol (codes ",") tt cs → SpellsValue v us → SpellsFurther vs ws → SpellsFurther all ts

  -- { NAME "=>" value ";" }
  pub data SpellsFields : List RecordField → List (Placed Token) → Type 0 where
    no_fields : (fs : List RecordField) (ts : List (Placed Token)) → fs ≡ [] → ts ≡ [] → SpellsFields fs ts
    fields : (f : RecordField) (fs : List RecordField) (ns us ss ws : List (Placed Token)) (all : List RecordField) (ts : List (Placed Token)) → all ≡ f ∷ fs → ts ≡ (ns ++ (us ++ ss)) ++ ws → SpellsFieldName f.name ns → SpellsValue f.value us → Symbol (codes ";") tt ss → SpellsFields fs ws → SpellsFields all ts

abbrev pub second_of : ⊤ × PropertyValue → PropertyValue
second_of p = p.1

-- "," value
abbrev pub SpellsNext : PropertyValue → List (Placed Token) → Type 0
SpellsNext = Made second_of (Symbol (codes ",") ⋅ SpellsValue)

abbrev pub first_of : PropertyValue × List PropertyValue → List PropertyValue
first_of p = p.0 ∷ p.1

-- value { "," value }
abbrev pub SpellsFirst : List PropertyValue → List (Placed Token) → Type 0
SpellsFirst = Made first_of (SpellsValue ⋅ Each SpellsNext)

abbrev pub members_of : Option (List PropertyValue) → List PropertyValue
members_of None = []
members_of (Some vs) = vs

-- [ value { "," value } ]
abbrev pub SpellsEach : List PropertyValue → List (Placed Token) → Type 0
SpellsEach = Made members_of (Maybe SpellsFirst)

abbrev pub field_of : List ℕ × (PropertyValue × ⊤) → RecordField
field_of p = record { name = p.0; value = p.1.0 }

-- NAME "=>" value ";"
abbrev pub SpellsField : RecordField → List (Placed Token) → Type 0
SpellsField = Made field_of (SpellsFieldName ⋅ SpellsValue ⋅ Symbol (codes ";"))
