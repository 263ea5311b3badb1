-- What the types of an architecture keep (this project's own).
use Rattle.std.specs.Prelude.{◌≡◌, ◌≢◌, ◌⊎◌, ℕ, true, false, ◌<◌, ◌≤◌, List, [], ◌∷◌, ◌++◌, length, take, drop, Some, slice_get, IsSomeAnd, All, AllPairs}
use Rattle.hw_text.specs.Name.{is_name, lowered}
use Rattle.hw_types.specs.declared.ty.Ty.{Ty}
use Rattle.hw_types.specs.declared.scalar.Scalar.{Scalar}
use Rattle.hw_types.specs.declared.scalar.Scalar.TheVariants as scalar
use Rattle.hw_types.specs.CWords.{is_c_word}
use Rattle.hw_types.specs.Extent.{IsLayoutOf}
use Rattle.arch_model.specs.declared.form.Form.{Form}
use Rattle.arch_model.specs.declared.form.Form.TheVariants as form
use Rattle.arch_model.specs.declared.type_row.TypeRow.{TypeRow}
use Rattle.arch_model.specs.BaseTypes.{base_rows, event_type}
use Rattle.arch_model.specs.Types.{StandForTypes, IsTypeAt}

-- a name in lower case
pub record IsLowerName (word : List ℕ) : Type 0 where
  pub name : is_name word ≡ true
  pub lower : lowered word ≡ word

-- the name of an implementation: that of its type, a point, and its own
pub record IsImplementationName (name : List ℕ) : Type 0 where
  pub type : List ℕ
  pub own : List ℕ
  pub whole : name ≡ type ++ 46 ∷ own
  pub type_name : IsLowerName type
  pub own_name : IsLowerName own

-- the name of a declared type or implementation
abbrev pub IsTypeName : List ℕ → Type 0
IsTypeName name = IsLowerName name ⊎ IsImplementationName name

-- how many names an enum's values have; other scalars have none
abbrev pub choices_of : Scalar → ℕ
choices_of scalar.U8 = 0
choices_of scalar.U16 = 0
choices_of scalar.U32 = 0
choices_of scalar.U64 = 0
choices_of scalar.I8 = 0
choices_of scalar.I16 = 0
choices_of scalar.I32 = 0
choices_of scalar.I64 = 0
choices_of scalar.Flag = 0
choices_of (scalar.Choice count) = count

-- an enum has as many words as values, and at least one
pub record AreChoices (kind : Scalar) (words : List (List ℕ)) (parts : List ℕ) : Type 0 where
  pub some : kind ≢ scalar.Choice 0
  pub each : length words ≡ choices_of kind
  pub no_parts : parts ≡ []

-- a struct has at least one field, and one word and one part for each; no word is one of C
pub record AreFields (words : List (List ℕ)) (parts : List ℕ) : Type 0 where
  pub some : 0 < length words
  pub each : length parts ≡ length words
  pub free : All (λ word. is_c_word word ≡ false) words

-- an array has at least one element, one part and no words
pub record AreElements (times : ℕ) (words : List (List ℕ)) (parts : List ℕ) : Type 0 where
  pub some : 0 < times
  pub no_words : words ≡ []
  pub one_part : length parts ≡ 1

pub record AreNone (words : List (List ℕ)) (parts : List ℕ) : Type 0 where
  pub no_words : words ≡ []
  pub no_parts : parts ≡ []

-- the words and parts that a type of this form has
abbrev pub Fit : Form → List (List ℕ) → List ℕ → Type 0
Fit (form.One scalar) words parts = AreChoices scalar words parts
Fit form.Fields words parts = AreFields words parts
Fit (form.Times times) words parts = AreElements times words parts
Fit form.Nothing words parts = AreNone words parts

-- the words of a row are names in lower case that differ
pub record HasWords (row : TypeRow) : Type 0 where
  pub names : All IsLowerName row.words
  pub differ : AllPairs (λ word other. word ≢ other) row.words
  pub fit : Fit row.form row.words row.parts

-- the parts of a row are rows, but not what events carry
abbrev pub HasParts : List TypeRow → TypeRow → Type 0
HasParts rows row = All (λ part. (part < length rows) × (part ≢ event_type)) row.parts

-- two rows are one type in C: the one has its own name, and they have one form, and the same words and parts
pub record AreOne (row same : TypeRow) : Type 0 where
  pub own : same.same ≡ row.same
  pub form : same.form ≡ row.form
  pub words : same.words ≡ row.words
  pub parts : same.parts ≡ row.parts

abbrev pub HasSame : List TypeRow → TypeRow → Type 0
HasSame rows row = IsSomeAnd (slice_get rows row.same) (AreOne row)

-- a scalar that is no enum
abbrev pub IsPlain : Form → Type 0
IsPlain (form.One scalar) = choices_of scalar ≡ 0
IsPlain form.Fields = ⊥
IsPlain (form.Times times) = ⊥
IsPlain form.Nothing = ⊥

-- the rows that the text declares
abbrev pub declared_rows : List TypeRow → List TypeRow
declared_rows rows = drop 10 rows

-- the types of an architecture
pub record IsTypeTable (rows : List TypeRow) : Type 0 where
  pub base : take 10 rows ≡ base_rows
  pub types : StandForTypes rows
  pub layouts : (place : ℕ) (row : TypeRow) (type : Ty) → slice_get rows place ≡ Some row → IsTypeAt rows place type → IsLayoutOf type row.layout
  pub names : All (λ row. IsTypeName row.name) (declared_rows rows)
  pub names_differ : AllPairs (λ row other. row.name ≢ other.name) (declared_rows rows)
  pub values : All (λ row. row.form ≢ form.Nothing) (declared_rows rows)
  pub words : All HasWords rows
  pub parts : All (HasParts rows) rows
  pub same : All (HasSame rows) rows
  pub aliases : (place : ℕ) (row : TypeRow) → 10 ≤ place → slice_get rows place ≡ Some row → IsPlain row.form → row.same ≢ place
