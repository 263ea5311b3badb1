-- The types that the rows of an architecture stand for (this project's own).
use Rattle.std.specs.Prelude.{◌≡◌, ℕ, ◌<◌, List, [], ◌∷◌, length, Option, Some, None, slice_get, All}
use Rattle.hw_types.specs.declared.ty.Ty.{Ty}
use Rattle.hw_types.specs.declared.ty.Ty.TheVariants.{One, Fields, Times, Nothing}
use Rattle.arch_model.specs.declared.form.Form.{Form}
use Rattle.arch_model.specs.declared.form.Form.TheVariants as form
use Rattle.arch_model.specs.declared.type_row.TypeRow.{TypeRow}

-- the type that has this form and these parts
abbrev pub made_of : Form → List Ty → Option Ty
made_of (form.One scalar) [] = Some (One scalar)
made_of (form.One scalar) (part ∷ parts) = None
made_of form.Fields parts = Some (Fields parts)
made_of (form.Times times) [] = None
made_of (form.Times times) (part ∷ []) = Some (Times part times)
made_of (form.Times times) (part ∷ other ∷ parts) = None
made_of form.Nothing [] = Some Nothing
made_of form.Nothing (part ∷ parts) = None

-- at each of these places stands the type beside it
abbrev pub StandAt : List Ty → List ℕ → List Ty → Type 0
StandAt types [] [] = Unit {0}
StandAt types [] (part ∷ parts) = ⊥
StandAt types (place ∷ places) [] = ⊥
StandAt types (place ∷ places) (part ∷ parts) = (slice_get types place ≡ Some part) × StandAt types places parts

-- a row stands for a type: it has the type's form, and its parts stand for the type's parts
pub record StandsFor (types : List Ty) (row : TypeRow) (type : Ty) : Type 0 where
  pub parts : List Ty
  pub placed : StandAt types row.parts parts
  pub made : made_of row.form parts ≡ Some type

-- each row stands for the type beside it, all rows being of these types
abbrev pub StandForEach : List Ty → List TypeRow → List Ty → Type 0
StandForEach types [] [] = Unit {0}
StandForEach types [] (other ∷ others) = ⊥
StandForEach types (row ∷ rows) [] = ⊥
StandForEach types (row ∷ rows) (other ∷ others) = StandsFor types row other × StandForEach types rows others

-- these are the types for which the rows stand
abbrev pub AreTypesOf : List TypeRow → List Ty → Type 0
AreTypesOf rows types = StandForEach types rows types

-- no row contains itself: each stands for a type
abbrev pub StandForTypes : List TypeRow → Type 0
StandForTypes rows = (types : List Ty) × AreTypesOf rows types

-- each row refers to rows of a lower rank alone, so that none contains itself
abbrev pub IsRanked : (ℕ → ℕ) → List TypeRow → Type 0
IsRanked rank rows = (place : ℕ) (row : TypeRow) → slice_get rows place ≡ Some row
    → All (λ part. (part < length rows) × (rank part < rank place)) row.parts

-- the type of the row at a place
pub record IsTypeAt (rows : List TypeRow) (place : ℕ) (type : Ty) : Type 0 where
  pub types : List Ty
  pub all : AreTypesOf rows types
  pub here : slice_get types place ≡ Some type
