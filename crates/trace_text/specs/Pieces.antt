-- How values are written (this project's own; docs/formats/trace.md): a struct as `{V, V}`, an array as `(V, V)`, a scalar as a number, a
-- truth value or an enumerator, and what has no value as `*`.
use Rattle.std.specs.Prelude.{◌≡◌, ℕ, ℤ, pos, negsuc, zero, suc, List, [], ◌∷◌, ◌++◌, map, length, codes, Some, slice_get, IsSomeAnd}
use Rattle.std.specs.Fmt.{signed_decimal}
use Rattle.std.specs.List.{flat_map}
use Rattle.std.specs.Option.{option_map_or}
use Rattle.hw_types.specs.declared.scalar.Scalar.{Scalar}
use Rattle.hw_types.specs.declared.scalar.Scalar.TheVariants as scalar
use Rattle.hw_types.specs.Value.{IsScalarValue}
use Rattle.arch_model.specs.declared.form.Form.{Form}
use Rattle.arch_model.specs.declared.form.Form.TheVariants as form
use Rattle.arch_model.specs.declared.type_row.TypeRow.{TypeRow}
use Rattle.trace_text.specs.declared.piece.Piece.{Piece}
use Rattle.trace_text.specs.declared.piece.Piece.TheVariants as piece

-- each of these behind what separates it from the one before
abbrev pub further : {X : Type 0} → List X → List (List X) → List X
further comma parts = flat_map (λ part. comma ++ part) parts

-- these, with what separates them
abbrev pub separated : {X : Type 0} → List X → List (List X) → List X
separated comma [] = []
separated comma (part ∷ parts) = part ++ further comma parts

-- a comma and a space, as bytes and as pieces
abbrev pub comma : List ℕ
comma = 44 ∷ 32 ∷ []

abbrev pub comma_pieces : List Piece
comma_pieces = piece.Byte 44 ∷ piece.Byte 32 ∷ []

-- so many times the same
abbrev pub repeated : {X : Type 0} → ℕ → X → List X
repeated zero x = []
repeated (suc n) x = x ∷ repeated n x

-- the places of the types of a value's members
abbrev pub members : Form → List ℕ → List ℕ
members (form.One kind) parts = []
members form.Fields parts = parts
members (form.Times times) [] = []
members (form.Times times) (part ∷ parts) = repeated times part
members form.Nothing parts = []

-- the pieces of a type at a place whose members have these
abbrev pub pieces_with : Form → ℕ → List (List Piece) → List Piece
pieces_with (form.One kind) place inner = piece.Scalar place ∷ []
pieces_with form.Fields place inner = piece.Byte 123 ∷ (separated comma_pieces inner ++ piece.Byte 125 ∷ [])
pieces_with (form.Times times) place inner = piece.Byte 40 ∷ (separated comma_pieces inner ++ piece.Byte 41 ∷ [])
pieces_with form.Nothing place inner = piece.Byte 42 ∷ []

-- the pieces of the type at a place; where no type is, there is no value
abbrev pub pieces_at : List (List Piece) → ℕ → List Piece
pieces_at all place = option_map_or (λ pieces. pieces) (slice_get all place) (piece.Byte 42 ∷ [])

-- the pieces of the type that a row is, all types having these
abbrev pub pieces_of_row : List (List Piece) → ℕ → TypeRow → List Piece
pieces_of_row all place row = pieces_with row.form place (map (pieces_at all) (members row.form row.parts))

-- these are the pieces of the types: those of each are made of those of its members
pub record ArePiecesOf (types : List TypeRow) (all : List (List Piece)) : Type 0 where
  pub many : length all ≡ length types
  pub each : (place : ℕ) (row : TypeRow) → slice_get types place ≡ Some row → slice_get all place ≡ Some (pieces_of_row all place row)

abbrev pub flag_text : ℤ → List ℕ
flag_text (pos zero) = codes "false"
flag_text (pos (suc n)) = codes "true"
flag_text (negsuc n) = codes "true"

-- the word of this number
abbrev pub word_at : List (List ℕ) → ℤ → List ℕ
word_at words (pos n) = option_map_or (λ word. word) (slice_get words n) []
word_at words (negsuc n) = []

abbrev pub scalar_text : Scalar → List (List ℕ) → ℤ → List ℕ
scalar_text scalar.U8 words number = signed_decimal number
scalar_text scalar.U16 words number = signed_decimal number
scalar_text scalar.U32 words number = signed_decimal number
scalar_text scalar.U64 words number = signed_decimal number
scalar_text scalar.I8 words number = signed_decimal number
scalar_text scalar.I16 words number = signed_decimal number
scalar_text scalar.I32 words number = signed_decimal number
scalar_text scalar.I64 words number = signed_decimal number
scalar_text scalar.Flag words number = flag_text number
scalar_text (scalar.Choice count) words number = word_at words number

abbrev pub form_text : Form → List (List ℕ) → ℤ → List ℕ
form_text (form.One kind) words number = scalar_text kind words number
form_text form.Fields words number = []
form_text (form.Times times) words number = []
form_text form.Nothing words number = []

-- the text of a scalar's number
abbrev pub number_text : List TypeRow → ℕ → ℤ → List ℕ
number_text types place number = option_map_or (λ row. form_text row.form row.words number) (slice_get types place) []

-- the pieces with the numbers of a value in the places of its scalars
abbrev pub filled : List TypeRow → List Piece → List ℤ → List ℕ
filled types [] numbers = []
filled types (piece.Byte b ∷ pieces) numbers = b ∷ filled types pieces numbers
filled types (piece.Scalar place ∷ pieces) [] = filled types pieces []
filled types (piece.Scalar place ∷ pieces) (number ∷ numbers) = number_text types place number ++ filled types pieces numbers

abbrev pub IsOneOf : Form → ℤ → Type 0
IsOneOf (form.One kind) number = IsScalarValue kind number
IsOneOf form.Fields number = ⊥
IsOneOf (form.Times times) number = ⊥
IsOneOf form.Nothing number = ⊥

-- each scalar has a number that is one of its values
abbrev pub Fill : List TypeRow → List Piece → List ℤ → Type 0
Fill types [] [] = Unit {0}
Fill types [] (number ∷ numbers) = ⊥
Fill types (piece.Byte b ∷ pieces) numbers = Fill types pieces numbers
Fill types (piece.Scalar place ∷ pieces) [] = ⊥
Fill types (piece.Scalar place ∷ pieces) (number ∷ numbers) =
    IsSomeAnd (slice_get types place) (λ row. IsOneOf row.form number) × Fill types pieces numbers
