-- The types that every model has: the base types (SAE AS5506, base types), and what events carry.
use Rattle.std.specs.Prelude.{ℕ, ◌+◌, List, [], ◌∷◌, ◌++◌}
use Rattle.hw_text.specs.declared.base_type.BaseType.{BaseType}
use Rattle.hw_text.specs.declared.base_type.BaseType.TheVariants.{Boolean, Integer8, Integer16, Integer32, Integer64, Unsigned8, Unsigned16, Unsigned32, Unsigned64}
use Rattle.hw_text.specs.BaseTypes.{base_name, all_bases}
use Rattle.hw_types.specs.declared.scalar.Scalar.{Scalar}
use Rattle.hw_types.specs.declared.scalar.Scalar.TheVariants as scalar
use Rattle.hw_types.specs.Layout.{scalar_shape, empty_shape}
use Rattle.arch_model.specs.declared.form.Form.TheVariants as form
use Rattle.arch_model.specs.declared.type_row.TypeRow.{TypeRow}

-- the scalar that a base type is
abbrev pub scalar_of : BaseType → Scalar
scalar_of Boolean = scalar.Flag
scalar_of Integer8 = scalar.I8
scalar_of Integer16 = scalar.I16
scalar_of Integer32 = scalar.I32
scalar_of Integer64 = scalar.I64
scalar_of Unsigned8 = scalar.U8
scalar_of Unsigned16 = scalar.U16
scalar_of Unsigned32 = scalar.U32
scalar_of Unsigned64 = scalar.U64

-- the row of a base type, whose name in C is its own
abbrev pub base_row : ℕ → BaseType → TypeRow
base_row place base = record {
  name = base_name base;
  form = form.One (scalar_of base);
  layout = scalar_shape (scalar_of base);
  words = [];
  parts = [];
  same = place;
}

-- the rows of these types, the first of them at this place
abbrev pub rows_from : ℕ → List BaseType → List TypeRow
rows_from place [] = []
rows_from place (base ∷ bases) = base_row place base ∷ rows_from (place + 1) bases

-- the place of what events carry
abbrev pub event_type : ℕ
event_type = 9

abbrev pub nothing_row : TypeRow
nothing_row = record { name = []; form = form.Nothing; layout = empty_shape 1; words = []; parts = []; same = event_type }

-- the rows with which the types of every architecture begin
unfoldable pub base_rows : List TypeRow
base_rows = rows_from 0 all_bases ++ nothing_row ∷ []
