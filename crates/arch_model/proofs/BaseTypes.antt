-- The base types are a table of types.
use Rattle.std.proofs.Common.{◌≡◌, ◌≢◌, ◌+◌, ℕ, List, [], ◌∷◌, ◌++◌, map, Some, length, take, get_or, All, refl, sym, subst, arith}
use Rattle.std.proofs.lemmas.List.Elements.{All-nil, All-cons}
use Rattle.std.proofs.lemmas.Option.{slice_get_within, get_or_from_slice_get}
use Rattle.hw_types.specs.declared.ty.Ty.{Ty}
use Rattle.hw_types.specs.declared.ty.Ty.TheVariants.{One, Nothing}
use Rattle.hw_text.specs.declared.base_type.BaseType.{BaseType}
use Rattle.hw_text.specs.declared.base_type.BaseType.TheVariants.{Boolean, Integer8, Integer16, Integer32, Integer64, Unsigned8, Unsigned16, Unsigned32, Unsigned64}
use Rattle.hw_text.specs.BaseTypes.{all_bases}
use Rattle.hw_types.specs.declared.scalar.Scalar.TheVariants as scalar
use Rattle.hw_types.specs.Extent.{IsLayoutOf}
use Rattle.hw_types.proofs.Types.{scalar_count-One, scalar_count-Nothing, shape_of-One, shape_of-Nothing}
use Rattle.arch_model.specs.declared.form.Form.TheVariants as form
use Rattle.arch_model.specs.declared.type_row.TypeRow.{TypeRow}
use Rattle.arch_model.specs.BaseTypes.{base_rows, base_row, nothing_row, rows_from, scalar_of}
use Rattle.arch_model.specs.Types.{made_of, StandAt, StandsFor, StandForEach, StandForTypes}
use Rattle.arch_model.specs.TypeTable.{IsTypeTable, IsLowerName, HasWords, HasParts, HasSame, AreOne, choices_of, declared_rows, IsTypeName}
use Rattle.arch_model.proofs.Types.{stands-at}

-- a row of a base type, or that of no value
pub data IsBase : TypeRow → Type 0 where
  Base : (place : ℕ) (base : BaseType) → IsBase (base_row place base)
  Empty : IsBase nothing_row

-- a fact of each member, one after another
abbrev Each : (TypeRow → Type 0) → List TypeRow → Type 0
Each P [] = Unit {0}
Each P (row ∷ rows) = P row × Each P rows

each-all : (P : TypeRow → Type 0) (rows : List TypeRow) → Each P rows → All P rows
each-all P [] each = All-nil P
each-all P (row ∷ rows) each = All-cons P row rows each.0 (each-all P rows each.1)

bases-each : (place : ℕ) (bases : List BaseType) → Each IsBase (rows_from place bases ++ nothing_row ∷ [])
bases-each place [] = (Empty, tt)
bases-each place (base ∷ bases) = (Base place base, bases-each (place + 1) bases)

bases : All IsBase base_rows
unfolding base_rows
bases = each-all IsBase (rows_from 0 all_bases ++ nothing_row ∷ []) (bases-each 0 all_bases)

types-each : (types : List Ty) (place : ℕ) (bases : List BaseType) →
    StandForEach types (rows_from place bases ++ nothing_row ∷ []) (map (λ base. One (scalar_of base)) bases ++ Nothing ∷ [])
types-each types place [] = (record { parts = []; placed = tt; made = refl }, tt)
types-each types place (base ∷ bases) = (record { parts = []; placed = tt; made = refl }, types-each types (place + 1) bases)

stands : StandForTypes base_rows
unfolding base_rows
stands =
    let types : List Ty = map (λ base. One (scalar_of base)) all_bases ++ Nothing ∷ [] in
    (types, types-each types 0 all_bases)

plain : (base : BaseType) → (scalar_of base ≢ scalar.Choice 0) × (choices_of (scalar_of base) ≡ 0)
plain Boolean = (λ e. absurd (cc), refl)
plain Integer8 = (λ e. absurd (cc), refl)
plain Integer16 = (λ e. absurd (cc), refl)
plain Integer32 = (λ e. absurd (cc), refl)
plain Integer64 = (λ e. absurd (cc), refl)
plain Unsigned8 = (λ e. absurd (cc), refl)
plain Unsigned16 = (λ e. absurd (cc), refl)
plain Unsigned32 = (λ e. absurd (cc), refl)
plain Unsigned64 = (λ e. absurd (cc), refl)

no-parts : (types parts : List Ty) → StandAt types [] parts → parts ≡ []
no-parts types [] at = refl
no-parts types (part ∷ parts) at = elim at [ ]

base-layout : {row : TypeRow} → IsBase row → (types : List Ty) (type : Ty) → StandsFor types row type → IsLayoutOf type row.layout
base-layout (Base place base) types type is =
    let none = no-parts types is.parts is.placed in
    let made : made_of (form.One (scalar_of base)) [] ≡ Some type = subst (λ parts. made_of (form.One (scalar_of base)) parts ≡ Some type) none is.made in
    let same : One (scalar_of base) ≡ type = cc in
    subst (λ t. IsLayoutOf t (base_row place base).layout) same
    (record { few = rw (scalar_count-One (scalar_of base)) (omega arith); laid = sym (shape_of-One (scalar_of base)) })
base-layout Empty types type is =
    let none = no-parts types is.parts is.placed in
    let made : made_of form.Nothing [] ≡ Some type = subst (λ parts. made_of form.Nothing parts ≡ Some type) none is.made in
    let same : Nothing ≡ type = cc in
    subst (λ t. IsLayoutOf t nothing_row.layout) same
    (record { few = rw scalar_count-Nothing (omega arith); laid = sym shape_of-Nothing })

base-words : {row : TypeRow} → IsBase row → HasWords row
base-words (Base place base) = record {
  names = All-nil IsLowerName;
  differ = λ i j d below inside. absurd (omega (arith, inside));
  fit = record { some = (plain base).0; each = sym (plain base).1; no_parts = refl };
}
base-words Empty = record {
  names = All-nil IsLowerName;
  differ = λ i j d below inside. absurd (omega (arith, inside));
  fit = record { no_words = refl; no_parts = refl };
}

base-parts : {row : TypeRow} → IsBase row → HasParts base_rows row
base-parts (Base place base) = λ k d h. absurd (omega (arith, h))
base-parts Empty = λ k d h. absurd (omega (arith, h))

own : (row : TypeRow) → AreOne row row
own row = record { own = refl; form = refl; words = refl; parts = refl }

same-each : Each (HasSame base_rows) base_rows
unfolding base_rows
same-each = (own _, (own _, (own _, (own _, (own _, (own _, (own _, (own _, (own _, (own _, tt))))))))))

pub ten : length base_rows ≡ 10
unfolding base_rows
ten = refl

pub none-declared : declared_rows base_rows ≡ []
unfolding base_rows
none-declared = refl

pub all-base : take 10 base_rows ≡ base_rows
unfolding base_rows
all-base = refl

base-all : (P : TypeRow → Type 0) (rows : List TypeRow) → All IsBase rows → ((row : TypeRow) → IsBase row → P row) → All P rows
base-all P rows are each = λ k d h. each (get_or rows k d) (are k d h)

-- the base types alone are a table of types
pub base-table : IsTypeTable base_rows
base-table = record {
  base = all-base;
  types = stands;
  layouts = λ place row type here is.
      base-layout (subst IsBase (get_or_from_slice_get base_rows place row row here) (bases place row (slice_get_within base_rows place row here)))
      is.types type
      (stands-at is.types base_rows is.types place row type is.all here is.here);
  names = rw none-declared (All-nil (λ (row : TypeRow). IsTypeName row.name));
  names_differ = rw none-declared (λ i j d below inside. absurd (omega (arith, inside)));
  values = rw none-declared (All-nil (λ (row : TypeRow). row.form ≢ form.Nothing));
  words = base-all HasWords base_rows bases (λ row is. base-words is);
  parts = base-all (HasParts base_rows) base_rows bases (λ row is. base-parts is);
  same = each-all (HasSame base_rows) base_rows same-each;
  aliases = λ place row above here plain. absurd (omega (arith, ten, slice_get_within base_rows place row here));
}
