-- What is known of parts and shapes.
use Rattle.std.proofs.Common.{◌≡◌, ℕ, zero, ◌+◌, ◌<◌, List, [], ◌∷◌, ◌++◌, length, take, get_or, Some, None, refl, sym, ap, subst, ◌∙◌, Bool, if◌then◌else◌}
use Rattle.std.specs.Option.{option_map}
use Rattle.std.proofs.lemmas.Bool.{lt-ltb}
use Rattle.std.proofs.lemmas.List.{take_more}
use Rattle.hw_text.specs.declared.base_type.BaseType.{BaseType}
use Rattle.hw_types.specs.declared.extent.Extent.{Extent}
use Rattle.hw_types.specs.declared.members.Members.{Members}
use Rattle.hw_types.specs.declared.scalar.Scalar.{Scalar}
use Rattle.hw_types.specs.declared.scalar.Scalar.TheVariants as scalar
use Rattle.hw_types.specs.declared.ty.Ty.{Ty}
use Rattle.hw_types.specs.declared.ty.Ty.TheVariants.{One, Times}
use Rattle.hw_types.specs.Extent.{IsExtentOf, AreMembers}
use Rattle.aadl_names.specs.declared.class_row.ClassRow.{ClassRow}
use Rattle.aadl_types.specs.declared.shape.Part.{Part}
use Rattle.aadl_types.specs.declared.shape.Part.TheVariants as part
use Rattle.aadl_types.specs.declared.shape.Shape.{Shape}
use Rattle.aadl_types.specs.declared.shape.Shape.TheVariants as shape
use Rattle.aadl_types.specs.declared.shapes.Shapes.{Shapes}
use Rattle.aadl_types.specs.Extents.{Known, extent_at}
use Rattle.aadl_types.specs.Settling.{IsPartExtent, IsShapeExtent, IsRight, ArePartTypes}
use Rattle.aadl_types.specs.Types.{scalar_of}
use Rattle.aadl_types.proofs.Within.{parts_push}

pub base_extent : (shapes : Shapes) (p : Part) (base : BaseType) (s : Scalar) (extent : Extent) → p ≡ part.Base base → s ≡ scalar_of base →
    IsExtentOf (One s) extent → IsPartExtent shapes p extent
base_extent shapes p base s extent is same known =
    subst (λ (q : Part). IsPartExtent shapes q extent) (sym is)
    (record { type = One (scalar_of base); stands = (zero, refl); known = subst (λ (t : Scalar). IsExtentOf (One t) extent) same known })

pub row_extent : (shapes : Shapes) (known : Known) (p : Part) (class : ClassRow) (found extent : Extent) → IsRight shapes known → p ≡ part.Row class →
    extent_at known class ≡ Some found → extent ≡ found → IsPartExtent shapes p extent
row_extent shapes known p class found extent right is here same =
    let k = right.sound class found here in
    subst (λ (q : Part). IsPartExtent shapes q extent) (sym is)
    (record { type = k.type; stands = k.stands; known = subst (IsExtentOf k.type) (sym same) k.known })

pub enum_extent : (shapes : Shapes) (s : Shape) (names rows : List (List ℕ)) (extent : Extent) → s ≡ shape.Enum names → rows ≡ names → length rows < 4294967296 →
    IsExtentOf (One (scalar.Choice (length rows))) extent → IsShapeExtent shapes s extent
enum_extent shapes s names rows extent is same few known =
    subst (λ (q : Shape). IsShapeExtent shapes q extent) (sym (is ∙ ap shape.Enum (sym same)))
    (record { type = One (scalar.Choice (length rows)); stands = (zero, ap (λ (b : Bool). if b then Some (One (scalar.Choice (length rows))) else None) (lt-ltb (length rows) 4294967296 few)); known = known })

pub array_extent : (shapes : Shapes) (s : Shape) (element : Part) (times : ℕ) (one extent : Extent) → s ≡ shape.Array element times → IsPartExtent shapes element one →
    ((type : Ty) → IsExtentOf type one → IsExtentOf (Times type times) extent) → IsShapeExtent shapes s extent
array_extent shapes s element times one extent is p made =
    subst (λ (q : Shape). IsShapeExtent shapes q extent) (sym is)
    (record { type = Times p.type times; stands = (p.stands.0, ap (option_map (λ (t : Ty). Times t times)) p.stands.1); known = made p.type p.known })

pub members_push : (shapes : Shapes) (ps : List Part) (i : ℕ) (d : Part) (old new : Members) (one : Extent) → i < length ps →
    ((types : List Ty) × ArePartTypes shapes (take i ps) types × AreMembers types old) → IsPartExtent shapes (get_or ps i d) one →
    ((types : List Ty) (type : Ty) → AreMembers types old → IsExtentOf type one → AreMembers (types ++ type ∷ []) new) →
    (types : List Ty) × ArePartTypes shapes (take (i + 1) ps) types × AreMembers types new
members_push shapes ps i d old new one inside before part with = (
  before.0 ++ part.type ∷ [],
  subst (λ (qs : List Part). ArePartTypes shapes qs (before.0 ++ part.type ∷ [])) (sym (take_more ps i d inside))
      (parts_push shapes (take i ps) before.0 (get_or ps i d) part.type before.1 part.stands),
  with before.0 part.type before.2 part.known,
)
