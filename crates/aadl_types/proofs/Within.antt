-- Types of rows by fuel: more fuel gives no other type, and a row that is made of rows with types has one.
use Rattle.std.proofs.Common.{◌≡◌, ℕ, zero, suc, ◌+◌, ◌≤◌, List, [], ◌∷◌, ◌++◌, Option, Some, None, refl, sym, ap, ◌∙◌, arith}
use Rattle.std.specs.Option.{option_map, option_and_then, unwrap_or}
use Rattle.hw_types.specs.declared.ty.Ty.{Ty}
use Rattle.hw_types.specs.declared.ty.Ty.TheVariants.{Fields, Times}
use Rattle.aadl_names.specs.declared.class_row.ClassRow.{ClassRow}
use Rattle.aadl_types.specs.declared.shape.Part.{Part}
use Rattle.aadl_types.specs.declared.shape.Part.TheVariants as part
use Rattle.aadl_types.specs.declared.shape.Shape.{Shape}
use Rattle.aadl_types.specs.declared.shape.Shape.TheVariants as shape
use Rattle.aadl_types.specs.declared.shapes.Shapes.{Shapes}
use Rattle.aadl_types.specs.Types.{shape_at, part_type, part_types, made_type, type_within, IsTypeOf}
use Rattle.aadl_types.specs.Settling.{IsPartType, IsShapeType, ArePartTypes}

-- the one gives all types that the other gives
abbrev pub GivesAll : {X : Type 0} → (X → Option Ty) → (X → Option Ty) → Type 0
GivesAll {X} more less = (x : X) (type : Ty) → less x ≡ Some type → more x ≡ Some type

some_map : {X Y : Type 0} (f : X → Y) (less more : Option X) (y : Y) → ((x : X) → less ≡ Some x → more ≡ Some x) → option_map f less ≡ Some y → option_map f more ≡ Some y
some_map f None more y gives is = absurd (cc)
some_map f (Some x) more y gives is = ap (option_map f) (gives x refl) ∙ is

some_next : {X Y : Type 0} (f g : X → Option Y) (less more : Option X) (y : Y) → ((x : X) → less ≡ Some x → more ≡ Some x) →
    ((x : X) → f x ≡ Some y → g x ≡ Some y) → option_and_then f less ≡ Some y → option_and_then g more ≡ Some y
some_next f g None more y gives next is = absurd (cc)
some_next f g (Some x) more y gives next is = ap (option_and_then g) (gives x refl) ∙ next x is

pub part_more : (more less : ClassRow → Option Ty) → GivesAll more less → GivesAll (part_type more) (part_type less)
part_more more less gives (part.Base base) type is = is
part_more more less gives (part.Row class) type is = gives class type is

pub parts_more : (more less : ClassRow → Option Ty) → GivesAll more less → (ps : List Part) (types : List Ty) → part_types less ps ≡ Some types → part_types more ps ≡ Some types
parts_more more less gives [] types is = is
parts_more more less gives (p ∷ ps) types is =
    some_next (λ type. option_map (λ types. type ∷ types) (part_types less ps)) (λ type. option_map (λ types. type ∷ types) (part_types more ps))
    (part_type less p) (part_type more p) types (part_more more less gives p)
    (λ type. some_map (λ types. type ∷ types) (part_types less ps) (part_types more ps) types (parts_more more less gives ps)) is

pub made_more : (more less : ClassRow → Option Ty) → GivesAll more less → GivesAll (made_type more) (made_type less)
made_more more less gives (shape.Enum names) type is = is
made_more more less gives (shape.Array element times) type is =
    some_map (λ type. Times type times) (part_type less element) (part_type more element) type (part_more more less gives element) is
made_more more less gives (shape.Alias base) type is = part_more more less gives base type is
made_more more less gives (shape.Struct members) type is =
    some_map Fields (part_types less members) (part_types more members) type (parts_more more less gives members) is

pub within_more : (shapes : Shapes) (n m : ℕ) → n ≤ m → GivesAll (type_within m shapes) (type_within n shapes)
within_more shapes zero m below class type is = absurd (cc)
within_more shapes (suc n) zero below class type is = absurd (omega arith)
within_more shapes (suc n) (suc m) below class type is =
    some_next (made_type (type_within n shapes)) (made_type (type_within m shapes)) (shape_at shapes class) (shape_at shapes class) type (λ s same. same)
    (λ s. made_more (type_within m shapes) (type_within n shapes) (within_more shapes n m (omega arith)) s type) is

pub row_type : (shapes : Shapes) (class : ClassRow) (s : Shape) (type : Ty) → shape_at shapes class ≡ Some s → IsShapeType shapes s type → IsTypeOf shapes class type
row_type shapes class s type is made = (suc made.0, ap (option_and_then (made_type (type_within made.0 shapes))) is ∙ made.1)

map_some : {X Y : Type 0} (f : X → Y) (o : Option X) (y : Y) → option_map f o ≡ Some y → (x : X) × (o ≡ Some x) × (f x ≡ y)
map_some {X} {Y} f None y is = absurd (cc)
map_some {X} {Y} f (Some x) y is = (x, refl, ap (λ (o : Option Y). unwrap_or o y) is)

next_some : {X Y : Type 0} (f : X → Option Y) (o : Option X) (y : Y) → option_and_then f o ≡ Some y → (x : X) × (o ≡ Some x) × (f x ≡ Some y)
next_some f None y is = absurd (cc)
next_some f (Some x) y is = (x, refl, is)

parts_pushed : (of : ClassRow → Option Ty) (ps : List Part) (types : List Ty) (p : Part) (type : Ty) → part_types of ps ≡ Some types → part_type of p ≡ Some type →
    part_types of (ps ++ p ∷ []) ≡ Some (types ++ type ∷ [])
parts_pushed of [] types p type are is =
    let none : [] ≡ types = ap (λ (o : Option (List Ty)). unwrap_or o types) are in
    ap (λ (o : Option Ty). option_and_then (λ (t : Ty). option_map (λ (ts : List Ty). t ∷ ts) (Some [])) o) is
    ∙ ap (λ (ts : List Ty). Some (ts ++ type ∷ [])) none
parts_pushed of (q ∷ ps) types p type are is =
    let first = next_some (λ (t : Ty). option_map (λ (ts : List Ty). t ∷ ts) (part_types of ps)) (part_type of q) types are in
    let rest = map_some (λ (ts : List Ty). first.0 ∷ ts) (part_types of ps) types first.2 in
    ap (λ (o : Option Ty). option_and_then (λ (t : Ty). option_map (λ (ts : List Ty). t ∷ ts) (part_types of (ps ++ p ∷ []))) o) first.1
    ∙ (ap (λ (o : Option (List Ty)). option_map (λ (ts : List Ty). first.0 ∷ ts) o) (parts_pushed of ps rest.0 p type rest.1 is)
    ∙ ap (λ (ts : List Ty). Some (ts ++ type ∷ [])) rest.2)

pub parts_push : (shapes : Shapes) (ps : List Part) (types : List Ty) (p : Part) (type : Ty) → ArePartTypes shapes ps types → IsPartType shapes p type →
    ArePartTypes shapes (ps ++ p ∷ []) (types ++ type ∷ [])
parts_push shapes ps types p type are is =
    let most = are.0 + is.0 in (
      most,
      parts_pushed (type_within most shapes) ps types p type
          (parts_more (type_within most shapes) (type_within are.0 shapes) (within_more shapes are.0 most (omega arith)) ps types are.1)
          (part_more (type_within most shapes) (type_within is.0 shapes) (within_more shapes is.0 most (omega arith)) p type is.1),
    )

-- a row stands for one type
pub one_type : (shapes : Shapes) (class : ClassRow) (a b : Ty) → IsTypeOf shapes class a → IsTypeOf shapes class b → a ≡ b
one_type shapes class a b is also =
    let most = is.0 + also.0 in
    let one = within_more shapes is.0 most (omega arith) class a is.1 in
    let other = within_more shapes also.0 most (omega arith) class b also.1 in
    ap (λ (o : Option Ty). unwrap_or o a) (sym one ∙ other)
