-- Members of a struct, one more at a time.
use Rattle.std.proofs.Common.{◌≡◌, ℕ, ◌+◌, ◌-◌, ◌*◌, ◌^◌, ◌≤◌, ◌<◌, min, max, List, [], ◌∷◌, ◌++◌, length, map, sum, ap, sym, refl, ◌∙◌, append_assoc, append-nil, arith}
use Rattle.std.proofs.Math.Nat.{max-eq_left, max-eq_right}
use Rattle.std.proofs.lemmas.List.{map-append}
use Rattle.hw_types.specs.declared.members.Members.{Members}
use Rattle.hw_types.specs.declared.extent.Extent.{Extent}
use Rattle.hw_types.specs.declared.extent.Extent.TheVariants as extent
use Rattle.hw_types.specs.declared.extent.Width.{Width}
use Rattle.hw_types.specs.declared.ty.Ty.{Ty}
use Rattle.hw_types.specs.declared.ty.Ty.TheVariants.{Fields}
use Rattle.hw_types.specs.Count.{scalar_count}
use Rattle.hw_types.specs.Extent.{AreMembers, IsLayoutOf, IsWidthOf, IsExtentOf, count_in, align_in}
use Rattle.hw_types.specs.Shape.{Shape, IsAlign, IsLaidOut}
use Rattle.hw_types.specs.Layout.{shape_of, shifted, begin_of, greatest_align, member_cells, members_end, aligned_up, struct_of}
use Rattle.hw_types.proofs.Shapes.{IsAlign-pos, shape_with}
use Rattle.hw_types.proofs.Types.{AreSound, sound, sum-cons, members_end-le, scalar_count-Fields, shape_of-Fields}
use Rattle.hw_types.proofs.Extents.{extent-count, extent-align, told-sum}

pub AreSound-all : (ts : List Ty) → AreSound ts
AreSound-all [] = tt
AreSound-all (t ∷ ts) = (sound t, AreSound-all ts)

pub sum-push : (ts : List Ty) (t : Ty) → sum (map scalar_count (ts ++ t ∷ [])) ≡ sum (map scalar_count ts) + scalar_count t
sum-push [] t = omega (arith, sum-cons (scalar_count t) [])
sum-push (u ∷ ts) t =
    omega (arith, sum-cons (scalar_count u) (map scalar_count (ts ++ t ∷ [])), sum-cons (scalar_count u) (map scalar_count ts), sum-push ts t)

pub cells-push : (end : ℕ) (ms : List Shape) (m : Shape) →
    member_cells end (ms ++ m ∷ []) ≡ member_cells end ms ++ shifted (begin_of (members_end end ms) m) m.scalars
cells-push end [] m = append-nil (shifted (begin_of end m) m.scalars)
cells-push end (n ∷ ms) m =
    ap (λ cells. shifted (begin_of end n) n.scalars ++ cells) (cells-push (begin_of end n + n.size) ms m)
    ∙ sym (append_assoc (shifted (begin_of end n) n.scalars) (member_cells (begin_of end n + n.size) ms)
    (shifted (begin_of (members_end (begin_of end n + n.size) ms) m) m.scalars))

pub end-push : (end : ℕ) (ms : List Shape) (m : Shape) →
    members_end end (ms ++ m ∷ []) ≡ begin_of (members_end end ms) m + m.size
end-push end [] m = refl
end-push end (n ∷ ms) m = end-push (begin_of end n + n.size) ms m

pub align-push : (ms : List Shape) (m : Shape) → 1 ≤ m.align → greatest_align (ms ++ m ∷ []) ≡ max (greatest_align ms) m.align
align-push [] m some = max-eq_left some ∙ sym (max-eq_right some)
align-push (n ∷ ms) m some = rw (align-push ms m some) (grind arith)

-- what a struct of at most 256 scalars has room for
pub end_room : (types : List Ty) (members : Members) → AreMembers types members → members.count ≤ 256 → members.end ≤ 2048
end_room types members are few =
    let total : sum (map scalar_count types) ≤ 256 = told-sum (sum (map scalar_count types)) members.count are.count few in
    let room : members_end 0 (map shape_of types) ≤ 8 * (0 + sum (map scalar_count types)) = members_end-le 0 0 types (AreSound-all types) (omega arith) in
    rw (are.end few) (omega (arith, room, total))

pub size_room : (type : Ty) (layout : Shape) → IsLayoutOf type layout → layout.size ≤ 2048
size_room type layout is = rw is.laid (omega (arith, (sound type).tight, is.few))

pub count-push : (types : List Ty) (type : Ty) (members : Members) (member : Extent) (count : ℕ) → AreMembers types members → IsExtentOf type member →
    count ≡ min (members.count + count_in member) (2 ^ 64 - 1) → count ≡ min (sum (map scalar_count (types ++ type ∷ []))) (2 ^ 64 - 1)
count-push types type members member count are is counted =
    let had = are.count in
    let has = extent-count type member is in
    let total = sum-push types type in
    rw (counted, total, had, has) (grind arith)

pub align-next : (types : List Ty) (type : Ty) (members : Members) (member : Extent) (align : ℕ) → AreMembers types members → IsExtentOf type member →
    align ≡ max members.align (align_in member) → align ≡ greatest_align (map shape_of (types ++ type ∷ []))
align-next types type members member align are is aligned =
    let one : 1 ≤ (shape_of type).align = IsAlign-pos (shape_of type).align (sound type).laid_out.power in
    let all : map shape_of (types ++ type ∷ []) ≡ map shape_of types ++ shape_of type ∷ [] = map-append shape_of types (type ∷ []) in
    rw (all, align-push (map shape_of types) (shape_of type) one, aligned, are.align, extent-align type member is) refl

-- a member behind the others
pub members-placed : (types : List Ty) (type : Ty) (members with : Members) (layout : Shape) → AreMembers types members → IsLayoutOf type layout →
    with.count ≡ min (members.count + length layout.scalars) (2 ^ 64 - 1) → with.align ≡ max members.align layout.align → with.count ≤ 256 →
    with.scalars ≡ members.scalars ++ shifted (begin_of members.end layout) layout.scalars →
    with.end ≡ begin_of members.end layout + layout.size → AreMembers (types ++ type ∷ []) with
members-placed types type members with layout are is counted aligned few cells end =
    let all : map shape_of (types ++ type ∷ []) ≡ map shape_of types ++ shape_of type ∷ [] = map-append shape_of types (type ∷ []) in
    let before : members.count ≤ 256 = grind arith in
    record {
      count = count-push types type members (extent.Laid layout) with.count are is counted;
      align = align-next types type members (extent.Laid layout) with.align are is aligned;
      scalars = λ h. rw (all, cells-push 0 (map shape_of types) (shape_of type), cells, are.scalars before, are.end before, is.laid) refl;
      end = λ h. rw (all, end-push 0 (map shape_of types) (shape_of type), end, are.end before, is.laid) refl;
    }

-- a member that makes too many scalars
pub members-wide : (types : List Ty) (type : Ty) (members with : Members) (member : Extent) → AreMembers types members → IsExtentOf type member →
    with.count ≡ min (members.count + count_in member) (2 ^ 64 - 1) → with.align ≡ max members.align (align_in member) → (with.count ≤ 256 → ⊥) →
    AreMembers (types ++ type ∷ []) with
members-wide types type members with member are is counted aligned many = record {
  count = count-push types type members member with.count are is counted;
  align = align-next types type members member with.align are is aligned;
  scalars = λ h. absurd (many h);
  end = λ h. absurd (many h);
}

-- the struct of all members
pub struct-laid : (types : List Ty) (members : Members) (layout : Shape) → AreMembers types members → members.count ≤ 256 →
    layout ≡ shape_with members.scalars (aligned_up members.end members.align) members.align → IsLayoutOf (Fields types) layout
struct-laid types members layout are few is =
    let total : sum (map scalar_count types) ≤ 256 = told-sum (sum (map scalar_count types)) members.count are.count few in
    let same : layout ≡ struct_of (map shape_of types) = rw (is, are.scalars few, are.end few, are.align) refl in
    record { few = rw (scalar_count-Fields types) total; laid = same ∙ sym (shape_of-Fields types) }

pub struct-power : (types : List Ty) (members : Members) → AreMembers types members → IsAlign members.align
struct-power types members are =
    let is : IsAlign (shape_of (Fields types)).align = (sound (Fields types)).laid_out.power in
    rw (are.align, ap (λ (m : Shape). m.align) (sym (shape_of-Fields types))) is

pub struct-laid_out : (types : List Ty) (members : Members) (layout : Shape) → AreMembers types members → members.count ≤ 256 →
    layout ≡ shape_with members.scalars (aligned_up members.end members.align) members.align → IsLaidOut layout
struct-laid_out types members layout are few is = rw (struct-laid types members layout are few is).laid (sound (Fields types)).laid_out

pub wide-many : (type : Ty) (width : Width) (had count : ℕ) → IsWidthOf type width → count ≡ min (had + width.count) (2 ^ 64 - 1) → count ≤ 256 → ⊥
wide-many type width had count is counted few =
    let many = is.many in
    let told = is.count in
    grind arith

pub struct-wide : (types : List Ty) (members : Members) (width : Width) → AreMembers types members → 256 < members.count →
    width.count ≡ members.count → width.align ≡ members.align → IsWidthOf (Fields types) width
struct-wide types members width are many counted aligned =
    let whole = scalar_count-Fields types in
    let had = are.count in
    record {
      many = rw whole (grind arith);
      count = rw (counted, had, whole) refl;
      align = rw (aligned, are.align, shape_of-Fields types) refl;
    }
