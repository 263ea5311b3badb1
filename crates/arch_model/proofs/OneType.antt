-- A row stands for one type.
use Rattle.std.proofs.Common.{◌≡◌, ℕ, zero, suc, List, [], ◌∷◌, Some, refl, sym, ap, subst, ◌∙◌}
use Rattle.std.specs.List.{slice_get}
use Rattle.hw_types.specs.declared.ty.Ty.{Ty}
use Rattle.arch_model.specs.declared.type_row.TypeRow.{TypeRow}
use Rattle.arch_model.specs.Types.{made_of, StandAt, StandForEach, IsTypeAt}
use Rattle.arch_model.proofs.Children.{children, children-made, Each, by-children}
use Rattle.arch_model.proofs.Types.{stands-at}

row-at : (types : List Ty) (rows : List TypeRow) (others : List Ty) (place : ℕ) (type : Ty) →
    StandForEach types rows others → slice_get others place ≡ Some type → (row : TypeRow) × (slice_get rows place ≡ Some row)
row-at types [] [] place type all here = absurd (cc)
row-at types [] (t ∷ others) place type all here = elim all [ ]
row-at types (r ∷ rows) [] place type all here = elim all [ ]
row-at types (r ∷ rows) (t ∷ others) zero type all here = (r, refl)
row-at types (r ∷ rows) (t ∷ others) (suc place) type all here = row-at types rows others place type all.1 here

-- of a type that stands at a place of the one list, the other list has it at that place
abbrev IsOne : List Ty → List Ty → Ty → Type 0
IsOne types others type = (place : ℕ) (other : Ty) → slice_get types place ≡ Some type → slice_get others place ≡ Some other → type ≡ other

parts-one : (types others : List Ty) (places : List ℕ) (parts counterparts : List Ty) →
    StandAt types places parts → StandAt others places counterparts → Each (IsOne types others) parts → parts ≡ counterparts
parts-one types others [] [] [] at also each = refl
parts-one types others [] [] (q ∷ qs) at also each = elim also [ ]
parts-one types others [] (p ∷ ps) qs at also each = elim at [ ]
parts-one types others (place ∷ places) [] qs at also each = elim at [ ]
parts-one types others (place ∷ places) (p ∷ ps) [] at also each = elim also [ ]
parts-one types others (place ∷ places) (p ∷ ps) (q ∷ qs) at also each =
    let first : p ≡ q = each.0 place q at.0 also.0 in
    ap (λ t. t ∷ ps) first ∙ ap (λ ts. q ∷ ts) (parts-one types others places ps qs at.1 also.1 each.1)

type-one : (rows : List TypeRow) (types others : List Ty) → StandForEach types rows types → StandForEach others rows others →
    (type : Ty) → Each (IsOne types others) (children type) → IsOne types others type
type-one rows types others all also type each = λ place other here there.
    let found = row-at types rows types place type all here in
    let stands = stands-at types rows types place found.0 type all found.1 here in
    let stands' = stands-at others rows others place found.0 other also found.1 there in
    let parts : stands.parts ≡ stands'.parts =
    parts-one types others found.0.parts stands.parts stands'.parts stands.placed stands'.placed
    (subst (Each (IsOne types others)) (children-made found.0.form stands.parts type stands.made) each) in
    let same : Some type ≡ Some other = sym stands.made ∙ ap (made_of found.0.form) parts ∙ stands'.made in
    cc

pub one-type : (rows : List TypeRow) (place : ℕ) (type other : Ty) → IsTypeAt rows place type → IsTypeAt rows place other → type ≡ other
one-type rows place type other is also =
    by-children (IsOne is.types also.types) (type-one rows is.types also.types is.all also.all) type place other is.here also.here
