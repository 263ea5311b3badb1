-- The types that rows stand for.
use Rattle.std.proofs.Common.{◌≡◌, ℕ, zero, suc, List, [], ◌∷◌, Some, subst}
use Rattle.std.specs.List.{slice_get}
use Rattle.hw_types.specs.declared.ty.Ty.{Ty}
use Rattle.arch_model.specs.declared.type_row.TypeRow.{TypeRow}
use Rattle.arch_model.specs.Types.{StandsFor, StandForEach}

-- the row at a place stands for the type at that place
pub stands-at : (types : List Ty) (rows : List TypeRow) (others : List Ty) (place : ℕ) (row : TypeRow) (type : Ty) →
    StandForEach types rows others → slice_get rows place ≡ Some row → slice_get others place ≡ Some type → StandsFor types row type
stands-at types [] [] place row type all here typed = absurd (cc)
stands-at types [] (t ∷ others) place row type all here typed = elim all [ ]
stands-at types (r ∷ rows) [] place row type all here typed = elim all [ ]
stands-at types (r ∷ rows) (t ∷ others) zero row type all here typed =
    let is : r ≡ row = cc in
    let was : t ≡ type = cc in
    subst (λ x. StandsFor types x type) is (subst (λ x. StandsFor types r x) was all.0)
stands-at types (r ∷ rows) (t ∷ others) (suc place) row type all here typed =
    stands-at types rows others place row type all.1 here typed
