-- What a grammar sees of tokens before it reads them: their shapes. A language is given by the shape of a token, and by the test that tells
-- whether two shapes are the same (this project's own).
use Rattle.std.specs.Prelude.{Bool, true, false, ◌&&◌, not, if◌then◌else◌, List, [], ◌∷◌, map, Option, Some, None}
use Rattle.std.specs.List.{list_any}
use Rattle.hw_text.specs.declared.place.Place.{Place}
use Rattle.hw_text.specs.declared.placed.Placed.{Placed}
use Rattle.hw_text.specs.Reading.{BeginsWithout}

-- no shape is in both lists
abbrev pub is_disjoint : {S : Type 0} → (S → S → Bool) → List S → List S → Bool
is_disjoint same xs [] = true
is_disjoint same xs (y ∷ ys) = not (list_any (same y) xs) && is_disjoint same xs ys

-- what the shape stands for in a list of shapes
abbrev pub listed_in : {S X : Type 0} → (S → S → Bool) → List (S × X) → S → Option X
listed_in same [] s = None
listed_in same (row ∷ rows) s = if same s row.0 then Some row.1 else listed_in same rows s

abbrev pub shapes_of : {S X : Type 0} → List (S × X) → List S
shapes_of rows = map (λ row. row.0) rows

abbrev pub beside : {X : Type 0} → Place → Option X → Option (Place × X)
beside at None = None
beside at (Some x) = Some (at, x)

abbrev pub at_if : Bool → Place → Option Place
at_if true at = Some at
at_if false at = None

-- whether the token has one of these shapes
abbrev pub one_of : {T S : Type 0} → (T → S) → (S → S → Bool) → List S → Placed T → Bool
one_of shape same shapes t = list_any (same (shape t.token)) shapes

-- what stands behind begins with no token of these shapes
abbrev pub Without : {T S : Type 0} → (T → S) → (S → S → Bool) → List S → List (Placed T) → Type 0
Without shape same shapes = BeginsWithout (one_of shape same shapes)

-- where the word or mark of this shape stands
abbrev pub place_of : {T S : Type 0} → (T → S) → (S → S → Bool) → S → Placed T → Option Place
place_of shape same s t = at_if (same (shape t.token) s) t.place

-- where a word or mark of the list stands, and what it stands for
abbrev pub one_listed : {T S X : Type 0} → (T → S) → (S → S → Bool) → List (S × X) → Placed T → Option (Place × X)
one_listed shape same rows t = beside t.place (listed_in same rows (shape t.token))
