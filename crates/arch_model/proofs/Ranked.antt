-- Rows that refer to rows of a lower rank alone stand for types.
use Rattle.std.proofs.Common.{◌≡◌, ℕ, zero, suc, ◌+◌, ◌<◌, List, [], ◌∷◌, Option, Some, None, length, map, All, refl, sym, ap, subst, ◌∙◌, arith}
use Rattle.std.specs.List.{slice_get}
use Rattle.std.specs.Prelude.{unwrap_or}
use Rattle.std.proofs.lemmas.List.{length-map}
use Rattle.std.proofs.lemmas.List.Elements.{All-head, All-tail}
use Rattle.hw_types.specs.declared.ty.Ty.{Ty}
use Rattle.hw_types.specs.declared.ty.Ty.TheVariants.{Nothing}
use Rattle.arch_model.specs.declared.form.Form.{Form}
use Rattle.arch_model.specs.declared.form.Form.TheVariants as form
use Rattle.arch_model.specs.declared.type_row.TypeRow.{TypeRow}
use Rattle.arch_model.specs.Types.{made_of, StandAt, StandsFor, StandForEach, StandForTypes, IsRanked}
use Rattle.arch_model.specs.TypeTable.{Fit, HasWords}

-- the type of this form and these parts, where there is one
total : Form → List Ty → Ty
total f parts = unwrap_or (made_of f parts) Nothing

fit-made : (f : Form) (words : List (List ℕ)) (places : List ℕ) (parts : List Ty) → Fit f words places → length parts ≡ length places →
    made_of f parts ≡ Some (total f parts)
unfolding total
fit-made (form.One s) words places [] fit same = refl
fit-made (form.One s) words places (p ∷ parts) fit same = absurd (omega (arith, same, ap length fit.no_parts))
fit-made form.Fields words places parts fit same = refl
fit-made (form.Times n) words places [] fit same = absurd (omega (arith, same, fit.one_part))
fit-made (form.Times n) words places (p ∷ []) fit same = refl
fit-made (form.Times n) words places (p ∷ q ∷ parts) fit same = absurd (omega (arith, same, fit.one_part))
fit-made form.Nothing words places [] fit same = refl
fit-made form.Nothing words places (p ∷ parts) fit same = absurd (omega (arith, same, ap length fit.no_parts))

-- the type of a row, where it is known how to make those of its parts
of_row : Option TypeRow → (ℕ → Ty) → Ty
of_row None part = Nothing
of_row (Some row) part = total row.form (map part row.parts)

-- the type at a place, made of types at most so deep
tree : List TypeRow → ℕ → ℕ → Ty
tree rows zero place = Nothing
tree rows (suc depth) place = of_row (slice_get rows place) (tree rows depth)

map-same : (f g : ℕ → Ty) (places : List ℕ) (P : ℕ → Type 0) → All P places → ((p : ℕ) → P p → f p ≡ g p) → map f places ≡ map g places
map-same f g [] P all same = refl
map-same f g (p ∷ places) P all same =
    ap (λ t. t ∷ map f places) (same p (All-head P p places all)) ∙ ap (λ ts. g p ∷ ts) (map-same f g places P (All-tail P p places all) same)

of_row-same : (row : Option TypeRow) (f g : ℕ → Ty) → ((r : TypeRow) → row ≡ Some r → map f r.parts ≡ map g r.parts) → of_row row f ≡ of_row row g
unfolding of_row
of_row-same None f g same = refl
of_row-same (Some row) f g same = ap (total row.form) (same row refl)

module _ (rows : List TypeRow) (rank : ℕ → ℕ) (ranked : IsRanked rank rows) where
  lower : (place : ℕ) (row : TypeRow) → slice_get rows place ≡ Some row → All (λ part. (part < length rows) × (rank part < rank place)) row.parts
  lower place row here = ranked place row here

  -- deep enough is deep enough
  settled : (n m place : ℕ) → rank place < n → rank place < m → tree rows n place ≡ tree rows m place
  unfolding tree
  settled zero m place below also = absurd (omega (arith, below))
  settled (suc n) zero place below also = absurd (omega (arith, also))
  settled (suc n) (suc m) place below also =
      of_row-same (slice_get rows place) (tree rows n) (tree rows m) (λ row here.
      map-same (tree rows n) (tree rows m) row.parts (λ part. (part < length rows) × (rank part < rank place)) (lower place row here)
      (λ part low. settled n m part (omega (arith, low.1, below)) (omega (arith, low.1, also))))

  whole : ℕ → Ty
  whole place = tree rows (suc (rank place)) place

  -- the types of these rows, the first of them at this place
  listed : ℕ → List TypeRow → List Ty
  listed place [] = []
  listed place (row ∷ rest) = whole place ∷ listed (place + 1) rest

  listed-at : (place : ℕ) (rest : List TypeRow) (k at : ℕ) → at ≡ place + k → k < length rest → slice_get (listed place rest) k ≡ Some (whole at)
  unfolding listed
  listed-at place [] k at is inside = absurd (omega (arith, inside))
  listed-at place (row ∷ rest) zero at is inside =
      let here : place ≡ at = omega arith in
      ap (λ n. Some (whole n)) here
  listed-at place (row ∷ rest) (suc k) at is inside = listed-at (place + 1) rest k at (omega arith) (omega (arith, inside))

  types : List Ty
  types = listed 0 rows

  placed : (places : List ℕ) (P : ℕ → Type 0) → All P places → ((p : ℕ) → P p → p < length rows) → StandAt types places (map whole places)
  unfolding types
  placed [] P all inside = tt
  placed (p ∷ places) P all inside =
      (listed-at 0 rows p p (omega arith) (inside p (All-head P p places all)), placed places P (All-tail P p places all) inside)

  made-whole : (place : ℕ) (row : TypeRow) → slice_get rows place ≡ Some row → whole place ≡ total row.form (map (tree rows (rank place)) row.parts)
  unfolding whole tree of_row
  made-whole place row here = ap (λ o. of_row o (tree rows (rank place))) here

  stands-whole : (place : ℕ) (row : TypeRow) → HasWords row → slice_get rows place ≡ Some row → StandsFor types row (whole place)
  unfolding whole
  stands-whole place row words here =
      let low = lower place row here in
      let same : map (tree rows (rank place)) row.parts ≡ map whole row.parts =
      map-same (tree rows (rank place)) whole row.parts (λ part. (part < length rows) × (rank part < rank place)) low
      (λ part l. settled (rank place) (suc (rank part)) part l.1 (omega arith)) in
      record {
        parts = map whole row.parts;
        placed = placed row.parts (λ part. (part < length rows) × (rank part < rank place)) low (λ part l. l.0);
        made = fit-made row.form row.words row.parts (map whole row.parts) words.fit (length-map row.parts whole)
            ∙ ap Some (ap (total row.form) (sym same) ∙ sym (made-whole place row here));
      }

  stand-each : (place : ℕ) (rest : List TypeRow) → ((k : ℕ) (row : TypeRow) → slice_get rest k ≡ Some row → slice_get rows (place + k) ≡ Some row) →
      All HasWords rest → StandForEach types rest (listed place rest)
  unfolding listed
  stand-each place [] within words = tt
  stand-each place (row ∷ rest) within words =
      let same : place + 0 ≡ place = omega arith in
      let here : slice_get rows place ≡ Some row = subst (λ n. slice_get rows n ≡ Some row) same (within 0 row refl) in (
        stands-whole place row (All-head HasWords row rest words) here,
        stand-each (place + 1) rest
            (λ k r e. let next : place + suc k ≡ place + 1 + k = omega arith in subst (λ n. slice_get rows n ≡ Some r) next (within (suc k) r e))
            (All-tail HasWords row rest words),
      )

  pub stand : All HasWords rows → StandForTypes rows
  unfolding types
  stand words = (
    types,
    stand-each 0 rows (λ k row e. let same : k ≡ 0 + k = omega arith in subst (λ n. slice_get rows n ≡ Some row) same e) words,
  )
