-- What it tells that a key is found at a place.
use Rattle.std.proofs.Common.{◌≡◌, ℕ, suc, ◌+◌, Bool, true, false, ◌&&◌, List, [], ◌∷◌, map, Option, Some, None, refl, sym, ap, ◌∙◌, arith, if◌then◌else◌, eqb}
use Rattle.std.specs.List.{slice_get}
use Rattle.std.specs.Option.{option_map, unwrap_or}
use Rattle.std.proofs.lemmas.Option.{slice_get-map}
use Rattle.std.specs.Str.{bytes_eq}
use Rattle.std.proofs.lemmas.Bool.{and_parts}
use Rattle.std.proofs.lemmas.Slice.Eq.{bytes_eq-Decides}
use Rattle.std.proofs.lemmas.Bool.Decides.{Decides-eqb}
use Rattle.aadl_names.specs.Keys.{Key, key, same_key, place_from, place_of}

-- what the test of two keys tells
pub same_is : (a b : Key) → same_key a b ≡ true → a ≡ b
same_is a b same =
    let parts = and_parts (eqb a.owner b.owner && bytes_eq a.first b.first) (bytes_eq a.second b.second) same in
    let front = and_parts (eqb a.owner b.owner) (bytes_eq a.first b.first) parts.0 in
    let owners = (Decides-eqb a.owner b.owner).0 front.0 in
    let firsts = (bytes_eq-Decides a.first b.first).0 front.1 in
    let seconds = (bytes_eq-Decides a.second b.second).0 parts.1 in
    ap (λ (n : ℕ). key n a.first a.second) owners ∙ (ap (λ (xs : List ℕ). key b.owner xs a.second) firsts ∙ ap (λ (xs : List ℕ). key b.owner b.first xs) seconds)

pub record IsThere (keys : List Key) (at : ℕ) (k : Key) (n : ℕ) : Type 0 where
  pub many : ℕ
  pub place : n ≡ at + many
  pub found : slice_get keys many ≡ Some k

there_first : (b : Bool) (keys : List Key) (at : ℕ) (k other : Key) (n : ℕ) (rest : Option ℕ) → (b ≡ true → k ≡ other) →
    (if b then Some at else rest) ≡ Some n → (rest ≡ Some n → IsThere keys (at + 1) k n) → IsThere (other ∷ keys) at k n
there_first true keys at k other n rest same is later =
    record { many = 0; place = let e : at ≡ n = ap (λ (o : Option ℕ). unwrap_or o at) is in omega (arith, e); found = ap Some (sym (same refl)) }
there_first false keys at k other n rest same is later =
    let r = later is in
    let count = r.place in
    record { many = suc r.many; place = omega (arith, count); found = r.found }

pub there : (keys : List Key) (at : ℕ) (k : Key) (n : ℕ) → place_from at keys k ≡ Some n → IsThere keys at k n
there [] at k n is = absurd (cc)
there (other ∷ keys) at k n is =
    there_first (same_key k other) keys at k other n (place_from (at + 1) keys k) (same_is k other) is (there keys (at + 1) k n)

-- the row in which a key is found has it
pub found_at : (keys : List Key) (k : Key) (n : ℕ) → place_of keys k ≡ Some n → slice_get keys n ≡ Some k
found_at keys k n is =
    let t = there keys 0 k n is in
    let count = t.place in
    let same : n ≡ t.many = omega (arith, count) in
    ap (slice_get keys) same ∙ t.found

pub record HasRow {R : Type 0} (key : R → Key) (rows : List R) (n : ℕ) (k : Key) : Type 0 where
  pub row : R
  pub found : slice_get rows n ≡ Some row
  pub same : key row ≡ k

row_of : {R : Type 0} (key : R → Key) (rows : List R) (n : ℕ) (k : Key) (o : Option R) → slice_get rows n ≡ o → option_map key o ≡ Some k → HasRow key rows n k
row_of key rows n k None is mapped = absurd (cc)
row_of key rows n k (Some row) is mapped = record { row = row; found = is; same = ap (λ (o : Option Key). unwrap_or o k) mapped }

pub found_row : {R : Type 0} (key : R → Key) (rows : List R) (n : ℕ) (k : Key) → place_of (map key rows) k ≡ Some n → HasRow key rows n k
found_row key rows n k is =
    row_of key rows n k (slice_get rows n) refl (sym (slice_get-map key rows n) ∙ found_at (map key rows) k n is)
