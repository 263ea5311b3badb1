-- lists whose pairs pass a test
use native.Mathlib.Omega.{arith}
use Rattle.std.proofs.Common.{ap, ◌∙◌, ◌-◌, ◌≤◌, ◌≡◌, List, [], ◌∷◌, length, take, drop, slice_index_or, All, AllPairs}
use Rattle.std.proofs.Math.Seq.{take-length}
use Rattle.std.proofs.lemmas.List.Kept.{AllPairs-cons}

abbrev rest_of : {X : Type 0} → List X → List X
rest_of xs = take (length xs - 1) (drop 1 xs)

-- the first with each behind it, and those behind it with one another
pub AllPairs-from_rest : {X : Type 0} (R : X → X → Type 0) (xs : List X) (d : X) → 1 ≤ length xs → All (R (slice_index_or xs 0 d)) (rest_of xs) → AllPairs R (rest_of xs) → AllPairs R xs
AllPairs-from_rest R [] d some first rest = absurd (omega (arith, some))
AllPairs-from_rest R (x ∷ xs) d some first rest =
    let fewer : length (x ∷ xs) - 1 ≡ length xs = omega arith in
    let same : rest_of (x ∷ xs) ≡ xs = ap (λ n. take n xs) fewer ∙ take-length xs in
    AllPairs-cons R x xs (rw (← same) first) (rw (← same) rest)
