-- The numbers of a trace, read digit by digit.
use Rattle.std.specs.Prelude.{ℕ, ◌+◌, ◌-◌, ◌*◌, ◌^◌, ◌&&◌, nat_lt, if◌then◌else◌, List, [], ◌∷◌, Option, Some, None}
use Rattle.std.specs.Char.{is_ascii_digit}

-- the number that digits write behind those of n, where it stays below 2^64
abbrev pub number_from : ℕ → List ℕ → Option ℕ
number_from n [] = Some n
number_from n (c ∷ cs) =
    if is_ascii_digit c && nat_lt (n * 10 + (c - 48)) (2 ^ 64) then number_from (n * 10 + (c - 48)) cs else None
