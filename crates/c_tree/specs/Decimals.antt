-- Numbers as literals in base ten (docs/formats/c.md).
use Rattle.std.specs.Prelude.{ℕ, ◌^◌, pos, nat_lt, if◌then◌else◌, List, [], ◌++◌, codes}
use Rattle.std.specs.Fmt.{signed_decimal}

-- a number in base ten, unsigned where no signed type has it
abbrev pub decimal_text : ℕ → List ℕ
decimal_text n = signed_decimal (pos n) ++ (if nat_lt n (2 ^ 63) then [] else codes "u")
