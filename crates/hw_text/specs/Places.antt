-- Places in a text: lines count by LF and columns by bytes, both from 1, and stay at the largest u32 (this project's own).
use Rattle.std.specs.Prelude.{◌≡◌, ◌<◌, ◌⊎◌, ℕ, ◌+◌, ◌-◌, ◌==◌, nat_lt, if◌then◌else◌, List, [], ◌∷◌, length, take}
use Rattle.hw_text.specs.declared.place.Place.{Place}

-- in an earlier line, or earlier in the same line
abbrev pub IsBefore : Place → Place → Type 0
IsBefore at other = (at.line < other.line) ⊎ ((at.line ≡ other.line) × (at.column < other.column))

-- one more, but at most the largest u32
abbrev pub counted : ℕ → ℕ
counted n = if nat_lt n 4294967295 then n + 1 else n

-- the place behind this byte
abbrev pub next_place : Place → ℕ → Place
next_place at b =
    if b == 10 then record { line = counted at.line; column = 1 }
    else record { line = at.line; column = counted at.column }

-- the place behind these bytes
abbrev pub place_behind : Place → List ℕ → Place
place_behind at [] = at
place_behind at (b ∷ bs) = place_behind (next_place at b) bs

-- the place of the rest of a text that stands at a place
abbrev pub place_of_rest : Place → List ℕ → List ℕ → Place
place_of_rest at bs rest = place_behind at (take (length bs - length rest) bs)
