-- Numbers given to rows (this project's own).
use Rattle.std.specs.Prelude.{ℕ, ◌-◌, ◌^◌, List, slice_index_or}

-- the label of a row; of one that has none, the highest that there may be
abbrev pub label_at : List ℕ → ℕ → ℕ
label_at labels row = slice_index_or labels row (2 ^ 64 - 1)
