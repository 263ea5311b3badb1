-- How many scalars a type has.
use Rattle.std.specs.Prelude.{ℕ, ◌*◌, ◌-◌, ◌^◌, min, sum}
use Rattle.hw_types.specs.declared.ty.Ty.{Ty}
use Rattle.hw_types.specs.declared.ty.Ty.TheOpen.{Ty-F}
use Rattle.hw_types.specs.declared.ty.Ty.TheOpen as ty
use Rattle.hw_types.specs.declared.ty.Ty.TheFolds.{fold-Ty}

-- of a type whose parts have these many
abbrev pub count_step : Ty-F ℕ → ℕ
count_step (ty.One scalar) = 1
count_step (ty.Fields counts) = sum counts
count_step (ty.Times count times) = times * count
count_step ty.Nothing = 0

-- the number of scalars of a type
abbrev pub scalar_count : Ty → ℕ
scalar_count = fold-Ty ℕ count_step

-- the number that is told where the scalars are too many: their count, or the greatest number of 64 bits where it is less
abbrev pub told_count : Ty → ℕ
told_count type = min (scalar_count type) (2 ^ 64 - 1)
