-- The name of the package of base types (SAE AS5506 annex, base types; docs/formats/model.md).
use Rattle.std.specs.Prelude.{ℕ, Bool, List, codes}
use Rattle.std.specs.Str.{bytes_eq}

-- `base_types`, behind which only a base type may stand in a classifier
abbrev pub is_base_package : List ℕ → Bool
is_base_package name = bytes_eq name (codes "base_types")
