-- The names that stand for what the profile leaves out (docs/formats/model.md).
use Rattle.std.specs.Prelude.{ℕ, Bool, ◌||◌, List, codes}
use Rattle.std.specs.Str.{bytes_eq}

-- the name of a type of other profiles
unfoldable pub is_left_out_name : List ℕ → Bool
is_left_out_name name =
    bytes_eq name (codes "float") || (bytes_eq name (codes "float_32") || (bytes_eq name (codes "float_64") ||
    (bytes_eq name (codes "integer") || (bytes_eq name (codes "natural") || (bytes_eq name (codes "character") ||
    bytes_eq name (codes "string"))))))
