-- The data declarations of a package (after SAE AS5506, data components).
use Rattle.std.specs.Prelude.{ℕ, ◌+◌, Bool, true, false, if◌then◌else◌, List, [], ◌∷◌, ◌++◌}
use Rattle.aadl_tree.specs.declared.category.Category.{Category}
use Rattle.aadl_tree.specs.declared.category.Category.TheVariants as category
use Rattle.aadl_tree.specs.declared.package.Declaration.{Declaration}
use Rattle.aadl_tree.specs.declared.package.Declaration.TheVariants as declaration
use Rattle.aadl_tree.specs.declared.package.Package.{Package}
use Rattle.aadl_names.specs.declared.class_row.ClassRow.{ClassRow}
use Rattle.aadl_names.specs.declared.class_row.ClassRow.TheVariants as row

abbrev pub is_data : Category → Bool
is_data category.Data = true
is_data category.Thread = false
is_data category.Process = false
is_data category.System = false
is_data category.Device = false
is_data category.Processor = false

abbrev pub if_data : Category → ClassRow → List ClassRow
if_data c class = if is_data c then class ∷ [] else []

-- the data among declarations, types and implementations being numbered on
abbrev pub data_rows_from : ℕ → ℕ → List Declaration → List ClassRow
data_rows_from t i [] = []
data_rows_from t i (declaration.Type c ∷ ds) = if_data c.category (row.Type t) ++ data_rows_from (t + 1) i ds
data_rows_from t i (declaration.Implementation c ∷ ds) = if_data c.category (row.Implementation i) ++ data_rows_from t (i + 1) ds
data_rows_from t i (declaration.Annex a ∷ ds) = data_rows_from t i ds

-- all data types and data implementations, in text order
abbrev pub data_rows : Package → List ClassRow
data_rows p = data_rows_from 0 0 p.declarations
