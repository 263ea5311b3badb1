-- The names with which a type of the model's own may begin (this project's own).
use Rattle.std.specs.Prelude.{◌≡◌, ℕ, Bool, true, false, List, Option, Some, None, refl}
use Rattle.aadl_tree.specs.declared.class_name.ClassName.{ClassName}
use Rattle.aadl_tree.specs.Classes.{is_base_package}

-- such a name, where the test says that it is one
abbrev pub own_name_by : (n : List ℕ) (b : Bool) → is_base_package n ≡ b → Option ClassName
own_name_by n true is = None
own_name_by n false is = Some (record { name = n; other = is })

-- the name as such, where it is another than `base_types`
abbrev pub own_name : List ℕ → Option ClassName
own_name n = own_name_by n (is_base_package n) refl
