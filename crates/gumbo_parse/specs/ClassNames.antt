-- The names with which a type of the model's own may begin (this project's own).
use Rattle.std.specs.Prelude.{◌≡◌, ℕ, Bool, true, false, List, Option, Some, None, refl}
use Rattle.hw_text.specs.declared.place.Place.{Place}
use Rattle.hw_text.specs.declared.placed.Placed.{Placed}
use Rattle.gumbo_parse.specs.declared.class_name.ClassName.{ClassName}
use Rattle.gumbo_parse.specs.declared.token.Token.{Token}
use Rattle.gumbo_parse.specs.declared.token.Token.TheVariants as token
use Rattle.gumbo_parse.specs.Values.{is_base_package}

-- such a name, where the test says that it is one
abbrev pub other_name_by : (n : List ℕ) (at : Place) (b : Bool) → is_base_package n ≡ b → Option ClassName
other_name_by n at true is = None
other_name_by n at false is = Some (record { name = n; place = at; other = is })

-- the name as such, where it is another than `base_types`
abbrev pub other_name : List ℕ → Place → Option ClassName
other_name n at = other_name_by n at (is_base_package n) refl

abbrev pub other_in : Token → Place → Option ClassName
other_in (token.Name n) at = other_name n at
other_in _ at = None

-- a name that is not `base_types`
abbrev pub other_of : Placed Token → Option ClassName
other_of t = other_in t.token t.place
