-- Names with which a type of the model's own may begin, or may not.
use Rattle.std.proofs.Common.{◌≡◌, ℕ, Bool, true, false, List, Some, None, refl, sym, ap, ◌∙◌}
use Rattle.std.proofs.Math.Bool.{Bool-set}
use Rattle.std.proofs.lemmas.Bool.{false≢true}
use Rattle.hw_text.specs.declared.place.Place.{Place}
use Rattle.gumbo_parse.specs.declared.class_name.ClassName.{ClassName}
use Rattle.gumbo_parse.specs.ClassNames.{other_name_by, other_name}
use Rattle.gumbo_parse.specs.Values.{is_base_package}

none-by : (n : List ℕ) (at : Place) (b : Bool) (is : is_base_package n ≡ b) → b ≡ true → other_name_by n at b is ≡ None
none-by n at true is e = refl
none-by n at false is e = absurd (false≢true e)

pub no_other_name : (n : List ℕ) (at : Place) → is_base_package n ≡ true → other_name n at ≡ None
no_other_name n at e = none-by n at (is_base_package n) refl e

some-by : (c : ClassName) (at : Place) (b : Bool) (is : is_base_package c.name ≡ b) → other_name_by c.name at b is ≡ Some (record { name = c.name; place = at; other = c.other })
some-by c at true is = absurd (false≢true (sym c.other ∙ is))
some-by c at false is =
    ap (λ (e : is_base_package c.name ≡ false). Some (record { name = c.name; place = at; other = e })) (Bool-set (is_base_package c.name) false is c.other)

-- a name that is such is made of itself, wherever it stands
pub other_name_there : (c : ClassName) (at : Place) → other_name c.name at ≡ Some (record { name = c.name; place = at; other = c.other })
other_name_there c at = some-by c at (is_base_package c.name) refl

pub other_name_of : (c : ClassName) → other_name c.name c.place ≡ Some c
other_name_of c = other_name_there c c.place
