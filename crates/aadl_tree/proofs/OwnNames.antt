-- Names with which a type of the model's own may begin, or may not.
use Rattle.std.proofs.Common.{◌≡◌, ℕ, Bool, true, false, List, Some, None, refl, sym, ap, ◌∙◌}
use Rattle.std.proofs.Math.Bool.{Bool-set}
use Rattle.std.proofs.lemmas.Bool.{false≢true}
use Rattle.aadl_tree.specs.declared.class_name.ClassName.{ClassName}
use Rattle.aadl_tree.specs.Classes.{is_base_package}
use Rattle.aadl_tree.specs.ClassNames.{own_name_by, own_name}

none-by : (n : List ℕ) (b : Bool) (is : is_base_package n ≡ b) → b ≡ true → own_name_by n b is ≡ None
none-by n true is e = refl
none-by n false is e = absurd (false≢true e)

pub no_own_name : (n : List ℕ) → is_base_package n ≡ true → own_name n ≡ None
no_own_name n e = none-by n (is_base_package n) refl e

some-by : (c : ClassName) (b : Bool) (is : is_base_package c.name ≡ b) → own_name_by c.name b is ≡ Some c
some-by c true is = absurd (false≢true (sym c.other ∙ is))
some-by c false is = ap (λ (e : is_base_package c.name ≡ false). Some (record { name = c.name; other = e })) (Bool-set (is_base_package c.name) false is c.other)

-- a name that is such is made of itself
pub own_name_of : (c : ClassName) → own_name c.name ≡ Some c
own_name_of c = some-by c (is_base_package c.name) refl
