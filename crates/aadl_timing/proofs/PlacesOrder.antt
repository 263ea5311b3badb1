-- Which of two places comes first.
use Rattle.std.proofs.Common.{◌≡◌, Bool, true, false, not, arith, ◌↔◌, refl}
use Rattle.std.specs.Bool.{IsTrue}
use Rattle.std.proofs.lemmas.Bool.Decides.{nat_tests}
use Rattle.hw_text.specs.declared.place.Place.{Place}
use Rattle.hw_text.specs.Places.{IsBefore}
use Rattle.aadl_names.specs.Offences.{is_before}

pub is_before_told : (b : Bool) (at other : Place) → (IsTrue b ↔ IsBefore at other) → b ≡ is_before at other
is_before_told b at other told = grind (arith, nat_tests)

-- a comes at b or behind it, and b at c or behind it
pub behind_both_places : (a b c : Place) → is_before a b ≡ false → is_before b c ≡ false → is_before a c ≡ false
behind_both_places a b c one two = grind (arith, nat_tests)

pub before_one : (a b c : Place) → is_before b a ≡ true → is_before b c ≡ false → is_before a c ≡ false
before_one a b c one two = grind (arith, nat_tests)

pub not_true : (b : Bool) → not b ≡ true → b ≡ false
not_true true is = absurd (cc)
not_true false is = refl

pub not_false : (b : Bool) → b ≡ false → not b ≡ true
not_false true is = absurd (cc)
not_false false is = refl
