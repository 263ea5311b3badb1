-- Which of two places comes first.
use Rattle.std.proofs.Common.{◌≡◌, Bool, arith, ◌↔◌}
use Rattle.std.specs.Bool.{IsTrue}
use Rattle.std.proofs.lemmas.Bool.Decides.{nat_tests}
use Rattle.hw_text.specs.declared.place.Place.{Place}
use Rattle.hw_text.specs.Places.{IsBefore}
use Rattle.aadl_names.specs.Offences.{is_before}

pub is_before_told : (b : Bool) (at other : Place) → (IsTrue b ↔ IsBefore at other) → b ≡ is_before at other
is_before_told b at other told = grind (arith, nat_tests)
