-- The refusal of one row whose key is there.
use Rattle.std.proofs.Common.{◌≡◌, Bool, true, [], ◌∷◌, ◌++◌, Option, Some, refl, if◌then◌else◌}
use Rattle.hw_text.specs.declared.refusal.Refusal.{Refusal}
use Rattle.aadl_names.specs.Offences.{earlier, earliest_from}

pub told_twice : (is_there : Bool) (first : Option Refusal) (twice told : Refusal) → is_there ≡ true → twice ≡ told →
    earlier first (Some twice) ≡ earliest_from first ((if is_there then told ∷ [] else []) ++ [])
told_twice is_there first twice told there same = rw (there, same) refl
