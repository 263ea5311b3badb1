-- The earliest of refusals that stand in several lists.
use Rattle.std.proofs.Common.{◌≡◌, List, [], ◌∷◌, ◌++◌, Option, Some, refl}
use Rattle.hw_text.specs.declared.refusal.Refusal.{Refusal}
use Rattle.aadl_names.specs.Offences.{earlier, earliest_from}

-- is that of the second list, behind that of the first
pub earliest_append : (known : Option Refusal) (rs more : List Refusal) → earliest_from known (rs ++ more) ≡ earliest_from (earliest_from known rs) more
earliest_append known [] more = refl
earliest_append known (r ∷ rs) more = earliest_append (earlier known (Some r)) rs more
