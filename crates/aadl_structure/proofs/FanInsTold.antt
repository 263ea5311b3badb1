-- The earliest of refusals that are told as others, at their places.
use Rattle.std.proofs.Common.{◌≡◌, Bool, true, false, cond, List, [], ◌∷◌, Option, Some, None, map, refl, sym, ap, ◌∙◌}
use Rattle.std.specs.Option.{option_map}
use Rattle.hw_text.specs.declared.refusal.Refusal.{Refusal}
use Rattle.aadl_names.specs.Offences.{is_before, earlier, earliest_from}
use Rattle.aadl_structure.specs.FanIns.{fan_in}

either : (b : Bool) (known found : Refusal) → cond b (Some (fan_in found)) (Some (fan_in known)) ≡ option_map fan_in (cond b (Some found) (Some known))
either true known found = refl
either false known found = refl

one : (known : Option Refusal) (r : Refusal) → earlier (option_map fan_in known) (Some (fan_in r)) ≡ option_map fan_in (earlier known (Some r))
one None r = refl
one (Some known) r = either (is_before r.place known.place) known r

pub told : (known : Option Refusal) (rs : List Refusal) → earliest_from (option_map fan_in known) (map fan_in rs) ≡ option_map fan_in (earliest_from known rs)
told known [] = refl
told known (r ∷ rs) = ap (λ (first : Option Refusal). earliest_from first (map fan_in rs)) (one known r) ∙ told (earlier known (Some r)) rs

pub fan_ins_none : (rs : List Refusal) → None ≡ earliest_from None rs → None ≡ earliest_from None (map fan_in rs)
fan_ins_none rs none = sym (told None rs ∙ ap (option_map fan_in) (sym none))

pub fan_ins_some : (rs : List Refusal) (r : Refusal) → Some r ≡ earliest_from None rs → Some (fan_in r) ≡ earliest_from None (map fan_in rs)
fan_ins_some rs r some = sym (told None rs ∙ ap (option_map fan_in) (sym some))
