-- A port that has a receiver is one where a link begins.
use Rattle.std.proofs.Common.{◌≡◌, Bool, true, false, ◌==◌, ◌||◌, List, [], ◌∷◌, length, map, filter, cond, refl, not, arith}
use Rattle.std.proofs.lemmas.Bool.Decides.{nat_tests}
use Rattle.std.specs.List.{list_any}
use Rattle.arch_model.specs.declared.id.PortId.{PortId}
use Rattle.arch_model.specs.declared.link.Link.{Link}
use Rattle.arch_model.specs.LookUp.{receivers_of}
use Rattle.arch_model.specs.Usage.{has_receiver}

begins-step : (begins any : Bool) (link : Link) (kept : List Link) → (length (map (λ (l : Link). l.to) kept) == 0) ≡ not any →
    (length (map (λ (l : Link). l.to) (cond begins (link ∷ kept) kept)) == 0) ≡ not (begins || any)
begins-step true any link kept later =
    let none : (length (map (λ (l : Link). l.to) (link ∷ kept)) == 0) ≡ false = grind (arith, nat_tests) in none
begins-step false any link kept later = later

-- no receiver, no link that begins there
pub begins-nowhere : (links : List Link) (port : PortId) → (length (receivers_of links port) == 0) ≡ not (has_receiver links port)
begins-nowhere [] port = refl
begins-nowhere (link ∷ links) port =
    begins-step (link.from.0 == port.0) (list_any (λ (l : Link). l.from.0 == port.0) links) link (filter (λ (l : Link). l.from.0 == port.0) links)
    (begins-nowhere links port)

pub not-twice : (b : Bool) → not (not b) ≡ b
not-twice true = refl
not-twice false = refl
