-- Look-ups of the ports that a trace names.
use Rattle.std.specs.Prelude.{ℕ, Bool, true, false, not, ◌==◌, ◌+◌, ◌&&◌, List, [], ◌∷◌, Option, Some, None, if◌then◌else◌}
use Rattle.std.specs.Str.{bytes_eq}
use Rattle.arch_model.specs.declared.port.Port.{Port}
use Rattle.arch_model.specs.declared.id.PdId.{PdId}
use Rattle.arch_model.specs.declared.id.PortId.{PortId}

abbrev pub is_same : Bool → Bool → Bool
is_same true other = other
is_same false other = not other

abbrev pub is_port : PdId → Bool → List ℕ → Port → Bool
is_port owner outward name port = port.owner.0 == owner.0 && (is_same port.outward outward && bytes_eq port.name name)

-- the first such port, the ports being numbered from `place` on
abbrev pub port_from : ℕ → List Port → PdId → Bool → List ℕ → Option PortId
port_from place [] owner outward name = None
port_from place (port ∷ ports) owner outward name =
    if is_port owner outward name port then Some (record { 0 = place }) else port_from (place + 1) ports owner outward name
