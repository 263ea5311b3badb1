-- The values that ports carry.
use Rattle.std.specs.Prelude.{ℤ, pos, List, [], map, IsSomeAnd, slice_get}
use Rattle.std.specs.Option.{option_map_or}
use Rattle.hw_types.specs.Value.{IsValueOf}
use Rattle.arch_model.specs.declared.parts.ArchParts.{ArchParts}
use Rattle.hw_types.specs.Shape.{Shape}
use Rattle.arch_model.specs.declared.port.Port.{Port}
use Rattle.arch_model.specs.declared.id.PortId.{PortId}

-- a value of the port's type
abbrev pub IsPortValue : ArchParts → PortId → List ℤ → Type 0
IsPortValue arch port value =
    IsSomeAnd (slice_get arch.ports port.0) (λ p. IsSomeAnd (slice_get arch.types p.ty) (λ row. IsValueOf row.layout value))

-- the value of a layout whose numbers are all zero
abbrev pub zero_value : Shape → List ℤ
zero_value layout = map (λ _. pos 0) layout.scalars

-- the zero of the port's type
abbrev pub zero_of : ArchParts → Port → List ℤ
zero_of arch port = option_map_or (λ row. zero_value row.layout) (slice_get arch.types port.ty) []
