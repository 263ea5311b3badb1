-- What domains are, and which ports they have.
use Rattle.std.specs.Prelude.{◌≡◌, Bool, IsSomeAnd, slice_get}
use Rattle.arch_model.specs.declared.parts.ArchParts.{ArchParts}
use Rattle.arch_model.specs.declared.id.PdId.{PdId}
use Rattle.arch_model.specs.declared.id.PortId.{PortId}
use Rattle.arch_model.specs.declared.role.Role.TheVariants.{Device}

-- the domain is there and is a device
abbrev pub IsDevice : ArchParts → PdId → Type 0
IsDevice arch who = IsSomeAnd (slice_get arch.pds who.0) (λ pd. pd.role ≡ Device)

-- the port is there, belongs to the domain, and leads out or in
abbrev pub IsPortOf : ArchParts → PdId → Bool → PortId → Type 0
IsPortOf arch who outward port =
    IsSomeAnd (slice_get arch.ports port.0) (λ p. (p.owner.0 ≡ who.0) × (p.outward ≡ outward))
