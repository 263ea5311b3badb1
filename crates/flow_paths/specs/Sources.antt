-- The sources of a domain: it itself, and every domain from which a list of links, end to end, leads to it (this project's own).
use Rattle.std.specs.Prelude.{◌≡◌, ◌↔◌, ℕ, Bool, true, false, List, [], ◌∷◌, Option, Some}
use Rattle.std.specs.Option.{option_map}
use Rattle.std.specs.List.{slice_get, slice_index_or, Contains}
use Rattle.arch_model.specs.declared.parts.ArchParts.{ArchParts}
use Rattle.arch_model.specs.declared.id.PortId.{PortId}
use Rattle.arch_model.specs.declared.link.Link.{Link}

-- the domain of a port
abbrev pub owner_of : ArchParts → PortId → Option ℕ
owner_of arch port = option_map (λ p. p.owner.0) (slice_get arch.ports port.0)

-- the link of the architecture leads from the one domain to the other
pub record LeadsFrom (arch : ArchParts) (link : Link) (from to : ℕ) : Type 0 where
  pub is_link : Contains arch.links link
  pub sender : owner_of arch link.from ≡ Some from
  pub receiver : owner_of arch link.to ≡ Some to

-- these links lead, end to end, from the one domain to the other
abbrev pub Lead : ArchParts → ℕ → List Link → ℕ → Type 0
Lead arch from [] to = from ≡ to
Lead arch from (link ∷ links) to = (next : ℕ) × LeadsFrom arch link from next × Lead arch next links to

pub record IsSource (arch : ArchParts) (pd source : ℕ) : Type 0 where
  pub links : List Link
  pub lead : Lead arch source links pd

-- the list says of this domain that it is a member
abbrev pub has : List Bool → ℕ → Bool
has members pd = slice_index_or members pd false

-- the members are the sources of the domain
abbrev pub AreSources : ArchParts → ℕ → List Bool → Type 0
AreSources arch pd members = (source : ℕ) → (has members source ≡ true) ↔ IsSource arch pd source
