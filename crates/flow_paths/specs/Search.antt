-- What the search for sources finds at each turn. No clause of a public function cites this.
use Rattle.std.specs.Prelude.{◌≡◌, ℕ, Bool, true, List, Some, length}
use Rattle.std.specs.List.{All, Contains}
use Rattle.arch_model.specs.declared.parts.ArchParts.{ArchParts}
use Rattle.arch_model.specs.declared.link.Link.{Link}
use Rattle.flow_paths.specs.Sources.{IsSource, owner_of, has}

-- the link leads from the domain to a member
pub record LeadsIn (arch : ArchParts) (members : List Bool) (link : Link) (sender : ℕ) : Type 0 where
  pub receiver : ℕ
  pub from : owner_of arch link.from ≡ Some sender
  pub to : owner_of arch link.to ≡ Some receiver
  pub is_member : has members receiver ≡ true

-- a link leads from the domain to a member
pub record Feeds (arch : ArchParts) (members : List Bool) (sender : ℕ) : Type 0 where
  pub link : Link
  pub is_link : Contains arch.links link
  pub leads : LeadsIn arch members link sender

-- the link leads from a member where it leads to one
abbrev pub StaysWithin : ArchParts → List Bool → Link → Type 0
StaysWithin arch members link =
    (sender receiver : ℕ) → owner_of arch link.from ≡ Some sender → owner_of arch link.to ≡ Some receiver → has members receiver ≡ true → has members sender ≡ true

-- no link leads into the set from outside
abbrev pub IsClosed : ArchParts → List Bool → Type 0
IsClosed arch members = All (StaysWithin arch members) arch.links

-- the domain is a member, and members are sources of it alone
pub record HasSources (arch : ArchParts) (pd : ℕ) (members : List Bool) : Type 0 where
  pub count : length members ≡ length arch.pds
  pub itself : has members pd ≡ true
  pub only : (source : ℕ) → has members source ≡ true → IsSource arch pd source
