-- When a thread is between a `send` and the next `end`.
use Rattle.std.specs.Prelude.{◌≡◌, ◌≢◌, List, ◌∷◌, ◌++◌, All, IsSomeAnd, slice_get}
use Rattle.arch_model.specs.declared.parts.ArchParts.{ArchParts}
use Rattle.arch_model.specs.declared.id.PdId.{PdId}
use Rattle.arch_model.specs.declared.role.Role.{Role}
use Rattle.arch_model.specs.declared.role.Role.TheVariants.{Device}
use Rattle.rts_rules.specs.declared.event.Event.{Event}
use Rattle.rts_rules.specs.declared.event.What.TheVariants.{Send, End}

-- the domain is there and runs a thread
pub record IsThread (arch : ArchParts) (who : PdId) : Type 0 where
  pub role : Role
  pub is : IsSomeAnd (slice_get arch.pds who.0) (λ pd. pd.role ≡ role)
  pub no_device : role ≢ Device

-- behind a `send` no `end` has come
pub record IsSending (events : List Event) : Type 0 where
  pub first : List Event
  pub send : Event
  pub since : List Event
  pub all : events ≡ first ++ send ∷ since
  pub begins : send.what ≡ Send
  pub no_end : All (λ event. event.what ≢ End) since
