-- Thin models: what is asked of a model of connected devices beyond its form (this project's own, a part of SAE AS5506;
-- docs/formats/model.md).
use Rattle.std.specs.Prelude.{◌≡◌, ◌≢◌, ◌≤◌, true, ◌∷◌, ◌++◌, map, length, All, AllPairs, IsSome}
use Rattle.hamr_cli.specs.declared.thin.feature.Feature.{Feature}
use Rattle.hamr_cli.specs.declared.thin.device.Device.{Device}
use Rattle.hamr_cli.specs.declared.thin.model.ThinModel.{ThinModel}
use Rattle.hamr_cli.specs.Names.{Differ}
use Rattle.hamr_cli.specs.Instance.{size_of, is_declared, link_of, domains_of, ports_of, links_named}

-- each name after an `end` repeats its opening, and the implementation is of the declared system
pub record HasMatchingEnds (m : ThinModel) : Type 0 where
  pub package_end : m.ending.package_name ≡ m.package_name
  pub system_end : m.heading.system_end ≡ m.heading.system
  pub own_system : m.heading.implementation.system ≡ m.heading.system
  pub implementation_system_end : m.ending.implementation.system ≡ m.heading.implementation.system
  pub implementation_own_end : m.ending.implementation.own ≡ m.heading.implementation.own

-- a Queue_Size is 1 to 64
pub record HasThinQueue (f : Feature) : Type 0 where
  pub some_items : 1 ≤ size_of f.way
  pub few_items : size_of f.way ≤ 64

-- a device has 1 to 32 features, whose names differ
pub record IsThinDevice (d : Device) : Type 0 where
  pub own_end : d.end_name ≡ d.name
  pub some_features : 1 ≤ length d.features
  pub few_features : length d.features ≤ 32
  pub queue_sizes : All HasThinQueue d.features
  pub feature_names : Differ (map (λ f. f.name) d.features)

-- a model has devices and connections, and 1 to 60 subcomponents
pub record HasThinSize (m : ThinModel) : Type 0 where
  pub some_devices : 1 ≤ length m.devices
  pub some_subcomponents : 1 ≤ length m.subcomponents
  pub few_subcomponents : length m.subcomponents ≤ 60
  pub some_connections : 1 ≤ length m.connections

-- what is asked of the names of a model and of how much it has
pub record HasThinShape (m : ThinModel) : Type 0 where
  pub ends : HasMatchingEnds m
  pub size : HasThinSize m
  pub thin_devices : All IsThinDevice m.devices
  pub type_names : Differ (m.heading.system ∷ map (λ d. d.name) m.devices)
  pub declared : All (λ s. is_declared m.devices s.device ≡ true) m.subcomponents
  pub member_names : Differ (map (λ s. s.name) m.subcomponents ++ map (λ c. c.name) m.connections)

-- each connection goes from an out port of one subcomponent to an in port of another, and no two end at one port
pub record IsThinModel (m : ThinModel) : Type 0 where
  pub shape : HasThinShape m
  pub connected : All (λ c. IsSome (link_of (domains_of m) (ports_of m) c)) m.connections
  pub one_sender : AllPairs (λ link other. link.to.0 ≢ other.to.0) (links_named m)
