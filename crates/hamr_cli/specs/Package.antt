-- Thin models in the form of parsed packages: devices with event data ports of Integer_32, and one system that connects them
-- (docs/formats/model.md).
use Rattle.std.specs.Prelude.{◌≡◌, ℕ, ◌-◌, Bool, true, false, ◌&&◌, ◌==◌, if◌then◌else◌, List, [], ◌∷◌, length, take, drop, codes, Option, Some, None}
use Rattle.aadl_tree.specs.declared.category.Category.{Category}
use Rattle.aadl_tree.specs.declared.category.Category.TheVariants as category
use Rattle.aadl_tree.specs.declared.component.ComponentType.{ComponentType}
use Rattle.aadl_tree.specs.declared.component.Implementation.{Implementation}
use Rattle.aadl_tree.specs.declared.names.ImplementationName.{ImplementationName}
use Rattle.aadl_tree.specs.declared.package.Declaration.{Declaration}
use Rattle.aadl_tree.specs.declared.package.Declaration.TheVariants as declaration
use Rattle.aadl_tree.specs.declared.package.Import.{Import}
use Rattle.aadl_tree.specs.declared.package.Package.{Package}
use Rattle.arch_model.specs.declared.parts.ArchParts.{ArchParts}
use Rattle.hamr_cli.specs.declared.thin.device.Device.{Device}
use Rattle.hamr_cli.specs.declared.thin.heading.ImplementationName.{ImplementationName as ThinName}
use Rattle.hamr_cli.specs.declared.thin.heading.Heading.{Heading}
use Rattle.hamr_cli.specs.declared.thin.model.ThinModel.{ThinModel}
use Rattle.hamr_cli.specs.Steps.{◌>>=◌}
use Rattle.hamr_cli.specs.Instance.{instance_of}
use Rattle.hamr_cli.specs.Model.{IsThinModel}
use Rattle.hamr_cli.specs.Tree.{IsTree}
use Rattle.hamr_cli.specs.Parts.{all_of, plain_name, is_word, device_of, subcomponent_of, connection_of}

abbrev pub is_system : Category → Bool
is_system category.System = true
is_system _ = false

-- with base_types; and nothing else
abbrev pub imports_base : List Import → Bool
imports_base [] = false
imports_base (i ∷ more) = is_word (codes "base_types") i.first && ((length i.others == 0) && (length more == 0))

abbrev pub device_in : Declaration → Option Device
device_in (declaration.Type t) = device_of t
device_in (declaration.Implementation i) = None
device_in (declaration.Annex a) = None

-- a system type without features, and an implementation of a system
abbrev pub is_thin_system : ComponentType → Implementation → Bool
is_thin_system t i =
    is_system t.category && ((length t.features == 0) && ((length t.properties == 0) && ((length t.annexes == 0) &&
    (is_system i.category && ((length i.properties == 0) && (length i.annexes == 0))))))

-- a system type, and its implementation behind it
abbrev pub system_of : Declaration → Declaration → Option (ComponentType × Implementation)
system_of (declaration.Type t) (declaration.Implementation i) = if is_thin_system t i then Some (t, i) else None
system_of _ _ = None

-- these two declarations and no others
abbrev pub system_in : List Declaration → Option (ComponentType × Implementation)
system_in [] = None
system_in (d ∷ []) = None
system_in (d ∷ e ∷ []) = system_of d e
system_in (d ∷ e ∷ f ∷ ds) = None

-- where the last two of these declarations begin
abbrev pub system_place : List Declaration → ℕ
system_place ds = length ds - 2

abbrev pub implementation_name_of : ImplementationName → ThinName
implementation_name_of n = record { system = n.component_type.name; own = n.name }

abbrev pub heading_of : ComponentType → Implementation → Heading
heading_of t i = record { system = t.name.name; system_end = t.end_name.name; implementation = implementation_name_of i.name }

-- the system of a model with these devices, by what it is made of
unfoldable pub model_with : List ℕ → List ℕ → List Device → (ComponentType × Implementation) → Option ThinModel
model_with name end_name devices system = do
  subcomponents ← all_of subcomponent_of system.1.subcomponents
  connections ← all_of connection_of system.1.connections
  Some (record {
    package_name = name;
    devices = devices;
    heading = heading_of system.0 system.1;
    subcomponents = subcomponents;
    connections = connections;
    ending = record { implementation = implementation_name_of system.1.end_name; package_name = end_name };
  })

-- devices, then a system and its implementation
unfoldable pub declared_model : List ℕ → List ℕ → List Declaration → Option ThinModel
declared_model name end_name ds = do
  devices ← all_of device_in (take (system_place ds) ds)
  system ← system_in (drop (system_place ds) ds)
  model_with name end_name devices system

-- what a package says where it has the form of a thin model
unfoldable pub model_of : Package → Option ThinModel
model_of p = do
  name ← plain_name p.name
  end_name ← plain_name p.end_name
  if imports_base p.imports then declared_model name end_name p.declarations else None

-- the package is that of a thin model, of which this is the instance
pub record IsThinPackage (p : Package) (arch : ArchParts) : Type 0 where
  pub model : ThinModel
  pub tree : IsTree p model
  pub thin : IsThinModel model
  pub instance : arch ≡ instance_of model

-- the package is that of a thin model
abbrev pub IsThin : Package → Type 0
IsThin p = (arch : ArchParts) × IsThinPackage p arch
