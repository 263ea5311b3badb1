-- What a package says is what its tree is.
use Rattle.std.proofs.Common.{◌≡◌, ℕ, ◌-◌, cond, List, [], ◌∷◌, ◌++◌, length, length-append, take, drop, Some, None, sym, ap, ◌∙◌, refl, subst, arith}
use Rattle.std.specs.Option.{option_and_then}
use Rattle.std.proofs.lemmas.List.{take-append-drop}
use lib.Seq.{take-append_seam, drop-append_seam}
use Rattle.std.proofs.lemmas.Option.{option_and_then_some, same_Some}
use Rattle.aadl_tree.specs.declared.component.ComponentType.{ComponentType}
use Rattle.aadl_tree.specs.declared.component.Implementation.{Implementation}
use Rattle.aadl_tree.specs.declared.package.Declaration.{Declaration}
use Rattle.aadl_tree.specs.declared.package.Import.{Import}
use Rattle.aadl_tree.specs.declared.package.Package.{Package}
use Rattle.hamr_cli.specs.declared.thin.device.Device.{Device}
use Rattle.hamr_cli.specs.declared.thin.subcomponent.Subcomponent.{Subcomponent as ThinSubcomponent}
use Rattle.hamr_cli.specs.declared.thin.connection.Connection.{Connection as ThinConnection}
use Rattle.hamr_cli.specs.declared.thin.model.ThinModel.{ThinModel}
use Rattle.hamr_cli.specs.Parts.{all_of, plain_name, subcomponent_of, connection_of}
use Rattle.hamr_cli.specs.Package.{imports_base, device_in, is_thin_system, system_in, system_place, implementation_name_of, heading_of, model_with, declared_model, model_of}
use Rattle.hamr_cli.specs.Tree.{Each, IsSubcomponent, IsConnection, IsBaseImport, IsSystem, IsImplementation, IsTree}
use Rattle.hamr_cli.proofs.PartTrees.{if_some, some_if, all-each, each-all, plain_name-is, is-plain_name}
use Rattle.hamr_cli.proofs.MemberTrees.{subcomponent-is, is-subcomponent, connection-is, is-connection}
use Rattle.hamr_cli.proofs.DeclarationTrees.{import-is, is-import, typed, devices-are, are-devices, pair, system-are, bare-is, is-bare}

-- a model of these parts
abbrev made : List ℕ → List ℕ → List Device → ComponentType × Implementation → List ThinSubcomponent → List ThinConnection → ThinModel
made name end_name devices s subs conns = record {
  package_name = name;
  devices = devices;
  heading = heading_of s.0 s.1;
  subcomponents = subs;
  connections = conns;
  ending = record { implementation = implementation_name_of s.1.end_name; package_name = end_name };
}

with-is : {P : Type 0} (name end_name : List ℕ) (devices : List Device) (s : ComponentType × Implementation) (m : ThinModel) → model_with name end_name devices s ≡ Some m →
    ((subs : List ThinSubcomponent) (conns : List ThinConnection) → Each IsSubcomponent s.1.subcomponents subs → Each IsConnection s.1.connections conns → made name end_name devices s subs conns ≡ m → P) → P
unfolding model_with
with-is name end_name devices s m e k =
    option_and_then_some (λ subs. option_and_then (λ conns. Some (made name end_name devices s subs conns)) (all_of connection_of s.1.connections)) (all_of subcomponent_of s.1.subcomponents) m e (λ subs p q.
    option_and_then_some (λ conns. Some (made name end_name devices s subs conns)) (all_of connection_of s.1.connections) m q (λ conns r t.
    k subs conns (all-each subcomponent_of IsSubcomponent subcomponent-is s.1.subcomponents subs p) (all-each connection_of IsConnection connection-is s.1.connections conns r)
    (same_Some (made name end_name devices s subs conns) m t)))

declared-is : {P : Type 0} (name end_name : List ℕ) (ds : List Declaration) (m : ThinModel) → declared_model name end_name ds ≡ Some m →
    ((devices : List Device) (s : ComponentType × Implementation) → all_of device_in (take (system_place ds) ds) ≡ Some devices → system_in (drop (system_place ds) ds) ≡ Some s → model_with name end_name devices s ≡ Some m → P) → P
unfolding declared_model
declared-is name end_name ds m e k =
    option_and_then_some (λ devices. option_and_then (λ s. model_with name end_name devices s) (system_in (drop (system_place ds) ds))) (all_of device_in (take (system_place ds) ds)) m e (λ devices p q.
    option_and_then_some (λ s. model_with name end_name devices s) (system_in (drop (system_place ds) ds)) m q (λ s r t. k devices s p r t))

declarations-are : (p : Package) (i : Import) (name end_name : List ℕ) (m : ThinModel) → p.imports ≡ i ∷ [] → IsBaseImport i → plain_name p.name ≡ Some name → plain_name p.end_name ≡ Some end_name → declared_model name end_name p.declarations ≡ Some m → IsTree p m
declarations-are p i name end_name m only base own end e =
    declared-is name end_name p.declarations m e (λ devices s d y w.
    with-is name end_name devices s m w (λ subs conns inside joins same.
    let place = system_place p.declarations in
    let front = devices-are (take place p.declarations) devices d in
    let back = system-are (drop place p.declarations) s y in
    let bare = bare-is s.0 s.1 back.1 in
    subst (IsTree p) same (record {
      package_name = plain_name-is p.name name own;
      import = i;
      imports = only;
      is_base = base;
      types = front.0;
      system = s.0;
      implementation = s.1;
      declared = sym (take-append-drop place p.declarations) ∙ ap (λ l. l ++ drop place p.declarations) front.1 ∙ ap (λ l. typed front.0 ++ l) back.0;
      devices = front.2;
      is_system = record { system = bare.0; system_name = refl; no_features = bare.1; no_properties = bare.2; no_annexes = bare.3; end = refl };
      is_implementation = record { system = bare.4; own_name = record { type = refl; behind = refl }; inside = inside; joins = joins; no_properties = bare.5; no_annexes = bare.6; end = record { type = refl; behind = refl } };
      end = plain_name-is p.end_name end_name end;
    })))

-- a package that says a thin model is its tree
pub tree-of : (p : Package) (m : ThinModel) → model_of p ≡ Some m → IsTree p m
unfolding model_of
tree-of p m e =
    option_and_then_some (λ name. option_and_then (λ end_name. cond (imports_base p.imports) (declared_model name end_name p.declarations) None) (plain_name p.end_name)) (plain_name p.name) m e (λ name n q.
    option_and_then_some (λ end_name. cond (imports_base p.imports) (declared_model name end_name p.declarations) None) (plain_name p.end_name) m q (λ end_name o r.
    let i = if_some (imports_base p.imports) (declared_model name end_name p.declarations) m r in
    let import = import-is p.imports i.0 in
    declarations-are p import.0 name end_name m import.1 import.2 n o i.1))

-- the parts of a model, by the names in it
abbrev named : ThinModel → List ℕ → List ℕ → List ℕ → List ℕ → List ℕ → List ℕ → ThinModel
named m system system_end of own end_of end_own = record {
  package_name = m.package_name;
  devices = m.devices;
  heading = record { system = system; system_end = system_end; implementation = record { system = of; own = own } };
  subcomponents = m.subcomponents;
  connections = m.connections;
  ending = record { implementation = record { system = end_of; own = end_own }; package_name = m.ending.package_name };
}

made-is : (t : ComponentType) (i : Implementation) (m : ThinModel) → IsSystem t m → IsImplementation i m → made m.package_name m.ending.package_name m.devices (t, i) m.subcomponents m.connections ≡ m
made-is t i m is im =
    ap (λ n. named m n t.end_name.name i.name.component_type.name i.name.name i.end_name.component_type.name i.end_name.name) is.system_name
    ∙ ap (λ n. named m m.heading.system n i.name.component_type.name i.name.name i.end_name.component_type.name i.end_name.name) is.end
    ∙ ap (λ n. named m m.heading.system m.heading.system_end n i.name.name i.end_name.component_type.name i.end_name.name) im.own_name.type
    ∙ ap (λ n. named m m.heading.system m.heading.system_end m.heading.implementation.system n i.end_name.component_type.name i.end_name.name) im.own_name.behind
    ∙ ap (λ n. named m m.heading.system m.heading.system_end m.heading.implementation.system m.heading.implementation.own n i.end_name.name) im.end.type
    ∙ ap (λ n. named m m.heading.system m.heading.system_end m.heading.implementation.system m.heading.implementation.own m.ending.implementation.system n) im.end.behind

is-with : (t : ComponentType) (i : Implementation) (m : ThinModel) → IsSystem t m → IsImplementation i m → model_with m.package_name m.ending.package_name m.devices (t, i) ≡ Some m
unfolding model_with
is-with t i m is im =
    ap (λ o. option_and_then (λ subs. option_and_then (λ conns. Some (made m.package_name m.ending.package_name m.devices (t, i) subs conns)) (all_of connection_of i.connections)) o)
    (each-all subcomponent_of IsSubcomponent is-subcomponent i.subcomponents m.subcomponents im.inside)
    ∙ ap (λ o. option_and_then (λ conns. Some (made m.package_name m.ending.package_name m.devices (t, i) m.subcomponents conns)) o)
    (each-all connection_of IsConnection is-connection i.connections m.connections im.joins)
    ∙ ap (λ x. Some x) (made-is t i m is im)

is-declared : (p : Package) (m : ThinModel) → IsTree p m → declared_model m.package_name m.ending.package_name p.declarations ≡ Some m
unfolding declared_model
is-declared p m is =
    let front = typed is.types in
    let back = pair is.system is.implementation in
    let place : length (front ++ back) - 2 ≡ length front = omega (arith, length-append front back) in
    let taken : take (system_place p.declarations) p.declarations ≡ front =
    ap (λ l. take (length l - 2) l) is.declared ∙ ap (λ n. take n (front ++ back)) place ∙ take-append_seam front back in
    let dropped : drop (system_place p.declarations) p.declarations ≡ back =
    ap (λ l. drop (length l - 2) l) is.declared ∙ ap (λ n. drop n (front ++ back)) place ∙ drop-append_seam front back in
    let bare = is-bare is.system is.implementation (is.is_system.system, is.is_system.no_features, is.is_system.no_properties, is.is_system.no_annexes, is.is_implementation.system, is.is_implementation.no_properties, is.is_implementation.no_annexes) in
    ap (λ o. option_and_then (λ devices. option_and_then (λ s. model_with m.package_name m.ending.package_name devices s) (system_in (drop (system_place p.declarations) p.declarations))) o)
    (ap (all_of device_in) taken ∙ are-devices is.types m.devices is.devices)
    ∙ ap (λ o. option_and_then (λ s. model_with m.package_name m.ending.package_name m.devices s) o)
    (ap system_in dropped ∙ some_if (is_thin_system is.system is.implementation) (Some (is.system, is.implementation)) (is.system, is.implementation) bare refl)
    ∙ is-with is.system is.implementation m is.is_system is.is_implementation

-- the tree of a thin model says it
pub of-tree : (p : Package) (m : ThinModel) → IsTree p m → model_of p ≡ Some m
unfolding model_of
of-tree p m is =
    ap (λ o. option_and_then (λ name. option_and_then (λ end_name. cond (imports_base p.imports) (declared_model name end_name p.declarations) None) (plain_name p.end_name)) o) (is-plain_name p.name m.package_name is.package_name)
    ∙ ap (λ o. option_and_then (λ end_name. cond (imports_base p.imports) (declared_model m.package_name end_name p.declarations) None) o) (is-plain_name p.end_name m.ending.package_name is.end)
    ∙ some_if (imports_base p.imports) (declared_model m.package_name m.ending.package_name p.declarations) m (is-import p.imports is.import is.imports is.is_base) (is-declared p m is)
