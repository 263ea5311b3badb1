-- What the declarations of a package say is what their trees are.
use Rattle.std.proofs.Common.{◌≡◌, true, ◌&&◌, ◌==◌, List, [], ◌∷◌, length, map, Some, ap, ◌∙◌, refl, subst}
use Rattle.std.specs.Prelude.{codes}
use Rattle.std.specs.Option.{option_map, option_and_then}
use Rattle.std.proofs.lemmas.Bool.{and_parts, and_from, false≢true}
use Rattle.std.proofs.lemmas.Option.{option_and_then_some, none-some, same_Some, cond_some}
use Rattle.aadl_tree.specs.declared.category.Category.{Category}
use Rattle.aadl_tree.specs.declared.category.Category.TheVariants as category
use Rattle.aadl_tree.specs.declared.component.ComponentType.{ComponentType}
use Rattle.aadl_tree.specs.declared.component.Implementation.{Implementation}
use Rattle.aadl_tree.specs.declared.package.Declaration.{Declaration}
use Rattle.aadl_tree.specs.declared.package.Declaration.TheVariants as declaration
use Rattle.aadl_tree.specs.declared.package.Import.{Import}
use Rattle.hamr_cli.specs.declared.thin.device.Device.{Device}
use Rattle.hamr_cli.specs.Parts.{all_of, is_word, device_of}
use Rattle.hamr_cli.specs.Package.{is_system, imports_base, device_in, is_thin_system, system_of, system_in}
use Rattle.hamr_cli.specs.Tree.{Each, IsDevice, IsBaseImport}
use Rattle.hamr_cli.proofs.PartTrees.{option_map_some, empty-is, is-empty, word-is, is-word}
use Rattle.hamr_cli.proofs.MemberTrees.{device-is, is-device}

-- the one import
pub import-is : (is : List Import) → imports_base is ≡ true → (i : Import) × (is ≡ i ∷ []) × IsBaseImport i
import-is [] e = absurd (false≢true e)
import-is (i ∷ more) e =
    let a = and_parts (is_word (codes "base_types") i.first) ((length i.others == 0) && (length more == 0)) e in
    let b = and_parts (length i.others == 0) (length more == 0) a.1 in
    (i, ap (λ l. i ∷ l) (empty-is more b.1), record { base = word-is (codes "base_types") i.first a.0; alone = empty-is i.others b.0 })

pub is-import : (is : List Import) (i : Import) → is ≡ i ∷ [] → IsBaseImport i → imports_base is ≡ true
is-import is i e b =
    ap imports_base e ∙ and_from (is_word (codes "base_types") i.first) ((length i.others == 0) && true) (is-word (codes "base_types") i.first b.base)
    (and_from (length i.others == 0) true (is-empty i.others b.alone) refl)

-- device types, as declarations
abbrev pub typed : List ComponentType → List Declaration
typed ts = map (λ t. declaration.Type t) ts

pub devices-are : (ds : List Declaration) (es : List Device) → all_of device_in ds ≡ Some es → (ts : List ComponentType) × (ds ≡ typed ts) × Each IsDevice ts es
devices-are [] es e = ([], refl, subst (Each IsDevice []) (same_Some [] es e) tt)
devices-are (declaration.Type t ∷ ds) es e =
    option_and_then_some (λ y. option_map (λ more. y ∷ more) (all_of device_in ds)) (device_of t) es e (λ y p q.
    option_map_some (λ more. y ∷ more) (all_of device_in ds) es q (λ more m s.
    let rest = devices-are ds more m in
    (t ∷ rest.0, ap (λ l. declaration.Type t ∷ l) rest.1, subst (Each IsDevice (t ∷ rest.0)) s (device-is t y p, rest.2))))
devices-are (declaration.Implementation i ∷ ds) es e = absurd (none-some es e)
devices-are (declaration.Annex a ∷ ds) es e = absurd (none-some es e)

pub are-devices : (ts : List ComponentType) (es : List Device) → Each IsDevice ts es → all_of device_in (typed ts) ≡ Some es
are-devices [] [] h = refl
are-devices [] (e ∷ es) h = absurd h
are-devices (t ∷ ts) [] h = absurd h
are-devices (t ∷ ts) (e ∷ es) h =
    ap (λ o. option_and_then (λ y. option_map (λ more. y ∷ more) (all_of device_in (typed ts))) o) (is-device t e h.0)
    ∙ ap (λ o. option_map (λ more. e ∷ more) o) (are-devices ts es h.1)

-- the system type and its implementation, as declarations
abbrev pub pair : ComponentType → Implementation → List Declaration
pair t i = declaration.Type t ∷ declaration.Implementation i ∷ []

-- these declarations are those of a thin system
abbrev pub IsPair : List Declaration → ComponentType × Implementation → Type 0
IsPair ds s = (ds ≡ pair s.0 s.1) × (is_thin_system s.0 s.1 ≡ true)

two-are : (d e : Declaration) (s : ComponentType × Implementation) → system_of d e ≡ Some s → IsPair (d ∷ e ∷ []) s
two-are (declaration.Type t) (declaration.Implementation i) s e =
    let r = cond_some (is_thin_system t i) (t, i) s e in subst (IsPair (pair t i)) r.1 (refl, r.0)
two-are _ _ s e = absurd (none-some s e)

pub system-are : (ds : List Declaration) (s : ComponentType × Implementation) → system_in ds ≡ Some s → IsPair ds s
system-are [] s e = absurd (none-some s e)
system-are (d ∷ []) s e = absurd (none-some s e)
system-are (d ∷ f ∷ []) s e = two-are d f s e
system-are (d ∷ f ∷ g ∷ ds) s e = absurd (none-some s e)

system-is : (c : Category) → is_system c ≡ true → c ≡ category.System
system-is category.System e = refl
system-is _ e = absurd (false≢true e)

-- a system type without features, and an implementation of a system
abbrev pub BareSystem : ComponentType → Implementation → Type 0
BareSystem t i =
    (t.category ≡ category.System) × (t.features ≡ []) × (t.properties ≡ []) × (t.annexes ≡ []) ×
    (i.category ≡ category.System) × (i.properties ≡ []) × (i.annexes ≡ [])

pub bare-is : (t : ComponentType) (i : Implementation) → is_thin_system t i ≡ true → BareSystem t i
bare-is t i e =
    let last = (length i.properties == 0) && (length i.annexes == 0) in
    let a = and_parts (is_system t.category) ((length t.features == 0) && ((length t.properties == 0) && ((length t.annexes == 0) && (is_system i.category && last)))) e in
    let b = and_parts (length t.features == 0) ((length t.properties == 0) && ((length t.annexes == 0) && (is_system i.category && last))) a.1 in
    let c = and_parts (length t.properties == 0) ((length t.annexes == 0) && (is_system i.category && last)) b.1 in
    let d = and_parts (length t.annexes == 0) (is_system i.category && last) c.1 in
    let f = and_parts (is_system i.category) last d.1 in
    let g = and_parts (length i.properties == 0) (length i.annexes == 0) f.1 in
    (system-is t.category a.0, empty-is t.features b.0, empty-is t.properties c.0, empty-is t.annexes d.0, system-is i.category f.0, empty-is i.properties g.0, empty-is i.annexes g.1)

pub is-bare : (t : ComponentType) (i : Implementation) → BareSystem t i → is_thin_system t i ≡ true
is-bare t i b =
    let last = (length i.properties == 0) && (length i.annexes == 0) in
    and_from (is_system t.category) ((length t.features == 0) && ((length t.properties == 0) && ((length t.annexes == 0) && (is_system i.category && last)))) (ap is_system b.0)
    (and_from (length t.features == 0) ((length t.properties == 0) && ((length t.annexes == 0) && (is_system i.category && last))) (is-empty t.features b.1)
    (and_from (length t.properties == 0) ((length t.annexes == 0) && (is_system i.category && last)) (is-empty t.properties b.2)
    (and_from (length t.annexes == 0) (is_system i.category && last) (is-empty t.annexes b.3)
    (and_from (is_system i.category) last (ap is_system b.4)
    (and_from (length i.properties == 0) (length i.annexes == 0) (is-empty i.properties b.5) (is-empty i.annexes b.6))))))
