-- What the devices, subcomponents and connections of a package say is what their trees are.
use Rattle.std.proofs.Common.{◌≡◌, ℕ, true, cond, ◌&&◌, ◌==◌, List, length, Some, None, ap, ◌∙◌, refl, subst}
use Rattle.std.specs.Prelude.{is_none}
use Rattle.std.specs.Option.{option_map, option_and_then}
use Rattle.std.proofs.lemmas.Bool.{and_parts, and_from, false≢true}
use Rattle.std.proofs.lemmas.Option.{option_and_then_some, none-some, cond_some}
use Rattle.aadl_tree.specs.declared.category.Category.{Category}
use Rattle.aadl_tree.specs.declared.category.Category.TheVariants as category
use Rattle.aadl_tree.specs.declared.class.Class.{Class}
use Rattle.aadl_tree.specs.declared.class.Class.TheVariants as class
use Rattle.aadl_tree.specs.declared.component.ComponentType.{ComponentType}
use Rattle.aadl_tree.specs.declared.connection.Connection.{Connection}
use Rattle.aadl_tree.specs.declared.connection.ConnectionEnd.{ConnectionEnd}
use Rattle.aadl_tree.specs.declared.subcomponent.Subcomponent.{Subcomponent}
use Rattle.hamr_cli.specs.declared.thin.feature.Feature.{Feature as ThinFeature}
use Rattle.hamr_cli.specs.declared.thin.device.Device.{Device}
use Rattle.hamr_cli.specs.declared.thin.subcomponent.Subcomponent.{Subcomponent as ThinSubcomponent}
use Rattle.hamr_cli.specs.declared.thin.connection.Tip.{Tip}
use Rattle.hamr_cli.specs.declared.thin.connection.Connection.{Connection as ThinConnection}
use Rattle.hamr_cli.specs.Parts.{alone, all_of, is_device, is_bare_device, feature_of, device_of, type_name, subcomponent_of, tip_of, connection_of}
use Rattle.hamr_cli.specs.Tree.{IsFeature, IsDevice, IsTypeName, IsSubcomponent, IsTip, IsConnection}
use Rattle.hamr_cli.proofs.PartTrees.{alone-is, is-alone, option_map_some, if_some, some_if, empty-is, is-empty, none-is, is-none, all-each, each-all}
use Rattle.hamr_cli.proofs.FeatureTrees.{feature-is, is-feature}

category-is : (c : Category) → is_device c ≡ true → c ≡ category.Device
category-is category.Device e = refl
category-is _ e = absurd (false≢true e)

pub device-is : (t : ComponentType) (d : Device) → device_of t ≡ Some d → IsDevice t d
unfolding device_of
device-is t d e =
    let made : List ThinFeature → Device = λ fs. record { name = t.name.name; features = fs; end_name = t.end_name.name } in
    option_and_then_some (λ fs. cond (is_bare_device t) (Some (made fs)) None) (all_of feature_of t.features) d e (λ fs p q.
    let r = cond_some (is_bare_device t) (made fs) d q in
    let a = and_parts (is_device t.category) ((length t.properties == 0) && (length t.annexes == 0)) r.0 in
    let b = and_parts (length t.properties == 0) (length t.annexes == 0) a.1 in
    subst (IsDevice t) r.1 (record {
      device = category-is t.category a.0;
      device_name = refl;
      members = all-each feature_of IsFeature feature-is t.features fs p;
      no_properties = empty-is t.properties b.0;
      no_annexes = empty-is t.annexes b.1;
      end = refl;
    }))

pub is-device : (t : ComponentType) (d : Device) → IsDevice t d → device_of t ≡ Some d
unfolding device_of
is-device t d is =
    let made : List ℕ → List ThinFeature → List ℕ → Device = λ n fs m. record { name = n; features = fs; end_name = m } in
    let bare = and_from (is_device t.category) ((length t.properties == 0) && (length t.annexes == 0)) (ap is_device is.device)
    (and_from (length t.properties == 0) (length t.annexes == 0) (is-empty t.properties is.no_properties) (is-empty t.annexes is.no_annexes)) in
    ap (λ o. option_and_then (λ fs. cond (is_bare_device t) (Some (made t.name.name fs t.end_name.name)) None) o)
    (each-all feature_of IsFeature is-feature t.features d.features is.members)
    ∙ some_if (is_bare_device t) (Some (made t.name.name d.features t.end_name.name)) d bare
    (ap (λ n. Some (made n d.features t.end_name.name)) is.device_name ∙ ap (λ m. Some (made d.name d.features m)) is.end)

type-is : (c : Class) (name : List ℕ) → type_name c ≡ Some name → IsTypeName c name
type-is (class.Base place b) name e = none-some name e
type-is (class.Model c) name e =
    let p = if_some (is_none c.implementation) (alone c.first.name c.others) name e in
    let a = alone-is c.first.name name c.others p.1 in
    (a.0, a.1, none-is c.implementation p.0)

is-type : (c : Class) (name : List ℕ) → IsTypeName c name → type_name c ≡ Some name
is-type (class.Base place b) name h = absurd h
is-type (class.Model c) name h =
    some_if (is_none c.implementation) (alone c.first.name c.others) name (is-none c.implementation h.2) (is-alone c.first.name name c.others h.0 h.1)

pub subcomponent-is : (s : Subcomponent) (t : ThinSubcomponent) → subcomponent_of s ≡ Some t → IsSubcomponent s t
unfolding subcomponent_of
subcomponent-is s t e =
    let made : List ℕ → ThinSubcomponent = λ d. record { name = s.name.name; device = d } in
    let test = is_device s.category && is_none s.own in
    option_and_then_some (λ d. cond test (Some (made d)) None) (type_name s.class) t e (λ d p q.
    let r = cond_some test (made d) t q in
    let a = and_parts (is_device s.category) (is_none s.own) r.0 in
    subst (IsSubcomponent s) r.1 (record { own_name = refl; device = category-is s.category a.0; type = type-is s.class d p; braces = none-is s.own a.1 }))

pub is-subcomponent : (s : Subcomponent) (t : ThinSubcomponent) → IsSubcomponent s t → subcomponent_of s ≡ Some t
unfolding subcomponent_of
is-subcomponent s t is =
    let made : List ℕ → List ℕ → ThinSubcomponent = λ n d. record { name = n; device = d } in
    let test = is_device s.category && is_none s.own in
    ap (λ o. option_and_then (λ d. cond test (Some (made s.name.name d)) None) o) (is-type s.class t.device is.type)
    ∙ some_if test (Some (made s.name.name t.device)) t (and_from (is_device s.category) (is_none s.own) (ap is_device is.device) (is-none s.own is.braces))
    (ap (λ n. Some (made n t.device)) is.own_name)

tip-is : (c : ConnectionEnd) (t : Tip) → tip_of c ≡ Some t → IsTip c t
tip-is c t e =
    let made : List ℕ → Tip = λ p. record { component = c.first.name; port = p } in
    option_map_some made c.port t e (λ p q s. subst (IsTip c) s (record { at = refl; behind = q }))

is-tip : (c : ConnectionEnd) (t : Tip) → IsTip c t → tip_of c ≡ Some t
is-tip c t is =
    let made : List ℕ → List ℕ → Tip = λ n p. record { component = n; port = p } in
    ap (λ o. option_map (made c.first.name) o) is.behind ∙ ap (λ n. Some (made n t.port)) is.at

pub connection-is : (c : Connection) (d : ThinConnection) → connection_of c ≡ Some d → IsConnection c d
unfolding connection_of
connection-is c d e =
    let made : Tip → Tip → ThinConnection = λ f t. record { name = c.name.name; from = f; to = t } in
    option_and_then_some (λ f. option_and_then (λ t. cond (is_none c.own) (Some (made f t)) None) (tip_of c.to)) (tip_of c.from) d e (λ f p q.
    option_and_then_some (λ t. cond (is_none c.own) (Some (made f t)) None) (tip_of c.to) d q (λ t r s.
    let u = cond_some (is_none c.own) (made f t) d s in
    subst (IsConnection c) u.1 (record { own_name = refl; source = tip-is c.from f p; target = tip-is c.to t r; braces = none-is c.own u.0 })))

pub is-connection : (c : Connection) (d : ThinConnection) → IsConnection c d → connection_of c ≡ Some d
unfolding connection_of
is-connection c d is =
    let made : List ℕ → Tip → Tip → ThinConnection = λ n f t. record { name = n; from = f; to = t } in
    ap (λ o. option_and_then (λ f. option_and_then (λ t. cond (is_none c.own) (Some (made c.name.name f t)) None) (tip_of c.to)) o) (is-tip c.from d.from is.source)
    ∙ ap (λ o. option_and_then (λ t. cond (is_none c.own) (Some (made c.name.name d.from t)) None) o) (is-tip c.to d.to is.target)
    ∙ some_if (is_none c.own) (Some (made c.name.name d.from d.to)) d (is-none c.own is.braces) (ap (λ n. Some (made n d.from d.to)) is.own_name)
