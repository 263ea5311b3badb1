-- What the ports of a package say is what their trees are.
use Rattle.std.proofs.Common.{◌≡◌, ◌<◌, ◌^◌, ℕ, true, false, cond, not, ◌&&◌, ◌==◌, List, [], ◌∷◌, length, Option, Some, None, ap, ◌∙◌, refl, subst, codes}
use Rattle.std.specs.Prelude.{nat_lt, is_none}
use Rattle.std.specs.Option.{option_map, option_and_then}
use Rattle.std.proofs.lemmas.Bool.{and_parts, and_from, not-true, false≢true}
use Rattle.std.proofs.lemmas.Bool.Decides.{Decides-ltb}
use Rattle.std.proofs.lemmas.Option.{option_and_then_some, none-some, same_Some, cond_some}
use Rattle.hw_text.specs.declared.place.Place.{Place}
use Rattle.aadl_tree.specs.declared.association.Association.{Association}
use Rattle.aadl_tree.specs.declared.association.Operator.{Operator}
use Rattle.aadl_tree.specs.declared.association.Operator.TheVariants as operator
use Rattle.hw_text.specs.declared.base_type.BaseType.TheVariants as base
use Rattle.aadl_tree.specs.declared.class.Class.TheVariants as class
use Rattle.aadl_tree.specs.declared.feature.Direction.{Direction}
use Rattle.aadl_tree.specs.declared.feature.Direction.TheVariants as direction
use Rattle.aadl_tree.specs.declared.feature.Feature.{Feature}
use Rattle.aadl_tree.specs.declared.feature.PortKind.{PortKind}
use Rattle.aadl_tree.specs.declared.feature.PortKind.TheVariants as kind
use Rattle.aadl_tree.specs.declared.value.Sign.{Sign}
use Rattle.aadl_tree.specs.declared.value.Number.{Number}
use Rattle.aadl_tree.specs.declared.value.Number.TheVariants as number
use Rattle.aadl_tree.specs.declared.value.Quantity.{Quantity}
use Rattle.aadl_tree.specs.declared.value.PropertyValue.{PropertyValue, out-PropertyValue}
use Rattle.aadl_tree.specs.declared.value.PropertyValue.TheOpen.{PropertyValue-F}
use Rattle.aadl_tree.specs.declared.value.RecordField.{RecordField}
use Rattle.aadl_tree.specs.declared.value.PropertyValue.TheOpen as value
use Rattle.hamr_cli.specs.declared.thin.feature.Way.{Way}
use Rattle.hamr_cli.specs.declared.thin.feature.Way.TheVariants as way
use Rattle.hamr_cli.specs.declared.thin.feature.Feature.{Feature as ThinFeature}
use Rattle.hamr_cli.specs.Parts.{alone, is_word, is_thin_port, integer_in, quantity_in, size_in, is_set, is_plain, queue_size_of, queue_of, way_of, feature_of}
use Rattle.hamr_cli.specs.Tree.{IsQueueSize, direction_of, IsOwn, IsFeature}
use Rattle.hamr_cli.proofs.PartTrees.{alone-is, option_map_some, if_some, some_if, empty-is, is-empty, none-is, word-is, is-word}

-- base_types::integer_32
port-is : (k : PortKind) → is_thin_port k ≡ true → (place : Place) × (k ≡ kind.EventData (class.Base place base.Integer32))
port-is (kind.EventData (class.Base place base.Integer32)) e = (place, refl)
port-is _ e = absurd (false≢true e)

below-is : (m n : ℕ) → nat_lt m n ≡ true → m < n
below-is m n e = (Decides-ltb m n).0 e

is-below : (m n : ℕ) → m < n → nat_lt m n ≡ true
is-below m n h = (Decides-ltb m n).1 h

-- a number alone
abbrev plain_quantity : ℕ → Quantity
plain_quantity n = record { sign = None; number = number.Integer n; unit = None }

integer-is : (m : Number) (n : ℕ) → integer_in m ≡ Some n → (m ≡ number.Integer n) × (n < 2 ^ 32)
integer-is (number.Integer k) n e =
    let p = if_some (nat_lt k (2 ^ 32)) (Some k) n e in
    let same = same_Some k n p.1 in
    (ap (λ j. number.Integer j) same, subst (λ j. j < 2 ^ 32) same (below-is k (2 ^ 32) p.0))
integer-is (number.Real text) n e = absurd (none-some n e)

quantity-is : (q : Quantity) (n : ℕ) → quantity_in q ≡ Some n → (q ≡ plain_quantity n) × (n < 2 ^ 32)
quantity-is q n e =
    let made : Option Sign → Number → Option (List ℕ) → Quantity = λ s m u. record { sign = s; number = m; unit = u } in
    let p = if_some (is_none q.sign && is_none q.unit) (integer_in q.number) n e in
    let none = and_parts (is_none q.sign) (is_none q.unit) p.0 in
    let whole = integer-is q.number n p.1 in
    (ap (λ s. made s q.number q.unit) (none-is q.sign none.0) ∙ ap (λ m. made None m q.unit) whole.0 ∙ ap (λ u. made None (number.Integer n) u) (none-is q.unit none.1), whole.1)

size-is : (v : PropertyValue-F PropertyValue RecordField) (n : ℕ) → size_in v ≡ Some n → (v ≡ value.Quantity (plain_quantity n)) × (n < 2 ^ 32)
size-is (value.Quantity q) n e = let r = quantity-is q n e in (ap (λ p. value.Quantity p) r.0, r.1)
size-is _ n e = absurd (none-some n e)

is-size : (v : PropertyValue-F PropertyValue RecordField) (n : ℕ) → v ≡ value.Quantity (plain_quantity n) → n < 2 ^ 32 → size_in v ≡ Some n
is-size v n e small = ap size_in e ∙ some_if (nat_lt n (2 ^ 32)) (Some n) n (is-below n (2 ^ 32) small) refl

set-is : (o : Operator) → is_set o ≡ true → o ≡ operator.Set
set-is operator.Set e = refl
set-is operator.Append e = absurd (false≢true e)

plain-is : (a : Association) → is_plain a ≡ true → (a.operator ≡ operator.Set) × (a.constant ≡ false) × (a.others ≡ []) × (a.applies_to ≡ [])
plain-is a e =
    let p = and_parts (is_set a.operator) (not a.constant && ((length a.others == 0) && (length a.applies_to == 0))) e in
    let q = and_parts (not a.constant) ((length a.others == 0) && (length a.applies_to == 0)) p.1 in
    let r = and_parts (length a.others == 0) (length a.applies_to == 0) q.1 in
    (set-is a.operator p.0, not-true a.constant q.0, empty-is a.others r.0, empty-is a.applies_to r.1)

is-plain : (a : Association) → a.operator ≡ operator.Set → a.constant ≡ false → a.others ≡ [] → a.applies_to ≡ [] → is_plain a ≡ true
is-plain a o c others applies =
    and_from (is_set a.operator) (not a.constant && ((length a.others == 0) && (length a.applies_to == 0))) (ap is_set o)
    (and_from (not a.constant) ((length a.others == 0) && (length a.applies_to == 0)) (ap not c)
    (and_from (length a.others == 0) (length a.applies_to == 0) (is-empty a.others others) (is-empty a.applies_to applies)))

queue_size-is : (a : Association) (n : ℕ) → queue_size_of a ≡ Some n → IsQueueSize a n
queue_size-is a n e =
    let p = if_some (is_word (codes "queue_size") a.property && is_plain a) (size_in (out-PropertyValue a.first)) n e in
    let t = and_parts (is_word (codes "queue_size") a.property) (is_plain a) p.0 in
    let s = size-is (out-PropertyValue a.first) n p.1 in
    let q = plain-is a t.1 in
    record { property = word-is (codes "queue_size") a.property t.0; operator = q.0; constant = q.1; first = s.0; others = q.2; applies_to = q.3; bits = s.1 }

is-queue_size : (a : Association) (n : ℕ) → IsQueueSize a n → queue_size_of a ≡ Some n
is-queue_size a n is =
    some_if (is_word (codes "queue_size") a.property && is_plain a) (size_in (out-PropertyValue a.first)) n
    (and_from (is_word (codes "queue_size") a.property) (is_plain a) (is-word (codes "queue_size") a.property is.property)
    (is-plain a is.operator is.constant is.others is.applies_to)) (is-size (out-PropertyValue a.first) n is.first is.bits)

-- what is said of a port's braces, at an in port
abbrev InOwn : Option (List Association) → Way → Type 0
InOwn own w = (direction.In ≡ direction_of w) × IsOwn own w

queue-is : (own : List Association) (w : Way) → queue_of own ≡ Some w → InOwn (Some own) w
queue-is [] w e = absurd (none-some w e)
queue-is (a ∷ more) w e =
    option_and_then_some (λ only. option_map (λ size. way.Queued size) (queue_size_of only)) (alone a more) w e (λ only p q.
    option_map_some (λ size. way.Queued size) (queue_size_of only) w q (λ size m s.
    let l = alone-is a only more p in
    subst (InOwn (Some (a ∷ more))) s (refl, (a, ap (λ rest. Some (a ∷ rest)) l.1, queue_size-is a size (ap queue_size_of l.0 ∙ m)))))

way-is : (d : Direction) (own : Option (List Association)) (w : Way) → way_of d own ≡ Some w → (d ≡ direction_of w) × IsOwn own w
way-is direction.Out None w e = subst (λ v. (direction.Out ≡ direction_of v) × IsOwn None v) (same_Some way.Out w e) (refl, refl)
way-is direction.Out (Some own) w e = absurd (none-some w e)
way-is direction.In None w e = subst (InOwn None) (same_Some way.In w e) (refl, refl)
way-is direction.In (Some own) w e = queue-is own w e

is-way : (d : Direction) (own : Option (List Association)) (w : Way) → d ≡ direction_of w → IsOwn own w → way_of d own ≡ Some w
is-way d own way.Out e o = ap (λ x. way_of x own) e ∙ ap (way_of direction.Out) o
is-way d own way.In e o = ap (λ x. way_of x own) e ∙ ap (way_of direction.In) o
is-way d own (way.Queued size) e o =
    ap (λ x. way_of x own) e ∙ ap (way_of direction.In) o.1 ∙ ap (λ s. option_map (λ n. way.Queued n) s) (is-queue_size o.0 size o.2)

pub feature-is : (f : Feature) (g : ThinFeature) → feature_of f ≡ Some g → IsFeature f g
unfolding feature_of
feature-is f g e =
    let made : Way → ThinFeature = λ w. record { name = f.name.name; way = w } in
    option_and_then_some (λ w. cond (is_thin_port f.kind) (Some (made w)) None) (way_of f.direction f.own) g e (λ w p q.
    let r = cond_some (is_thin_port f.kind) (made w) g q in
    let ways = way-is f.direction f.own w p in
    subst (IsFeature f) r.1 (record { feature_name = refl; way = ways.0; type = port-is f.kind r.0; braces = ways.1 }))

pub is-feature : (f : Feature) (g : ThinFeature) → IsFeature f g → feature_of f ≡ Some g
unfolding feature_of
is-feature f g is =
    let made : List ℕ → Way → ThinFeature = λ n w. record { name = n; way = w } in
    ap (λ o. option_and_then (λ w. cond (is_thin_port f.kind) (Some (made f.name.name w)) None) o) (is-way f.direction f.own g.way is.way is.braces)
    ∙ some_if (is_thin_port f.kind) (Some (made f.name.name g.way)) g (ap is_thin_port is.type.1) (ap (λ n. Some (made n g.way)) is.feature_name)
