-- The canonical tokens of names and classifiers spell them.
use Rattle.std.proofs.Common.{◌≡◌, inl, inr, ℕ, List, [], ◌∷◌, codes, Option, Some, None, refl, ap}
use Rattle.std.specs.List.{flat_map}
use Rattle.std.specs.Option.{option_map}
use Rattle.hw_text.specs.declared.place.Place.{Place}
use Rattle.hw_text.specs.declared.placed.Placed.{Placed}
use Rattle.hw_text.specs.Language.{One, ◌⋅◌, Maybe, Each, Made}
use Rattle.hw_text.specs.declared.base_type.BaseType.{BaseType}
use Rattle.aadl_tree.specs.declared.class.Class.{Class}
use Rattle.aadl_tree.specs.declared.class.Class.TheVariants.{Base, Model}
use Rattle.aadl_tree.specs.declared.class.ModelClass.{ModelClass}
use Rattle.aadl_tree.specs.declared.class_name.ClassName.{ClassName}
use Rattle.aadl_tree.specs.declared.mark.Mark.TheVariants as mark
use Rattle.aadl_tree.specs.declared.names.Named.{Named}
use Rattle.aadl_tree.specs.declared.names.Path.{Path}
use Rattle.aadl_tree.specs.declared.names.QualifiedName.{QualifiedName}
use Rattle.aadl_tree.specs.declared.token.Token.{Token}
use Rattle.aadl_tree.specs.declared.token.Token.TheVariants as token
use Rattle.aadl_tree.specs.Canonical.{behind_colons, behind_dot, maybe_behind_dot, qualified_tokens, path_tokens, base_tokens, class_tokens}
use Rattle.hw_text.specs.BaseTypes.{base_name, base_named}
use Rattle.hw_text.proofs.BaseNames.{named_own}
use Rattle.aadl_tree.specs.Unplaced.{origin, unplaced_named, unplaced_qualified, unplaced_path, unplaced_class}
use Rattle.aadl_tree.proofs.OwnNames.{own_name_of}
use Rattle.aadl_parse.specs.Choice.{First, Second}
use Rattle.aadl_parse.specs.SimpleValue.{Symbol, name_behind, qualified_of, SpellsQualified, path_of, SpellsPath, base_class_of, model_class_of, SpellsClass}
use Rattle.aadl_parse.specs.Terminals.{named_of, name_of, base_package_of, class_name_of, base_of}
use Rattle.aadl_parse.proofs.Respelled.{Spelled, then, made, one, symbol, not-there-plain, there-plain, each-plain}

pub named : (n : Named) → Spelled (One named_of) unplaced_named (unplaced_named n) (token.Name n.name ∷ [])
named n = one named_of unplaced_named (unplaced_named n) (token.Name n.name) (λ at. record { name = n.name; place = at }) (λ at. refl) (λ at. refl)

pub plain_name : (n : List ℕ) → Spelled (One name_of) (λ m. m) n (token.Name n ∷ [])
plain_name n = one name_of (λ m. m) n (token.Name n) (λ at. n) (λ at. refl) (λ at. refl)

abbrev BehindColons : List ℕ → List (Placed Token) → Type 0
BehindColons = Made name_behind (Symbol (codes "::") ⋅ One name_of)

abbrev pub BehindDot : List ℕ → List (Placed Token) → Type 0
BehindDot = Made name_behind (Symbol (codes ".") ⋅ One name_of)

colons : (n : List ℕ) → Spelled BehindColons (λ m. m) n (behind_colons n)
colons n =
    made name_behind (Symbol (codes "::") ⋅ One name_of) (λ p. (p.0, p.1)) (λ m. m) (tt, n) (behind_colons n) (λ p. refl)
    (then (Symbol (codes "::")) (One name_of) (λ u. u) (λ m. m) tt n (token.Mark mark.DoubleColon ∷ []) (token.Name n ∷ []) (symbol (codes "::") (token.Mark mark.DoubleColon) (λ at. refl)) (plain_name n))

pub dot : (n : List ℕ) → Spelled BehindDot (λ m. m) n (behind_dot n)
dot n =
    made name_behind (Symbol (codes ".") ⋅ One name_of) (λ p. (p.0, p.1)) (λ m. m) (tt, n) (behind_dot n) (λ p. refl)
    (then (Symbol (codes ".")) (One name_of) (λ u. u) (λ m. m) tt n (token.Mark mark.Dot ∷ []) (token.Name n ∷ []) (symbol (codes ".") (token.Mark mark.Dot) (λ at. refl)) (plain_name n))

pub maybe_dot : (o : Option (List ℕ)) → Spelled (Maybe BehindDot) (λ m. m) o (maybe_behind_dot o)
maybe_dot None = not-there-plain BehindDot
maybe_dot (Some n) = there-plain BehindDot n (behind_dot n) (dot n)

pub qualified : (q : QualifiedName) → Spelled SpellsQualified unplaced_qualified (unplaced_qualified q) (qualified_tokens q)
unfolding qualified_tokens
qualified q =
    made qualified_of (One named_of ⋅ Each BehindColons) (λ p. (unplaced_named p.0, p.1)) unplaced_qualified (unplaced_named q.first, q.others) (qualified_tokens q) (λ p. refl)
    (then (One named_of) (Each BehindColons) unplaced_named (λ l. l) (unplaced_named q.first) q.others (token.Name q.first.name ∷ []) (flat_map behind_colons q.others)
    (named q.first) (each-plain BehindColons behind_colons colons q.others))

pub path : (p : Path) → Spelled SpellsPath unplaced_path (unplaced_path p) (path_tokens p)
unfolding path_tokens
path p =
    made path_of (One named_of ⋅ Each BehindDot) (λ q. (unplaced_named q.0, q.1)) unplaced_path (unplaced_named p.first, p.others) (path_tokens p) (λ q. refl)
    (then (One named_of) (Each BehindDot) unplaced_named (λ l. l) (unplaced_named p.first) p.others (token.Name p.first.name ∷ []) (flat_map behind_dot p.others)
    (named p.first) (each-plain BehindDot behind_dot dot p.others))

base-named : (b : BaseType) → base_named (base_name b) ≡ Some b
base-named b = named_own (base_name b) b refl

base-class : (at : Place) (b : BaseType) → Spelled (Made base_class_of (One base_package_of ⋅ (Symbol (codes "::") ⋅ One base_of))) unplaced_class (Base origin b) (base_tokens b)
base-class at b =
    made base_class_of (One base_package_of ⋅ (Symbol (codes "::") ⋅ One base_of)) (λ p. (origin, (p.1.0, p.1.1))) unplaced_class (origin, (tt, b)) (base_tokens b) (λ p. refl)
    (then (One base_package_of) (Symbol (codes "::") ⋅ One base_of) (λ at. origin) (λ p. (p.0, p.1)) origin (tt, b) (token.Name (codes "base_types") ∷ []) (token.Mark mark.DoubleColon ∷ token.Name (base_name b) ∷ [])
    (one base_package_of (λ at. origin) origin (token.Name (codes "base_types")) (λ at. at) (λ at. refl) (λ at. refl))
    (then (Symbol (codes "::")) (One base_of) (λ u. u) (λ x. x) tt b (token.Mark mark.DoubleColon ∷ []) (token.Name (base_name b) ∷ [])
    (symbol (codes "::") (token.Mark mark.DoubleColon) (λ at. refl)) (one base_of (λ x. x) b (token.Name (base_name b)) (λ at. b) (λ at. base-named b) (λ at. refl))))

own-name : (c : ClassName) → Spelled (One class_name_of) (λ p. (p.0, origin)) (c, origin) (token.Name c.name ∷ [])
own-name c =
    one class_name_of (λ p. (p.0, origin)) (c, origin) (token.Name c.name) (λ at. (c, at)) (λ at. ap (λ (o : Option ClassName). option_map (λ own. (own, at)) o) (own_name_of c)) (λ at. refl)

model-class : (m : ModelClass) → Spelled (Made model_class_of ((One class_name_of ⋅ Each BehindColons) ⋅ Maybe BehindDot)) unplaced_class (unplaced_class (Model m)) (class_tokens (Model m))
model-class m =
    made model_class_of ((One class_name_of ⋅ Each BehindColons) ⋅ Maybe BehindDot) (λ p. (((p.0.0.0, origin), p.0.1), p.1)) unplaced_class (((m.first, origin), m.others), m.implementation) (class_tokens (Model m)) (λ p. refl)
    (then (One class_name_of ⋅ Each BehindColons) (Maybe BehindDot) (λ p. ((p.0.0, origin), p.1)) (λ o. o) ((m.first, origin), m.others) m.implementation
    (token.Name m.first.name ∷ flat_map behind_colons m.others) (maybe_behind_dot m.implementation)
    (then (One class_name_of) (Each BehindColons) (λ p. (p.0, origin)) (λ l. l) (m.first, origin) m.others (token.Name m.first.name ∷ []) (flat_map behind_colons m.others)
    (own-name m.first) (each-plain BehindColons behind_colons colons m.others)) (maybe_dot m.implementation))

pub class : (c : Class) → Spelled SpellsClass unplaced_class (unplaced_class c) (class_tokens c)
class (Base at b) = λ ts e.
    let p = base-class at b ts e in
    (p.0, (First p.0, refl, inl (p.0, refl, p.1)), p.2)
class (Model m) = λ ts e.
    let p = model-class m ts e in
    (p.0, (Second p.0, refl, inr (p.0, refl, p.1)), p.2)
