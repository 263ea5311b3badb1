-- The marks in names and classifiers stand between names.
use Rattle.std.proofs.Common.{ℕ, List, [], ◌∷◌, ◌++◌, Option, Some, None, refl, subst}
use Rattle.std.proofs.lemmas.List.{append-nil}
use Rattle.std.specs.List.{flat_map}
use Rattle.aadl_tree.specs.declared.class.Class.{Class}
use Rattle.aadl_tree.specs.declared.class.Class.TheVariants.{Base, Model}
use Rattle.aadl_tree.specs.declared.mark.Mark.TheVariants as mark
use Rattle.aadl_tree.specs.declared.names.ImplementationName.{ImplementationName}
use Rattle.aadl_tree.specs.declared.names.Path.{Path}
use Rattle.aadl_tree.specs.declared.names.QualifiedName.{QualifiedName}
use Rattle.aadl_tree.specs.declared.token.Token.{Token}
use Rattle.aadl_tree.specs.declared.token.Token.TheVariants as token
use Rattle.aadl_tree.specs.Canonical.{behind_comma, behind_colons, behind_dot, maybe_behind_dot, qualified_tokens, path_tokens, implementation_name_tokens, class_tokens}
use Rattle.aadl_tree.proofs.Apart.{AreBehind, AreApart, loose-then, all-apart}

-- names behind colons and then what may stand behind a name
behind-colons : (n : List ℕ) (ns : List (List ℕ)) (us : List Token) → ((m : List ℕ) → AreBehind (token.Name m) us) → AreBehind (token.Name n) (flat_map behind_colons ns ++ us)
behind-colons n [] us more = more n
behind-colons n (m ∷ ns) us more = (refl, (refl, behind-colons m ns us more))

behind-dots : (n : List ℕ) (ns : List (List ℕ)) → AreBehind (token.Name n) (flat_map behind_dot ns)
behind-dots n [] = refl
behind-dots n (m ∷ ns) = (refl, (refl, behind-dots m ns))

pub behind-dot : (n : List ℕ) (o : Option (List ℕ)) → AreBehind (token.Name n) (maybe_behind_dot o)
behind-dot n None = refl
behind-dot n (Some m) = (refl, (refl, refl))

pub qualified-apart : (q : QualifiedName) → AreApart (qualified_tokens q)
unfolding qualified_tokens
qualified-apart q =
    (refl, subst (λ (ts : List Token). AreBehind (token.Name q.first.name) ts) (append-nil (flat_map behind_colons q.others)) (behind-colons q.first.name q.others [] (λ m. refl)))

pub path-apart : (p : Path) → AreApart (path_tokens p)
unfolding path_tokens
path-apart p = (refl, behind-dots p.first.name p.others)

pub implementation_name-apart : (n : ImplementationName) → AreApart (implementation_name_tokens n)
implementation_name-apart n = (refl, (refl, (refl, refl)))

pub class-apart : (c : Class) → AreApart (class_tokens c)
class-apart (Base at base) = (refl, (refl, (refl, refl)))
class-apart (Model m) = (refl, behind-colons m.first.name m.others (maybe_behind_dot m.implementation) (λ n. behind-dot n m.implementation))

-- further ones behind commas
module _ {X : Type 0} (tokens : X → List Token) (each : (x : X) → AreApart (tokens x)) where
  pub further-apart : (xs : List X) → AreApart (flat_map (behind_comma tokens) xs)
  further-apart xs = all-apart (behind_comma tokens) (λ x. loose-then (token.Mark mark.Comma) (tokens x) refl (each x)) xs
