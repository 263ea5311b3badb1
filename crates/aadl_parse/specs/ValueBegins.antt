-- How the texts of values begin.
use Rattle.std.specs.Prelude.{◌≡◌, ℕ, true, List, [], ◌∷◌, ◌++◌, codes}
use Rattle.std.proofs.Common.{Bool, false, ◌||◌, refl, ap, ◌∙◌, inl, inr}
use Rattle.hw_text.specs.declared.placed.Placed.{Placed}
use Rattle.hw_text.specs.Reading.{begins, Begins}
use Rattle.aadl_tree.specs.declared.token.Token.{Token}
use Rattle.aadl_tree.specs.declared.value.PropertyValue.{PropertyValue}
use Rattle.aadl_parse.specs.Shapes.{one_of, symbol_of}
use Rattle.aadl_parse.specs.Laws.{begins-append, begins-either-left, two-begins, made-begins, one-begins, symbol-shaped}
use Rattle.aadl_parse.specs.SimpleValue.{Symbol, SpellsSimple, simple_starts, value_starts, simple-begun, a_simple}
use Rattle.aadl_parse.specs.ValueText.{SpellsValue}
use Rattle.aadl_parse.specs.ValueForms.{list_of, set_of, ListForm, SetForm, ValueForm, opened, shut}

begins-right : {X : Type 0} (A : X → List (Placed Token) → Type 0) (xs ys : List (List ℕ)) → Begins (one_of ys) true A → Begins (one_of (xs ++ ys)) true A
begins-right A xs ys is x w m text = begins-append xs ys (w ++ m) ∙ ap (λ (b : Bool). begins (one_of xs) (w ++ m) || b) (is x w m text) ∙ or_true (begins (one_of xs) (w ++ m))
  where
    or_true : (b : Bool) → (b || true) ≡ true
    or_true true = refl
    or_true false = refl

pub symbol-begins : (text : List ℕ) → Begins (one_of (text ∷ [])) true (Symbol text)
symbol-begins text = one-begins (symbol_of text) (text ∷ []) (symbol-shaped text)

abbrev pub opening : List (List ℕ)
opening = codes "(" ∷ []

abbrev pub bracket : List (List ℕ)
bracket = codes "[" ∷ []

pub list-begins : Begins (one_of opening) true ListForm
list-begins = made-begins _ list_of opening (two-begins _ _ opening (symbol-begins (codes "(")))

pub set-begins : Begins (one_of bracket) true SetForm
set-begins = made-begins _ set_of bracket (two-begins _ _ bracket (symbol-begins (codes "[")))

pub value-begun : Begins (one_of value_starts) true SpellsValue
value-begun v w m text = either v w m (opened v w text)
  where
    either : (v : PropertyValue) (w m : List (Placed Token)) → ValueForm v w → begins (one_of value_starts) (w ++ m) ≡ true
    either v w m (inl a) = begins-right SpellsSimple opening (bracket ++ simple_starts) (begins-right SpellsSimple bracket simple_starts simple-begun) v w m a
    either v w m (inr (inl a)) = begins-either-left ListForm opening (bracket ++ simple_starts) list-begins v w m a
    either v w m (inr (inr a)) = begins-right SetForm opening (bracket ++ simple_starts) (begins-either-left SetForm bracket simple_starts set-begins) v w m a

-- one of them
pub a_value : (v : PropertyValue) × (w : List (Placed Token)) × SpellsValue v w
a_value = (a_simple.0, a_simple.1, shut a_simple.0 a_simple.1 (inl a_simple.2))
