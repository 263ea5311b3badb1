-- Tokens that stand for a value or a word: behind none of them begins an expression, and none of them ends one.
use Rattle.std.proofs.Common.{map, ◌||◌, List, ◌≡◌, ◌∙◌, refl, sym, ap, subst, ℕ, ◌≤◌, ◌++◌, [], ◌∷◌, length, Bool, true, false, Option, inl, inr, arith}
use Rattle.std.proofs.lemmas.Bool.{false≢true}
use Rattle.hw_text.specs.Language.{One}
use Rattle.hw_text.specs.declared.place.Place.{Place}
use Rattle.hw_text.specs.declared.placed.Placed.{Placed}
use Rattle.c_tree.specs.declared.identifier.Identifier.{Identifier}
use Rattle.c_tree.specs.declared.integer_type.IntegerType.{IntegerType}
use Rattle.c_tree.specs.declared.named.Named.{Named}
use Rattle.c_tree.specs.declared.named.Literal.{Literal}
use Rattle.c_tree.specs.declared.type_name.TypeName.{TypeName}
use Rattle.c_parse.specs.declared.keyword.Keyword.{Keyword}
use Rattle.c_parse.specs.declared.keyword.Keyword.TheVariants as keyword
use Rattle.c_parse.specs.declared.mark.Mark.{Mark}
use Rattle.c_parse.specs.declared.mark.Mark.TheVariants as mark
use Rattle.c_parse.specs.declared.token.Token.{Token}
use Rattle.c_parse.specs.declared.token.Token.TheVariants as token
use Rattle.c_parse.specs.Nesting.{opens, closes, ends, leads}
use Rattle.c_parse.specs.Values.{Tokens, again_of, literal_of, zero_of, integer_of, truth_of}
use Rattle.c_parse.specs.ExpressionGrammar.{Sign, Name}
use Rattle.c_parse.specs.CallGrammar.{Word, SpellsType}
use Rattle.c_parse.proofs.Enclosed.{Closed, Plain, plain-closed, moved, bracket_shapes, is_bracket, neither, plain-of}
use Rattle.c_parse.proofs.Explained.{Led, Ended, IsExplained, Explained}
use Rattle.c_parse.proofs.MarkTokens.{mark-token}
use Rattle.hw_text.specs.Reading.{begins}
use Rattle.c_parse.proofs.Shapes.{is_disjoint, apart, among}
use Rattle.c_parse.proofs.TokenShapes.{Means, Starts, by_kinds, sign_shape, word_shape, a_name, a_literal, an_integer, a_truth, this_word, of_kind, again_starts, zero_starts}

-- one token, which neither opens, closes nor ends anything, and behind which no expression begins
abbrev pub IsLeaf : Tokens → Type 0
IsLeaf ws = (t : Placed Token) × (ws ≡ t ∷ []) × Plain t.token × (leads t.token ≡ false)

pub leaf-closed : (ws : Tokens) → IsLeaf ws → Closed ws
leaf-closed ws leaf = moved ws (leaf.0 ∷ []) leaf.1 (plain-closed leaf.0 leaf.2)

-- a text of one token has one
pub one-length : {X : Type 0} (of : Placed Token → Option X) (x : X) (ws : Tokens) → One of x ws → length ws ≤ 1
one-length of x ws text = omega (arith, ap {B = ℕ} (λ (l : Tokens). length l) text.1)

pub leaf-length : (ws : Tokens) → IsLeaf ws → length ws ≤ 1
leaf-length ws leaf = omega (arith, ap {B = ℕ} (λ (l : Tokens). length l) leaf.1)

pub unled-explained : (t : Placed Token) (ws b a : Tokens) → ws ≡ t ∷ [] → leads t.token ≡ false → Explained b ws a
unled-explained t ws b a is unled = subst (λ (l : Tokens). Explained b l a) (sym is) (λ leading. absurd (false≢true (sym unled ∙ leading)), tt)

pub leaf-explained : (ws b a : Tokens) → IsLeaf ws → Explained b ws a
leaf-explained ws b a leaf = unled-explained leaf.0 ws b a leaf.1 leaf.3

pub led-explained : (t : Placed Token) (ws b a : Tokens) → ws ≡ t ∷ [] → IsExplained (b ++ ws) a → Explained b ws a
led-explained t ws b a is explained =
    subst (λ (l : Tokens). Explained b l a) (sym is) (λ leading. subst (λ (l : Tokens). IsExplained (b ++ l) a) is explained, tt)

module _ (m : Mark) (p : Place) (ws : Tokens) (text : Sign m p ws) where
  sign-is : text.0.token ≡ token.Mark m
  sign-is = mark-token m text.0 p text.2

  pub sign-leaf : Plain (token.Mark m) → leads (token.Mark m) ≡ false → IsLeaf ws
  sign-leaf plain unled = (text.0, text.1, (ap opens sign-is ∙ plain.0, ap closes sign-is ∙ plain.1, ap ends sign-is ∙ plain.2), ap leads sign-is ∙ unled)

  pub sign-unled : leads (token.Mark m) ≡ false → (b a : Tokens) → Explained b ws a
  sign-unled unled b a = unled-explained text.0 ws b a text.1 (ap leads sign-is ∙ unled)

  pub sign-explained : (b a : Tokens) → IsExplained (b ++ ws) a → Explained b ws a
  sign-explained b a = led-explained text.0 ws b a text.1

  pub sign-led : leads (token.Mark m) ≡ true → (b : Tokens) → Led (b ++ ws)
  sign-led led b = (b, text.0, ap (λ (l : Tokens). b ++ l) text.1, ap leads sign-is ∙ led)

  pub sign-ended : ends (token.Mark m) ≡ true → (a : Tokens) → Ended (ws ++ a)
  sign-ended ended a = (text.0, a, ap (λ (l : Tokens). l ++ a) text.1, ap ends sign-is ∙ ended)

-- what is no leaf
abbrev busy_shapes : List (List ℕ)
busy_shapes = sign_shape mark.Assign ∷ word_shape keyword.Return ∷ bracket_shapes

abbrev is_busy : Placed Token → Bool
is_busy t = is_bracket t || leads t.token

busy : Means is_busy busy_shapes
busy = by_kinds is_busy busy_shapes (λ p. refl) (λ p. refl) (λ n p. refl) (λ n p. refl) (λ n p. refl)

leaf_of : {X : Type 0} {value : Placed Token → Option X} {zs : List (List ℕ)} → Starts zs (One value) → is_disjoint zs busy_shapes ≡ true → (x : X) (ws : Tokens) → One value x ws → IsLeaf ws
leaf_of so none x ws text =
    let t = text.0 in
    let both = neither (is_bracket t) (leads t.token) (ap (λ (l : Tokens). begins is_busy (l ++ [])) (sym text.1) ∙ apart busy so none x ws [] text) in
    (t, text.1, plain-of t both.0, both.1)

pub name-leaf : (x : Named) (ws : Tokens) → Name x ws → IsLeaf ws
name-leaf = leaf_of (of_kind a_name) refl

pub again-leaf : (n : Identifier) (p : Place) (ws : Tokens) → One (again_of n) p ws → IsLeaf ws
again-leaf n = leaf_of (again_starts n) refl

pub literal-leaf : (x : Literal) (ws : Tokens) → One literal_of x ws → IsLeaf ws
literal-leaf = leaf_of (of_kind a_literal) refl

pub zero-leaf : (p : Place) (ws : Tokens) → One zero_of p ws → IsLeaf ws
zero-leaf = leaf_of zero_starts refl

pub integer-leaf : (x : Place × IntegerType) (ws : Tokens) → One integer_of x ws → IsLeaf ws
integer-leaf = leaf_of (of_kind an_integer) refl

pub truth-leaf : (x : Place × Bool) (ws : Tokens) → One truth_of x ws → IsLeaf ws
truth-leaf = leaf_of (of_kind a_truth) refl

-- a word other than `return`
pub word-leaf : (w : Keyword) → is_disjoint (word_shape w ∷ []) busy_shapes ≡ true → (p : Place) (ws : Tokens) → Word w p ws → IsLeaf ws
word-leaf w other = leaf_of (of_kind (this_word w)) other

abbrev leads_on : Placed Token → Bool
leads_on t = leads t.token

a_lead : Means leads_on (word_shape keyword.Return ∷ map sign_shape (mark.Assign ∷ mark.OpenParenthesis ∷ mark.OpenBracket ∷ mark.Comma ∷ []))
a_lead = by_kinds leads_on (word_shape keyword.Return ∷ map sign_shape (mark.Assign ∷ mark.OpenParenthesis ∷ mark.OpenBracket ∷ mark.Comma ∷ [])) (λ p. refl) (λ p. refl) (λ n p. refl) (λ n p. refl) (λ n p. refl)

pub return-led : (p : Place) (ws b : Tokens) → Word keyword.Return p ws → Led (b ++ ws)
return-led p ws b text =
    (b, text.0, ap (λ (l : Tokens). b ++ l) text.1, ap (λ (l : Tokens). begins leads_on (l ++ [])) (sym text.1) ∙ among a_lead (of_kind (this_word keyword.Return)) refl p ws [] text)

pub type-leaf : (c : TypeName) (ws : Tokens) → SpellsType c ws → IsLeaf ws
type-leaf c ws (inl (x, is, class)) = integer-leaf x ws class
type-leaf c ws (inr (inl (p, is, word))) = word-leaf keyword.Bool refl p ws word
type-leaf c ws (inr (inr (x, is, name))) = name-leaf x ws name
