-- Expressions whose parts have tokens that the types allow.
use Rattle.std.proofs.Common.{if◌then◌else◌, ◌≡◌, List, [], ◌∷◌, ◌++◌, map, Result, OnOk, refl, sym, subst}
use Rattle.std.specs.List.{flat_map}
use Rattle.hw_text.specs.declared.place.Place.{Place}
use Rattle.gumbo_parse.specs.declared.level.Level.TheVariants as level
use Rattle.gumbo_parse.specs.declared.level.Level.{Level}
use Rattle.gumbo_parse.specs.declared.expression.Bound.{Bound}
use Rattle.gumbo_parse.specs.declared.expression.Expression.{Expression}
use Rattle.gumbo_parse.specs.declared.expression.Expression.TheVariants as expression
use Rattle.gumbo_parse.specs.declared.expression.Named.{Named}
use Rattle.gumbo_parse.specs.declared.expression.Selector.{Selector}
use Rattle.gumbo_parse.specs.declared.expression.Selector.TheVariants as selector
use Rattle.gumbo_parse.specs.declared.mark.Mark.TheVariants as mark
use Rattle.gumbo_parse.specs.declared.operator.BinaryOperator.{BinaryOperator}
use Rattle.gumbo_parse.specs.declared.operator.BinaryOperator.TheVariants as binary
use Rattle.gumbo_parse.specs.declared.operator.Quantifier.{Quantifier}
use Rattle.gumbo_parse.specs.declared.operator.UnaryOperator.{UnaryOperator}
use Rattle.gumbo_parse.specs.declared.operator.UnaryOperator.TheVariants as unary
use Rattle.gumbo_parse.specs.declared.token.Token.{Token}
use Rattle.gumbo_parse.specs.declared.token.Token.TheVariants as token
use Rattle.gumbo_parse.specs.declared.word.Word.TheVariants as word
use Rattle.gumbo_parse.specs.Allowed.{IsAllowed, AreAllowed}
use Rattle.gumbo_parse.specs.ExpressionTokens.{Written, in_parentheses, unary_token, binary_token, quantification_tokens, expression_tokens, selector_tokens}
use Rattle.gumbo_parse.specs.Levels.{unary_level, binary_level, left_level, right_level, is_looser}
use Rattle.gumbo_parse.proofs.Allowing.{on_ok, always, more, one, both, enclosed, grouped}
use Rattle.gumbo_parse.proofs.TokensOfExpressions.{tokens-Value, tokens-Before, tokens-MustSend, tokens-Unary, tokens-Binary, tokens-Quantified, tokens-Index}

form : (x y : Expression) (w : Written) (wanted : Level) → x ≡ y → expression_tokens y ≡ w → AreAllowed (w wanted) → AreAllowed (expression_tokens x wanted)
form x y w wanted is tokens allowed =
    subst (λ (e : Expression). AreAllowed (expression_tokens e wanted)) (sym is) (subst (λ (v : Written). AreAllowed (v wanted)) (sym tokens) allowed)

sign_allowed : (o : UnaryOperator) → IsAllowed (unary_token o)
sign_allowed unary.Not = refl
sign_allowed unary.Minus = refl

operator_allowed : (o : BinaryOperator) → IsAllowed (binary_token o)
operator_allowed binary.Implies = refl
operator_allowed _ = refl

closed : (us : List Token) → AreAllowed us → AreAllowed (us ++ token.Mark mark.CloseParenthesis ∷ [])
closed us a = both us (token.Mark mark.CloseParenthesis ∷ []) a (one (token.Mark mark.CloseParenthesis) refl)

module _ {X E : Type 0} (r : Result X E) (self : Expression) (wanted : Level) where
  abbrev Printed : Type 0
  Printed = OnOk r (AreAllowed (expression_tokens self wanted))

  abbrev parts_of : List Selector → List Token
  parts_of ps = flat_map (λ ts. ts) (map selector_tokens ps)

  pub value_allowed : (x : Named) (ps read : List Selector) → self ≡ expression.Value x ps → read ≡ ps → IsAllowed (token.Name x.name) → OnOk r (AreAllowed (flat_map (λ ts. ts) (map selector_tokens read))) → Printed
  value_allowed x ps read is same name parts =
      on_ok r (AreAllowed (parts_of read)) (AreAllowed (expression_tokens self wanted))
      (λ all. form self (expression.Value x ps) (λ n. token.Name x.name ∷ parts_of ps) wanted is (tokens-Value x ps) (more (token.Name x.name) (parts_of ps) name (subst (λ (qs : List Selector). AreAllowed (parts_of qs)) same all))) parts

  pub before_allowed : (at : Place) (x : Named) (ps read : List Selector) → self ≡ expression.Before at x ps → read ≡ ps → IsAllowed (token.Name x.name) → OnOk r (AreAllowed (flat_map (λ ts. ts) (map selector_tokens read))) → Printed
  before_allowed at x ps read is same name parts =
      on_ok r (AreAllowed (parts_of read)) (AreAllowed (expression_tokens self wanted))
      (λ all.
      let behind : AreAllowed (parts_of ps) = subst (λ (qs : List Selector). AreAllowed (parts_of qs)) same all in
      form self (expression.Before at x ps) (λ n. token.Word word.In ∷ token.Mark mark.OpenParenthesis ∷ token.Name x.name ∷ token.Mark mark.CloseParenthesis ∷ parts_of ps) wanted is (tokens-Before at x ps)
      (more (token.Word word.In) (token.Mark mark.OpenParenthesis ∷ token.Name x.name ∷ token.Mark mark.CloseParenthesis ∷ parts_of ps) refl
      (more (token.Mark mark.OpenParenthesis) (token.Name x.name ∷ token.Mark mark.CloseParenthesis ∷ parts_of ps) refl
      (more (token.Name x.name) (token.Mark mark.CloseParenthesis ∷ parts_of ps) name (more (token.Mark mark.CloseParenthesis) (parts_of ps) refl behind))))) parts

  pub must_send_allowed : (at : Place) (x : Named) (start : Place) (sent read : Expression) → self ≡ expression.MustSend at x start sent → read ≡ sent → IsAllowed (token.Name x.name) → AreAllowed (expression_tokens read level.Implication) → Printed
  must_send_allowed at x start sent read is same name inner =
      let us : List Token = expression_tokens sent level.Implication ++ token.Mark mark.CloseParenthesis ∷ [] in
      let all : AreAllowed us = closed (expression_tokens sent level.Implication) (subst (λ (e : Expression). AreAllowed (expression_tokens e level.Implication)) same inner) in
      always r (AreAllowed (expression_tokens self wanted))
      (form self (expression.MustSend at x start sent) (λ n. token.Word word.MustSend ∷ token.Mark mark.OpenParenthesis ∷ token.Name x.name ∷ token.Mark mark.Comma ∷ us) wanted is (tokens-MustSend at x start sent)
      (more (token.Word word.MustSend) (token.Mark mark.OpenParenthesis ∷ token.Name x.name ∷ token.Mark mark.Comma ∷ us) refl
      (more (token.Mark mark.OpenParenthesis) (token.Name x.name ∷ token.Mark mark.Comma ∷ us) refl (more (token.Name x.name) (token.Mark mark.Comma ∷ us) name (more (token.Mark mark.Comma) us refl all)))))

  pub unary_allowed : (at : Place) (o : UnaryOperator) (x read : Expression) (own : Level) → self ≡ expression.Unary at o x → read ≡ x → own ≡ unary_level o → AreAllowed (expression_tokens read own) → Printed
  unary_allowed at o x read own is same high inner =
      let us : List Token = unary_token o ∷ expression_tokens x (unary_level o) in
      let moved : AreAllowed (expression_tokens x own) = subst (λ (e : Expression). AreAllowed (expression_tokens e own)) same inner in
      let all : AreAllowed us = more (unary_token o) (expression_tokens x (unary_level o)) (sign_allowed o) (subst (λ (n : Level). AreAllowed (expression_tokens x n)) high moved) in
      always r (AreAllowed (expression_tokens self wanted))
      (form self (expression.Unary at o x) (λ n. if is_looser (unary_level o) n then in_parentheses us else us) wanted is (tokens-Unary at o x) (grouped (is_looser (unary_level o) wanted) us all))

  pub binary_allowed : (at : Place) (o : BinaryOperator) (x y left right : Expression) (low high : Level) → self ≡ expression.Binary at o x y → left ≡ x → right ≡ y → low ≡ left_level o → high ≡ right_level o → AreAllowed (expression_tokens left low) → AreAllowed (expression_tokens right high) → Printed
  binary_allowed at o x y left right low high is same_left same_right e f a b =
      let ls : List Token = expression_tokens x (left_level o) in
      let rs : List Token = expression_tokens y (right_level o) in
      let us : List Token = ls ++ binary_token o ∷ [] ++ rs in
      let first : AreAllowed ls = subst (λ (n : Level). AreAllowed (expression_tokens x n)) e (subst (λ (k : Expression). AreAllowed (expression_tokens k low)) same_left a) in
      let second : AreAllowed rs = subst (λ (n : Level). AreAllowed (expression_tokens y n)) f (subst (λ (k : Expression). AreAllowed (expression_tokens k high)) same_right b) in
      let all : AreAllowed us = both (ls ++ binary_token o ∷ []) rs (both ls (binary_token o ∷ []) first (one (binary_token o) (operator_allowed o))) second in
      always r (AreAllowed (expression_tokens self wanted))
      (form self (expression.Binary at o x y) (λ n. if is_looser (binary_level o) n then in_parentheses us else us) wanted is (tokens-Binary at o x y) (grouped (is_looser (binary_level o) wanted) us all))

  pub quantified_allowed : (at : Place) (q : Quantifier) (x : Named) (from below : Bound) (start : Place) (body read : Expression) → self ≡ expression.Quantified at q x from below start body → read ≡ body → AreAllowed (quantification_tokens q x from below) → AreAllowed (expression_tokens read level.Implication) → Printed
  quantified_allowed at q x from below start body read is same heading inner =
      let us : List Token = quantification_tokens q x from below ++ expression_tokens body level.Implication in
      let all : AreAllowed us = both (quantification_tokens q x from below) (expression_tokens body level.Implication) heading (subst (λ (e : Expression). AreAllowed (expression_tokens e level.Implication)) same inner) in
      always r (AreAllowed (expression_tokens self wanted)) (form self (expression.Quantified at q x from below start body) (λ n. in_parentheses us) wanted is (tokens-Quantified at q x from below start body) (enclosed us all))

module _ {X E : Type 0} (r : Result X E) where
  pub index_allowed : (self : Selector) (start : Place) (x : Expression) → self ≡ selector.Index start x → AreAllowed (expression_tokens x level.Implication) → OnOk r (AreAllowed (selector_tokens self))
  index_allowed self start x is inner =
      let us : List Token = expression_tokens x level.Implication ++ token.Mark mark.CloseBracket ∷ [] in
      always r (AreAllowed (selector_tokens self))
      (subst (λ (s : Selector). AreAllowed (selector_tokens s)) (sym is) (subst AreAllowed (sym (tokens-Index start x))
      (more (token.Mark mark.OpenBracket) us refl (both (expression_tokens x level.Implication) (token.Mark mark.CloseBracket ∷ []) inner (one (token.Mark mark.CloseBracket) refl)))))
