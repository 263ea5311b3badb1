-- The texts of expressions, printed piece by piece.
use Rattle.std.proofs.Common.{◌≡◌, ℕ, Bool, false, List, ◌++◌, map, codes, Result, OnOk, sym, ap, ◌∙◌, append_assoc}
use Rattle.std.specs.List.{flat_map}
use Rattle.hw_text.specs.declared.place.Place.{Place}
use Rattle.gumbo_parse.specs.declared.level.Level.TheVariants as level
use Rattle.gumbo_parse.specs.declared.level.Level.{Level}
use Rattle.gumbo_parse.specs.declared.expression.Bound.{Bound}
use Rattle.gumbo_parse.specs.declared.expression.Expression.{Expression}
use Rattle.gumbo_parse.specs.declared.expression.Expression.TheVariants as expression
use Rattle.gumbo_parse.specs.declared.expression.Named.{Named}
use Rattle.gumbo_parse.specs.declared.expression.Selector.{Selector}
use Rattle.gumbo_parse.specs.declared.operator.BinaryOperator.{BinaryOperator}
use Rattle.gumbo_parse.specs.declared.operator.Quantifier.{Quantifier}
use Rattle.gumbo_parse.specs.declared.operator.UnaryOperator.{UnaryOperator}
use Rattle.gumbo_parse.specs.Levels.{unary_level, binary_level, left_level, right_level, is_looser}
use Rattle.gumbo_parse.specs.Operators.{binary_text}
use Rattle.gumbo_parse.specs.Printing.{Text, opening, closing, sign_text, is_minus, in_parentheses_text, quantifier_text, range_text, expression_text, selector_text}
use Rattle.gumbo_parse.proofs.Allowing.{on_ok}
use Rattle.gumbo_parse.proofs.ExpressionTexts.{text-Before, text-MustSend, text-Unary, text-Binary, text-Quantified}

-- one piece behind another
behind : (start middle end a b : List ℕ) → middle ≡ start ++ a → end ≡ middle ++ b → end ≡ start ++ (a ++ b)
behind start middle end a b first second = second ∙ ap (λ (o : List ℕ). o ++ b) first ∙ append_assoc start a b

-- the last piece of a text
pub last : {X E : Type 0} (r : Result X E) (start middle end a b whole : List ℕ) → middle ≡ start ++ a → whole ≡ a ++ b → OnOk r (end ≡ middle ++ b) → OnOk r (end ≡ start ++ whole)
last r start middle end a b whole first is second =
    on_ok r (end ≡ middle ++ b) (end ≡ start ++ whole) (λ e. behind start middle end a b first e ∙ ap (λ (t : List ℕ). start ++ t) (sym is)) second

regroup : (a s t c : List ℕ) → a ++ (s ++ t) ++ c ≡ a ++ s ++ t ++ c
regroup a s t c = simp append_assoc

regroup-all : (a l s t u r c : List ℕ) → a ++ (l ++ s ++ t ++ u ++ r) ++ c ≡ a ++ l ++ (s ++ t ++ u) ++ r ++ c
regroup-all a l s t u r c = simp append_assoc

unary-whole : (at : Place) (o : UnaryOperator) (x read : Expression) (wanted own inner : Level) (after minus : Bool) → read ≡ x → own ≡ unary_level o → inner ≡ unary_level o → minus ≡ is_minus o → expression_text (expression.Unary at o x) wanted after ≡ opening (is_looser own wanted) ++ sign_text o after ++ expression_text read inner minus ++ closing (is_looser own wanted)
unary-whole at o x read wanted own inner after minus same level_is high sign =
    rw (same, level_is, high, sign)
    (ap (λ (t : Text). t wanted after) (text-Unary at o x) ∙
    regroup (opening (is_looser (unary_level o) wanted)) (sign_text o after) (expression_text x (unary_level o) (is_minus o)) (closing (is_looser (unary_level o) wanted)))

binary-whole : (at : Place) (o : BinaryOperator) (x y left right : Expression) (wanted own low high : Level) (after : Bool) → left ≡ x → right ≡ y → own ≡ binary_level o → low ≡ left_level o → high ≡ right_level o → expression_text (expression.Binary at o x y) wanted after ≡ opening (is_looser own wanted) ++ expression_text left low false ++ (codes " " ++ binary_text o ++ codes " ") ++ expression_text right high false ++ closing (is_looser own wanted)
binary-whole at o x y left right wanted own low high after first second level_is e f =
    rw (first, second, level_is, e, f)
    (ap (λ (t : Text). t wanted after) (text-Binary at o x y) ∙
    regroup-all (opening (is_looser (binary_level o) wanted)) (expression_text x (left_level o) false) (codes " ") (binary_text o) (codes " ") (expression_text y (right_level o) false) (closing (is_looser (binary_level o) wanted)))

module _ {X E : Type 0} (r : Result X E) (self : Expression) (wanted : Level) (after : Bool) (o0 o1 o2 : List ℕ) where
  pub before_text : (at : Place) (x : Named) (ps read : List Selector) → self ≡ expression.Before at x ps → read ≡ ps → o1 ≡ o0 ++ in_parentheses_text (codes "In") x → OnOk r (o2 ≡ o1 ++ flat_map (λ t. t) (map selector_text read)) → OnOk r (o2 ≡ o0 ++ expression_text self wanted after)
  before_text at x ps read is same first second =
      last r o0 o1 o2 (in_parentheses_text (codes "In") x) (flat_map (λ t. t) (map selector_text read)) (expression_text self wanted after) first
      (ap (λ (e : Expression). expression_text e wanted after) is ∙ ap (λ (t : Text). t wanted after) (text-Before at x ps) ∙
      ap (λ (qs : List Selector). in_parentheses_text (codes "In") x ++ flat_map (λ t. t) (map selector_text qs)) (sym same)) second

  module _ (o3 : List ℕ) where
    pub must_send_text : (at : Place) (x : Named) (begin : Place) (sent read : Expression) → self ≡ expression.MustSend at x begin sent → read ≡ sent → o1 ≡ o0 ++ (codes "MustSend(" ++ x.name ++ codes ", ") → o2 ≡ o1 ++ expression_text read level.Implication false → OnOk r (o3 ≡ o2 ++ codes ")") → OnOk r (o3 ≡ o0 ++ expression_text self wanted after)
    must_send_text at x begin sent read is same first second third =
        let head : List ℕ = codes "MustSend(" ++ x.name ++ codes ", " in
        last r o0 o2 o3 (head ++ expression_text read level.Implication false) (codes ")") (expression_text self wanted after) (behind o0 o1 o2 head (expression_text read level.Implication false) first second)
        (ap (λ (e : Expression). expression_text e wanted after) is ∙ ap (λ (t : Text). t wanted after) (text-MustSend at x begin sent) ∙
        ap (λ (e : Expression). head ++ expression_text e level.Implication false ++ codes ")") (sym same)) third

    pub quantified_text : (at : Place) (q : Quantifier) (x : Named) (from below : Bound) (begin : Place) (body read : Expression) → self ≡ expression.Quantified at q x from below begin body → read ≡ body → o1 ≡ o0 ++ (quantifier_text q x ++ range_text from below) → o2 ≡ o1 ++ expression_text read level.Implication false → OnOk r (o3 ≡ o2 ++ codes ")") → OnOk r (o3 ≡ o0 ++ expression_text self wanted after)
    quantified_text at q x from below begin body read is same first second third =
        let head : List ℕ = quantifier_text q x ++ range_text from below in
        last r o0 o2 o3 (head ++ expression_text read level.Implication false) (codes ")") (expression_text self wanted after) (behind o0 o1 o2 head (expression_text read level.Implication false) first second)
        (ap (λ (e : Expression). expression_text e wanted after) is ∙ ap (λ (t : Text). t wanted after) (text-Quantified at q x from below begin body) ∙
        ap (λ (e : Expression). head ++ expression_text e level.Implication false ++ codes ")") (sym same)) third

    module _ (o4 : List ℕ) where
      pub unary_text : (at : Place) (o : UnaryOperator) (x read : Expression) (own inner : Level) (minus : Bool) → self ≡ expression.Unary at o x → read ≡ x → own ≡ unary_level o → inner ≡ unary_level o → minus ≡ is_minus o → o1 ≡ o0 ++ opening (is_looser own wanted) → o2 ≡ o1 ++ sign_text o after → o3 ≡ o2 ++ expression_text read inner minus → OnOk r (o4 ≡ o3 ++ closing (is_looser own wanted)) → OnOk r (o4 ≡ o0 ++ expression_text self wanted after)
      unary_text at o x read own inner minus is same level_is high sign first second third fourth =
          let b : List ℕ = opening (is_looser own wanted) in
          let s : List ℕ = sign_text o after in
          let t : List ℕ = expression_text read inner minus in
          last r o0 o3 o4 (b ++ s ++ t) (closing (is_looser own wanted)) (expression_text self wanted after) (behind o0 o2 o3 (b ++ s) t (behind o0 o1 o2 b s first second) third)
          (ap (λ (e : Expression). expression_text e wanted after) is ∙ unary-whole at o x read wanted own inner after minus same level_is high sign) fourth

      pub binary_text_printed : (o5 : List ℕ) (at : Place) (o : BinaryOperator) (x y left right : Expression) (own low high : Level) → self ≡ expression.Binary at o x y → left ≡ x → right ≡ y → own ≡ binary_level o → low ≡ left_level o → high ≡ right_level o → o1 ≡ o0 ++ opening (is_looser own wanted) → o2 ≡ o1 ++ expression_text left low false → o3 ≡ o2 ++ (codes " " ++ binary_text o ++ codes " ") → o4 ≡ o3 ++ expression_text right high false → OnOk r (o5 ≡ o4 ++ closing (is_looser own wanted)) → OnOk r (o5 ≡ o0 ++ expression_text self wanted after)
      binary_text_printed o5 at o x y left right own low high is same_left same_right level_is e f first second third fourth fifth =
          let b : List ℕ = opening (is_looser own wanted) in
          let l : List ℕ = expression_text left low false in
          let s : List ℕ = codes " " ++ binary_text o ++ codes " " in
          let t : List ℕ = expression_text right high false in
          last r o0 o4 o5 (b ++ l ++ s ++ t) (closing (is_looser own wanted)) (expression_text self wanted after)
          (behind o0 o3 o4 (b ++ l ++ s) t (behind o0 o2 o3 (b ++ l) s (behind o0 o1 o2 b l first second) third) fourth)
          (ap (λ (k : Expression). expression_text k wanted after) is ∙ binary-whole at o x y left right wanted own low high after same_left same_right level_is e f) fifth
