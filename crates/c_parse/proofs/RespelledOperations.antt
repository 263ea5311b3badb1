-- The canonical tokens of operators between operands spell them, in parentheses or not.
use Rattle.std.proofs.Common.{◌≡◌, ◌<◌, ◌≤◌, ℕ, ◌+◌, List, [], ◌∷◌, ◌++◌, Some, refl, sym, ap, ◌∙◌, subst, append_assoc, append-nil, arith}
use Rattle.hw_text.specs.declared.place.Place.{Place}
use Rattle.hw_text.specs.Language.{One, ◌⋅◌}
use Rattle.std.proofs.lemmas.Bool.{and_parts}
use Rattle.c_tree.specs.Starts.{start_in, started_at}
use Rattle.c_tree.specs.declared.dialect.Dialect.{Dialect}
use Rattle.c_tree.specs.declared.operator.BinaryOperator.{BinaryOperator}
use Rattle.c_tree.specs.declared.operator.BinaryOperator.TheVariants as binary_operator
use Rattle.c_tree.specs.declared.print_expression.Position.{Position}
use Rattle.c_tree.specs.declared.print_expression.Position.TheVariants.{Whole, Operand, BehindMinus}
use Rattle.c_tree.specs.declared.expression.Expression.{Expression}
use Rattle.c_tree.specs.declared.expression.Expression.TheOpen as opened
use Rattle.c_tree.specs.declared.expression.Expression.TheVariants as expression
use Rattle.c_tree.specs.declared.expression.Expression.TheViews.{roll-Expression}
use Rattle.c_tree.specs.Unplaced.{origin, unplaced_expression}
use Rattle.c_parse.specs.ExpressionGrammar.{Sign, SpellsExpression, SpellsPrefix, SpellsWhole}
use Rattle.c_parse.specs.ExpressionGrammar as grammar
use Rattle.c_parse.specs.Levels.{binary_level, prefix_level}
use Rattle.c_parse.specs.Operators.{binary_at}
use Rattle.c_parse.specs.PrintedExpressions.{binary_mark, grouped_tokens}
use Rattle.c_tree.specs.Dialects.{has_expression}
use Rattle.c_parse.specs.Values.{Tokens}
use Rattle.c_parse.specs.declared.mark.Mark.TheVariants as mark
use Rattle.c_parse.specs.declared.token.Token.{Token}
use Rattle.c_parse.specs.declared.token.Token.TheVariants as token
use Rattle.c_parse.proofs.LevelsClimbed.{climbed, tightest}
use Rattle.c_parse.proofs.Respelled.{Respells, at_place, respelled-as, after, turned, one}
use Rattle.c_parse.proofs.RespelledWords.{sign}
use Rattle.c_tree.proofs.UnplacedForms.{unplaced-Binary, unplaced-started}
use Rattle.c_parse.proofs.RespelledForms.{SpellsAt, ExpressionRead, form-read}

module _ (dialect : Dialect) where
  -- an operator between operands, but for its place
  abbrev binary_bare : Place × BinaryOperator → Place × BinaryOperator
  binary_bare q = (origin, q.1)

  binary-there : (o : BinaryOperator) (at : Place) → binary_at (binary_level o) (at_place (token.Mark (binary_mark o)) at) ≡ Some (at, o)
  binary-there binary_operator.Or at = refl
  binary-there _ at = refl

  infix_operator : (o : BinaryOperator) → Respells (One (binary_at (binary_level o))) binary_bare (origin, o) (token.Mark (binary_mark o) ∷ [])
  infix_operator o = one (binary_at (binary_level o)) (token.Mark (binary_mark o)) (λ at. (at, o)) (binary-there o) (λ at. refl)

  abbrev BinaryParts : Type 0
  BinaryParts = Expression × ((Place × BinaryOperator) × Expression)

  abbrev binary_of : BinaryParts → Expression
  binary_of k = expression.Binary (start_in k.0) k.1.0.1 k.1.0.0 k.0 k.1.1

  -- how far a level is from the tightest
  pub record IsLevel (n : ℕ) : Type 0 where
    pub above : ℕ
    pub below : ℕ
    pub up : 1 + above ≡ n
    pub down : n + 1 + below ≡ prefix_level

  is-level : (o : BinaryOperator) → IsLevel (binary_level o)
  is-level binary_operator.Or = record { above = 0; below = 9; up = refl; down = refl }
  is-level binary_operator.And = record { above = 1; below = 8; up = refl; down = refl }
  is-level binary_operator.BitOr = record { above = 2; below = 7; up = refl; down = refl }
  is-level binary_operator.BitXor = record { above = 3; below = 6; up = refl; down = refl }
  is-level binary_operator.BitAnd = record { above = 4; below = 5; up = refl; down = refl }
  is-level binary_operator.Equal = record { above = 5; below = 4; up = refl; down = refl }
  is-level binary_operator.NotEqual = record { above = 5; below = 4; up = refl; down = refl }
  is-level binary_operator.Less = record { above = 6; below = 3; up = refl; down = refl }
  is-level binary_operator.LessOrEqual = record { above = 6; below = 3; up = refl; down = refl }
  is-level binary_operator.Greater = record { above = 6; below = 3; up = refl; down = refl }
  is-level binary_operator.GreaterOrEqual = record { above = 6; below = 3; up = refl; down = refl }
  is-level binary_operator.ShiftLeft = record { above = 7; below = 2; up = refl; down = refl }
  is-level binary_operator.ShiftRight = record { above = 7; below = 2; up = refl; down = refl }
  is-level binary_operator.Add = record { above = 8; below = 1; up = refl; down = refl }
  is-level binary_operator.Subtract = record { above = 8; below = 1; up = refl; down = refl }
  is-level binary_operator.Multiply = record { above = 9; below = 0; up = refl; down = refl }
  is-level binary_operator.Divide = record { above = 9; below = 0; up = refl; down = refl }
  is-level binary_operator.Remainder = record { above = 9; below = 0; up = refl; down = refl }

  -- operands round an operator of a level
  binary-spelled : (n : ℕ) → IsLevel n → (k : BinaryParts) (ts : Tokens) → (SpellsPrefix dialect ⋅ One (binary_at n) ⋅ SpellsPrefix dialect) k ts → SpellsWhole dialect (binary_of k) ts
  binary-spelled n level k ts text =
      let us = text.0 in
      let vs = text.1 in
      let more = text.4 in
      let os = more.0 in
      let ws = more.1 in
      let e = binary_of k in
      let below : n < prefix_level = omega (arith, level.down) in
      let within : 1 + level.above ≤ prefix_level = omega (arith, level.down, level.up) in
      let left = tightest dialect k.0 us level.below (n + 1) level.down text.3 in
      let right = tightest dialect k.1.1 ws level.below (n + 1) level.down more.4 in
      let split_is : vs ≡ os ++ (ws ++ []) = more.2 ∙ ap (λ (l : Tokens). os ++ l) (sym (append-nil ws)) in
      let operations = grammar.an_operation dialect n k.1.0 k.1.1 [] os ws [] (k.1 ∷ []) vs refl split_is more.3 right (grammar.no_operation dialect n [] [] refl refl) in
      let here : SpellsExpression dialect n e ts = grammar.chain dialect n k.0 (k.1 ∷ []) us vs e ts below refl text.2 left operations in
      climbed dialect e ts level.above 1 within (subst (λ (m : ℕ). SpellsExpression dialect m e ts) (sym level.up) here)

  binary-whole : (o : BinaryOperator) {l r : Expression} {ls rs : List Token} → Respells (SpellsPrefix dialect) unplaced_expression l ls → Respells (SpellsPrefix dialect) unplaced_expression r rs → Respells (SpellsWhole dialect) unplaced_expression (expression.Binary origin o origin l r) (ls ++ token.Mark (binary_mark o) ∷ [] ++ rs)
  binary-whole o {l} {r} {ls} {rs} a b =
      respelled-as (sym (append_assoc ls (token.Mark (binary_mark o) ∷ []) rs)) refl
      (turned binary_of (binary-spelled (binary_level o) (is-level o))
      (λ k same. unplaced-Binary (start_in k.0) k.1.0.1 k.1.0.0 k.0 k.1.1 ∙ ap (λ (q : BinaryParts). expression.Binary origin q.1.0.1 origin q.0 q.1.1) same)
      (after a (after (infix_operator o) b)))

  abbrev GroupParts : Type 0
  GroupParts = Place × (Expression × Place)

  group-spelled : (k : GroupParts) (ts : Tokens) → (Sign mark.OpenParenthesis ⋅ SpellsWhole dialect ⋅ Sign mark.CloseParenthesis) k ts → SpellsPrefix dialect (started_at k.0 k.1.0) ts
  group-spelled k ts text =
      let ps = text.0 in
      let more = text.4 in
      grammar.parenthesised dialect k.0 k.1.1 k.1.0 ps more.0 more.1 (started_at k.0 k.1.0) ts refl
      (text.2 ∙ ap (λ (l : Tokens). ps ++ l) more.2) text.3 more.3 more.4

  in-parentheses : {z : Expression} {us : List Token} → Respells (SpellsWhole dialect) unplaced_expression z us → Respells (SpellsPrefix dialect) unplaced_expression z (token.Mark mark.OpenParenthesis ∷ us ++ token.Mark mark.CloseParenthesis ∷ [])
  in-parentheses text =
      turned (λ (k : GroupParts). started_at k.0 k.1.0) group-spelled (λ k same. unplaced-started k.0 k.1.0 ∙ ap (λ (q : GroupParts). q.1.0) same)
      (after (sign mark.OpenParenthesis) (after text (sign mark.CloseParenthesis)))

  grouped : (p : Position) {z : Expression} {us : List Token} → Respells (SpellsWhole dialect) unplaced_expression z us → Respells (SpellsAt dialect p) unplaced_expression z (grouped_tokens p us)
  grouped Whole text = text
  grouped Operand text = in-parentheses text
  grouped BehindMinus text = in-parentheses text

  pub binary-read : (start : Place) (o : BinaryOperator) (at : Place) (l r : Expression) → (ExpressionRead dialect) l → (ExpressionRead dialect) r → (ExpressionRead dialect) (roll-Expression (opened.Binary start o at l r))
  binary-read start o at l r a b = (form-read dialect) (opened.Binary start o at l r) (λ allowed.
      let both = and_parts (has_expression dialect l) (has_expression dialect r) allowed in
      record { at = λ p. grouped p (binary-whole o ((a.read both.0).at Operand) ((b.read both.1).at Operand)) })
