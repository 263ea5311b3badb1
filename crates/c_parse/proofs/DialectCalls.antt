-- Which calls and values a grammar has texts of: for users those without pointers.
use Rattle.std.proofs.Common.{◌≡◌, ◌∙◌, refl, ap, Bool, true, List, [], ◌∷◌, inl, inr}
use Rattle.std.specs.List.{list_all}
use Rattle.hw_text.specs.Language.{Each}
use Rattle.c_tree.specs.declared.dialect.Dialect.{Dialect}
use Rattle.c_tree.specs.declared.expression.Argument.{Argument}
use Rattle.c_tree.specs.declared.expression.Call.{Call}
use Rattle.c_tree.specs.declared.expression.RightSide.{RightSide}
use Rattle.c_tree.specs.declared.statement.LocalValue.{LocalValue}
use Rattle.c_parse.specs.CallGrammar.{BehindComma, Separated, SpellsArgument, SpellsCall, SpellsRightSide}
use Rattle.c_parse.specs.PlainGrammar.{SpellsGiven, SpellsLocalValue}
use Rattle.c_tree.specs.Dialects.{has_argument, has_call, has_right, has_local}
use Rattle.c_parse.specs.Values.{Tokens}
use Rattle.c_parse.proofs.DialectExpressions.{both-true, expression-had}

module _ {X : Type 0} (test : X → Bool) (A : X → Tokens → Type 0) (each : (x : X) (ws : Tokens) → A x ws → test x ≡ true) where
  pub all-had : (xs : List X) (ws : Tokens) → Each A xs ws → list_all test xs ≡ true
  all-had [] ws text = refl
  all-had (x ∷ xs) ws text = both-true (test x) (list_all test xs) (each x text.0 text.3) (all-had xs text.1 text.4)

  pub later-had : (x : X) (ws : Tokens) → BehindComma A x ws → test x ≡ true
  later-had x ws text = ap test text.1 ∙ each text.0.1 text.2.1 text.2.4

module _ {X : Type 0} (test : X → Bool) (A : X → Tokens → Type 0) (each : (x : X) (ws : Tokens) → A x ws → test x ≡ true) where
  pub separated-had : (xs : List X) (ws : Tokens) → Separated A xs ws → list_all test xs ≡ true
  separated-had [] ws text = refl
  separated-had (x ∷ xs) ws text =
      both-true (test x) (list_all test xs) (each x text.0 text.3) (all-had test (BehindComma A) (later-had test A each) xs text.1 text.4)

module _ (f : Dialect) where
  argument-had : (a : Argument) (ws : Tokens) → SpellsArgument f a ws → has_argument f a ≡ true
  argument-had a ws (inl text) = ap (has_argument f) text.1
  argument-had a ws (inr text) = ap (has_argument f) text.1 ∙ expression-had f _ text.0 ws text.2

  pub call-had : (c : Call) (ws : Tokens) → SpellsCall f c ws → has_call f c ≡ true
  call-had c ws text =
      let given = text.2.4.4 in
      ap (has_call f) text.1 ∙ separated-had (has_argument f) (SpellsArgument f) argument-had text.0.1.1.0 given.0 given.3

  pub right-had : (r : RightSide) (ws : Tokens) → SpellsRightSide f r ws → has_right f r ≡ true
  right-had r ws (inl text) = ap (has_right f) text.1 ∙ call-had text.0 ws text.2
  right-had r ws (inr text) = ap (has_right f) text.1 ∙ expression-had f _ text.0 ws text.2

  given-had : (v : LocalValue) (ws : Tokens) → SpellsGiven f v ws → has_local f v ≡ true
  given-had v ws (inl text) = ap (has_local f) text.1
  given-had v ws (inr text) = ap (has_local f) text.1 ∙ right-had text.0 ws text.2

  pub local-had : (v : LocalValue) (ws : Tokens) → SpellsLocalValue f v ws → has_local f v ≡ true
  local-had v ws (inl text) = ap (has_local f) text.1
  local-had v ws (inr text) = ap (has_local f) text.1 ∙ given-had text.0.1 text.2.1 text.2.4
