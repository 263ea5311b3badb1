-- Local variables, conditions and what is assigned, by the tokens that stand ahead.
use Rattle.std.proofs.Common.{◌≡◌, refl, true, false, ◌++◌, inl, inr, ◌∷◌, []}
use Rattle.hw_text.specs.declared.place.Place.{Place}
use Rattle.hw_text.specs.Language.{◌⋅◌, Made}
use Rattle.hw_text.specs.Reading.{begins, Leaves}
use Rattle.c_tree.specs.declared.dialect.Dialect.{Dialect}
use Rattle.c_tree.specs.declared.statement.LocalValue.{LocalValue}
use Rattle.c_tree.specs.declared.statement.LocalValue.TheVariants as local
use Rattle.c_parse.specs.declared.mark.Mark.TheVariants as mark
use Rattle.c_parse.specs.Values.{Tokens, is_mark}
use Rattle.c_parse.specs.Operators.{RightEnds}
use Rattle.c_parse.specs.ExpressionGrammar.{Sign}
use Rattle.c_parse.specs.CallGrammar.{SpellsRightSide}
use Rattle.c_parse.specs.PlainGrammar.{SpellsZeros, SpellsZeroArray, SpellsGiven, SpellsLocalValue}
use Rattle.c_parse.proofs.Steps.{Sample, both, sample_of, all_left, at_first, at_second, unmake, by_test}
use Rattle.c_parse.proofs.Leaves.{the_sign, the_zero}
use Rattle.c_parse.proofs.Shapes.{built, first, apart, among}
use Rattle.c_parse.proofs.TokenShapes.{Starts, sign_shape, right_going_on, this_sign, of_kind, sign}
use Rattle.c_parse.proofs.CallTexts.{right_starts}
use Rattle.c_parse.proofs.InitialTexts.{zeros_starts}

pub a_zeros : Sample SpellsZeros
a_zeros = sample_of (λ p. tt) (both (the_sign mark.OpenBrace) (both the_zero (the_sign mark.CloseBrace)))

pub a_given : (dialect : Dialect) → Sample (SpellsGiven dialect)
a_given dialect = (local.Zero, a_zeros.1, inl (a_zeros.0, refl, a_zeros.2))

pub a_local_value : (dialect : Dialect) → Sample (SpellsLocalValue dialect)
a_local_value dialect =
    let s = both (the_sign mark.Assign) (a_given dialect) in
    (s.0.1, s.1, inr (s.0, refl, s.2))

-- behind what stands on the right stands a semicolon, or a parenthesis that closes
pub right-semicolon : (F : Tokens → Type 0) (y : Place) (w m : Tokens) → Sign mark.Semicolon y w → F m → RightEnds (w ++ m)
right-semicolon F y w m text follows = apart right_going_on (of_kind (this_sign mark.Semicolon)) refl y w m text

pub right-close : (F : Tokens → Type 0) (y : Place) (w m : Tokens) → Sign mark.CloseParenthesis y w → F m → RightEnds (w ++ m)
right-close F y w m text follows = apart right_going_on (of_kind (this_sign mark.CloseParenthesis)) refl y w m text

array_starts : Starts (sign_shape mark.OpenBracket ∷ []) SpellsZeroArray
array_starts = built _ (first _ (sign mark.OpenBracket refl))

given_starts : (dialect : Dialect) → Starts (sign_shape mark.Assign ∷ []) (Made (λ (p : Place × LocalValue). p.1) (Sign mark.Assign ⋅ SpellsGiven dialect))
given_starts dialect = built _ (first _ (sign mark.Assign refl))

module _ (dialect : Dialect) (before : Tokens) where
  pub array_there : begins (is_mark mark.OpenBracket) before ≡ true → Leaves (SpellsLocalValue dialect) RightEnds before before (λ v. v) SpellsZeroArray
  array_there there = at_first (all_left (SpellsLocalValue dialect) RightEnds before) (by_test (apart (this_sign mark.OpenBracket) (given_starts dialect) refl) there)

  pub no_array : begins (is_mark mark.OpenBracket) before ≡ false → Leaves (SpellsLocalValue dialect) RightEnds before before (λ p. p.1) (Sign mark.Assign ⋅ SpellsGiven dialect)
  no_array none_there = unmake (at_second (all_left (SpellsLocalValue dialect) RightEnds before) (by_test (among (this_sign mark.OpenBracket) array_starts refl) none_there))

module _ {dialect : Dialect} {before at : Tokens} {build : LocalValue → LocalValue} (so : Leaves (SpellsLocalValue dialect) RightEnds before at build (SpellsGiven dialect)) where
  pub zeros_there : begins (is_mark mark.OpenBrace) at ≡ true → Leaves (SpellsLocalValue dialect) RightEnds before at (λ u. build local.Zero) SpellsZeros
  zeros_there there = unmake (at_first so (by_test (apart (this_sign mark.OpenBrace) (built _ (right_starts dialect)) refl) there))

  pub right_there : begins (is_mark mark.OpenBrace) at ≡ false → Leaves (SpellsLocalValue dialect) RightEnds before at (λ r. build (local.Given r)) (SpellsRightSide dialect)
  right_there none_there = unmake (at_second so (by_test (among (this_sign mark.OpenBrace) (built _ zeros_starts) refl) none_there))
