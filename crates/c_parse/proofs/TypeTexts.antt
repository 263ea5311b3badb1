-- How types, literals behind a minus and lengths begin, and which of them stands ahead.
use Rattle.std.proofs.Common.{◌≡◌, refl, [], ◌∷◌, ◌++◌, List, ℕ, true, false, Some}
use Rattle.hw_text.specs.Language.{One, ◌⋅◌, Made, ◌∣◌}
use Rattle.hw_text.specs.Reading.{begins, Anything, BeginsWithout, Leaves}
use Rattle.c_tree.specs.declared.type_name.TypeName.TheVariants as class
use Rattle.c_parse.specs.declared.keyword.Keyword.TheVariants as keyword
use Rattle.c_parse.specs.declared.mark.Mark.TheVariants as mark
use Rattle.c_parse.specs.Values.{Tokens, literal_of, integer_of, is_mark, is_word, is_integer}
use Rattle.c_parse.specs.ExpressionGrammar.{Sign, Name}
use Rattle.c_parse.specs.CallGrammar.{Word, SpellsType, integer_name, SpellsSigned, plain_literal, negative_literal}
use Rattle.c_parse.specs.TypedefGrammar.{SpellsLength, length_of}
use Rattle.c_parse.proofs.Shapes.{built, first, either, apart, among}
use Rattle.c_parse.proofs.TokenShapes.{Starts, sign_shape, word_shape, name_shape, literal_shape, integers, an_integer, a_name, of_kind, this_sign, this_word, sign, word, name, literal, integer_type}
use Rattle.c_parse.proofs.Steps.{all_left, at_first, at_second, unmake, by_test, is_there}

abbrev later_shapes : List (List ℕ)
later_shapes = word_shape keyword.Bool ∷ name_shape ∷ []

abbrev pub type_shapes : List (List ℕ)
type_shapes = integers ++ later_shapes

later_starts : Starts later_shapes (Made class.Truth (Word keyword.Bool) ∣ Made class.Defined Name)
later_starts = either (built _ (word keyword.Bool refl)) (built _ (name refl))

pub type_starts : Starts type_shapes SpellsType
type_starts = either (built _ (integer_type refl)) (either (built _ (word keyword.Bool refl)) (built _ (name refl)))

abbrev pub signed_shapes : List (List ℕ)
signed_shapes = literal_shape ∷ sign_shape mark.Minus ∷ []

pub signed_starts : Starts signed_shapes SpellsSigned
signed_starts = either (built _ (literal refl)) (built _ (first _ (sign mark.Minus refl)))

plain_starts : Starts (literal_shape ∷ []) (Made plain_literal (One literal_of))
plain_starts = built _ (literal refl)

negative_starts : Starts (sign_shape mark.Minus ∷ []) (Made negative_literal (Sign mark.Minus ⋅ One literal_of))
negative_starts = built _ (first _ (sign mark.Minus refl))

module _ (before : Tokens) where
  pub integer_there : begins is_integer before ≡ true → Leaves SpellsType Anything before before integer_name (One integer_of)
  integer_there there = unmake (at_first (all_left SpellsType Anything before) (by_test (apart an_integer later_starts refl) there))

  no_integer : begins is_integer before ≡ false → Leaves SpellsType Anything before before (λ c. c) (Made class.Truth (Word keyword.Bool) ∣ Made class.Defined Name)
  no_integer none = at_second (all_left SpellsType Anything before) (by_test (among an_integer (built _ (of_kind an_integer)) refl) none)

  pub truth_there : begins is_integer before ≡ false → begins (is_word keyword.Bool) before ≡ true → Leaves SpellsType Anything before before class.Truth (Word keyword.Bool)
  truth_there none there = unmake (at_first (no_integer none) (by_test (apart (this_word keyword.Bool) (built _ (of_kind a_name)) refl) there))

  pub defined_there : begins is_integer before ≡ false → begins (is_word keyword.Bool) before ≡ false → Leaves SpellsType Anything before before class.Defined Name
  defined_there none no_bool = unmake (at_second (no_integer none) (by_test (among (this_word keyword.Bool) (built _ (of_kind (this_word keyword.Bool))) refl) no_bool))

  pub negative_there : begins (is_mark mark.Minus) before ≡ true → Leaves SpellsSigned Anything before before negative_literal (Sign mark.Minus ⋅ One literal_of)
  negative_there there = unmake (at_second (all_left SpellsSigned Anything before) (by_test (apart (this_sign mark.Minus) plain_starts refl) there))

  pub plain_there : begins (is_mark mark.Minus) before ≡ false → Leaves SpellsSigned Anything before before plain_literal (One literal_of)
  plain_there none = unmake (at_first (all_left SpellsSigned Anything before) (by_test (among (this_sign mark.Minus) negative_starts refl) none))

  pub length_there : begins (is_mark mark.OpenBracket) before ≡ true → Leaves SpellsLength (BeginsWithout (is_mark mark.OpenBracket)) before before (λ p. Some (length_of p)) (Sign mark.OpenBracket ⋅ One literal_of ⋅ Sign mark.CloseBracket)
  length_there there = unmake (is_there (all_left SpellsLength (BeginsWithout (is_mark mark.OpenBracket)) before) {test = is_mark mark.OpenBracket} (λ m follows. follows) there)
