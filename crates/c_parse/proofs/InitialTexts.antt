-- What a file-scope variable begins with, by the token that stands ahead.
use Rattle.std.proofs.Common.{◌≡◌, refl, true, false, ◌∷◌, []}
use Rattle.std.specs.Prelude.{⊤}
use Rattle.hw_text.specs.Language.{Made, One}
use Rattle.hw_text.specs.Reading.{begins, Anything, Leaves}
use Rattle.c_tree.specs.declared.item.InitialValue.TheVariants as initial
use Rattle.c_parse.specs.declared.mark.Mark.TheVariants as mark
use Rattle.c_parse.specs.Values.{Tokens, is_mark, is_truth, is_name, truth_of}
use Rattle.c_parse.specs.ExpressionGrammar.{Name}
use Rattle.c_parse.specs.CallGrammar.{SpellsSigned}
use Rattle.c_parse.specs.PlainGrammar.{SpellsZeros}
use Rattle.c_parse.specs.UnitGrammar.{SpellsInitial, initial_truth}
use Rattle.c_parse.proofs.Steps.{all_left, at_first, at_second, unmake, by_test, either_way, Excluded}
use Rattle.c_parse.proofs.Shapes.{built, first, apart, among}
use Rattle.c_parse.proofs.TokenShapes.{Starts, sign_shape, a_truth, a_name, this_sign, of_kind, sign}
use Rattle.c_parse.proofs.TypeTexts.{signed_starts}

pub zeros_starts : Starts (sign_shape mark.OpenBrace ∷ []) SpellsZeros
zeros_starts = built _ (first _ (sign mark.OpenBrace refl))

module _ (before : Tokens) where
  zeros_excluded : begins (is_mark mark.OpenBrace) before ≡ false → Excluded Anything before (Made (λ (u : ⊤). initial.Zero) SpellsZeros)
  zeros_excluded none = by_test (among (this_sign mark.OpenBrace) (built _ zeros_starts) refl) none

  pub zeros_there : begins (is_mark mark.OpenBrace) before ≡ true → Leaves SpellsInitial Anything before before (λ u. initial.Zero) SpellsZeros
  zeros_there there = unmake (at_first (all_left SpellsInitial Anything before)
      (either_way (by_test (apart (this_sign mark.OpenBrace) (built _ (of_kind a_truth)) refl) there)
      (either_way (by_test (apart (this_sign mark.OpenBrace) (built _ (of_kind a_name)) refl) there) (by_test (apart (this_sign mark.OpenBrace) (built _ signed_starts) refl) there))))

  pub truth_there : begins (is_mark mark.OpenBrace) before ≡ false → begins is_truth before ≡ true → Leaves SpellsInitial Anything before before initial_truth (One truth_of)
  truth_there no_brace there = unmake (at_first (at_second (all_left SpellsInitial Anything before) (zeros_excluded no_brace))
      (either_way (by_test (apart a_truth (built _ (of_kind a_name)) refl) there) (by_test (apart a_truth (built _ signed_starts) refl) there)))

  truth_excluded : begins is_truth before ≡ false → Excluded Anything before (Made initial_truth (One truth_of))
  truth_excluded none = by_test (among a_truth (built _ (of_kind a_truth)) refl) none

  pub name_there : begins (is_mark mark.OpenBrace) before ≡ false → begins is_truth before ≡ false → begins is_name before ≡ true → Leaves SpellsInitial Anything before before initial.Enumerator Name
  name_there no_brace no_truth there = unmake (at_first (at_second (at_second (all_left SpellsInitial Anything before) (zeros_excluded no_brace)) (truth_excluded no_truth))
      (by_test (apart a_name (built _ signed_starts) refl) there))

  pub number_there : begins (is_mark mark.OpenBrace) before ≡ false → begins is_truth before ≡ false → begins is_name before ≡ false → Leaves SpellsInitial Anything before before initial.Number SpellsSigned
  number_there no_brace no_truth no_name = unmake (at_second (at_second (at_second (all_left SpellsInitial Anything before) (zeros_excluded no_brace)) (truth_excluded no_truth))
      (by_test (among a_name (built _ (of_kind a_name)) refl) no_name))
