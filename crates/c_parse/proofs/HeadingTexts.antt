-- Headings: texts of their parts, and what stands behind which.
use Rattle.std.proofs.Common.{◌≡◌, ◌∙◌, refl, sym, ap, true, false, ◌++◌, Some, None, inr, ◌∷◌}
use Rattle.std.specs.Prelude.{⊤}
use Rattle.hw_text.specs.Language.{Nothing, ◌⋅◌, Made}
use Rattle.hw_text.specs.Reading.{first, begins, Anything, BeginsWithout, Reached, Leaves}
use Rattle.hw_text.proofs.Reading.{ended, never-follows}
use Rattle.c_parse.specs.declared.keyword.Keyword.TheVariants as keyword
use Rattle.c_parse.specs.Values.{Tokens, is_word}
use Rattle.c_parse.specs.ExpressionGrammar.{Name}
use Rattle.c_parse.specs.CallGrammar.{Word, SpellsType}
use Rattle.c_parse.specs.UnitGrammar.{SpellsStatic, SpellsResult, SpellsHeading}
use Rattle.c_parse.proofs.TypedefTexts.{a_type}
use Rattle.c_parse.proofs.Steps.{Sample, Excluded, all_left, at_first, at_second, unmake, by_test}
use Rattle.c_parse.proofs.Shapes.{built, first as first_of, either, wider, or_nothing_first, apart, among}
use Rattle.c_parse.proofs.TokenShapes.{Starts, word_shape, this_word, of_kind, word}
use Rattle.c_parse.proofs.TypeTexts.{type_shapes, type_starts}

pub a_result : Sample SpellsResult
a_result = (Some a_type.0, a_type.1, inr (a_type.0, refl, a_type.2))

pub result_starts : Starts (word_shape keyword.Void ∷ type_shapes) SpellsResult
result_starts = either (built _ (word keyword.Void refl)) (built _ (wider type_starts refl))

pub heading_starts : Starts (word_shape keyword.Static ∷ word_shape keyword.Void ∷ type_shapes) SpellsHeading
heading_starts = built _ (or_nothing_first (built _ (word keyword.Static refl)) (first_of _ (wider result_starts refl)))

pub static_follow : (y : _) (w m : Tokens) → (SpellsResult ⋅ Name) y w → Anything m → BeginsWithout (is_word keyword.Static) (w ++ m)
static_follow y w m text follows = apart (this_word keyword.Static) (first_of Name result_starts) refl y w m text

module _ (before : Tokens) where
  abbrev NoStatic : Tokens → Type 0
  NoStatic = BeginsWithout (is_word keyword.Static)

  pub no_static : begins (is_word keyword.Static) before ≡ false → Reached SpellsStatic NoStatic before before false
  no_static none = ended SpellsStatic NoStatic before before (λ (u : ⊤). false)
      (unmake (at_second (all_left SpellsStatic NoStatic before) (by_test (among (this_word keyword.Static) (built _ (of_kind (this_word keyword.Static))) refl) none)))

  nothing_excluded : begins (is_word keyword.Static) before ≡ true → Excluded NoStatic before (Made (λ (u : ⊤). false) Nothing)
  nothing_excluded there = record {
    none = λ y w m text follows same. never-follows (is_word keyword.Static) before there m follows (ap (λ (l : Tokens). first (l ++ m)) (sym text.2) ∙ same);
  }

  pub static_there : begins (is_word keyword.Static) before ≡ true → Leaves SpellsStatic NoStatic before before (λ p. true) (Word keyword.Static)
  static_there there = unmake (at_first (all_left SpellsStatic NoStatic before) (nothing_excluded there))

  pub void_there : begins (is_word keyword.Void) before ≡ true → Leaves SpellsResult Anything before before (λ p. None) (Word keyword.Void)
  void_there there = unmake (at_first (all_left SpellsResult Anything before) (by_test (apart (this_word keyword.Void) (built _ type_starts) refl) there))

  pub type_there : begins (is_word keyword.Void) before ≡ false → Leaves SpellsResult Anything before before Some SpellsType
  type_there none = unmake (at_second (all_left SpellsResult Anything before) (by_test (among (this_word keyword.Void) (built _ (of_kind (this_word keyword.Void))) refl) none))
