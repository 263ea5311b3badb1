-- Parameters, by the tokens that stand ahead.
use Rattle.std.proofs.Common.{◌≡◌, refl, ap, Bool, true, false, [], inl, inr}
use Rattle.std.specs.Prelude.{◌&&◌}
use Rattle.hw_text.specs.Language.{◌⋅◌, ◌∣◌, Made, Each}
use Rattle.hw_text.specs.Reading.{begins, BeginsWithout, Anything, Reached, Leaves}
use Rattle.hw_text.proofs.Reading.{begun}
use Rattle.c_tree.specs.declared.dialect.Dialect.{Dialect}
use Rattle.c_tree.specs.Dialects.{is_full}
use Rattle.c_tree.specs.declared.type_name.TypeName.{TypeName}
use Rattle.c_tree.specs.declared.named.Named.{Named}
use Rattle.c_tree.specs.declared.item.Parameter.{Parameter}
use Rattle.c_parse.specs.declared.keyword.Keyword.TheVariants as keyword
use Rattle.c_parse.specs.declared.mark.Mark.TheVariants as mark
use Rattle.c_parse.specs.Values.{Tokens, is_mark, is_word}
use Rattle.c_parse.specs.ExpressionGrammar.{Sign, Name, InFull}
use Rattle.c_parse.specs.CallGrammar.{Word, SpellsType, BehindComma}
use Rattle.c_parse.specs.UnitGrammar.{SpellsParameter, SpellsParameters, parameter_of, parameters_of}
use Rattle.c_parse.proofs.Steps.{Sample, both, all_left, at_first, at_second, in_full, unmake, by_test, by_full, and_left, and_right, passed}
use Rattle.c_parse.proofs.Lists.{Listed}
use Rattle.c_parse.proofs.TypedefTexts.{a_type, separated}
use Rattle.c_parse.proofs.Leaves.{the_name}
use Rattle.c_parse.proofs.Shapes.{built, first, either, apart, among}
use Rattle.c_parse.proofs.TokenShapes.{Starts, a_name, this_sign, this_word, of_kind, full}
use Rattle.c_parse.proofs.TypeTexts.{type_shapes, type_starts}

-- whether a `*` stands before the name
abbrev Rest : Dialect → Bool × Named → Tokens → Type 0
Rest dialect = Made (λ n. (false, n)) Name ∣ InFull dialect (Made (λ p. (true, p.1)) (Sign mark.Star ⋅ Name))

abbrev of_rest : TypeName × (Bool × Named) → Parameter
of_rest p = record { class = p.0; is_pointer = p.1.0; name = p.1.1 }

pub a_rest : (dialect : Dialect) → Sample (Rest dialect)
a_rest dialect = ((false, the_name.0), the_name.1, inl (the_name.0, refl, the_name.2))

pub a_parameter : (dialect : Dialect) → Sample (SpellsParameter dialect)
a_parameter dialect =
    let s = both a_type the_name in
    (parameter_of s.0, s.1, inl (s.0, refl, s.2))

opened : (dialect : Dialect) (x : Parameter) (w : Tokens) → SpellsParameter dialect x w → Made of_rest (SpellsType ⋅ Rest dialect) x w
opened dialect x w (inl text) = ((text.0.0, (false, text.0.1)), text.1, (text.2.0, text.2.1, text.2.2, text.2.3, inl (text.0.1, refl, text.2.4)))
opened dialect x w (inr text) =
    let made = text.1 in
    ((made.0.0, (true, made.0.1.1)), made.1, (made.2.0, made.2.1, made.2.2, made.2.3, inr (text.0, (made.0.1, refl, made.2.4))))

shut : (dialect : Dialect) (p : TypeName × (Bool × Named)) (w : Tokens) → (SpellsType ⋅ Rest dialect) p w → SpellsParameter dialect (of_rest p) w
shut dialect p w text = elim text.4 [
  | inl made ↦ inl ((p.0, made.0), ap (λ (r : Bool × Named). of_rest (p.0, r)) made.1, (text.0, text.1, text.2, text.3, made.2))
  | inr made ↦ inr (made.0, ((p.0, made.1.0), ap (λ (r : Bool × Named). of_rest (p.0, r)) made.1.1, (text.0, text.1, text.2, text.3, made.1.2)))
]

module _ (dialect : Dialect) (before : Tokens) where
  pub parameter_left : Leaves (SpellsParameter dialect) Anything before before of_rest (SpellsType ⋅ Rest dialect)
  parameter_left = begun (SpellsParameter dialect) Anything before of_rest (SpellsType ⋅ Rest dialect) (opened dialect) (shut dialect)

  pub class_read : {at : Tokens} {class : TypeName} → Reached SpellsType Anything before at class → Leaves (SpellsParameter dialect) Anything before at (λ r. of_rest (class, r)) (Rest dialect)
  class_read part = passed parameter_left part

module _ (dialect : Dialect) {before at : Tokens} {build : Bool × Named → Parameter} (so : Leaves (SpellsParameter dialect) Anything before at build (Rest dialect)) where
  pub star_there : (is_full dialect && begins (is_mark mark.Star) at) ≡ true → Leaves (SpellsParameter dialect) Anything before at (λ p. build (true, p.1)) (Sign mark.Star ⋅ Name)
  star_there there = unmake (in_full dialect (at_second so
      (by_test (apart (this_sign mark.Star) (built _ (of_kind a_name)) refl) (and_right (is_full dialect) (begins (is_mark mark.Star) at) there)))
      (and_left (is_full dialect) (begins (is_mark mark.Star) at) there))

  pub no_star : (is_full dialect && begins (is_mark mark.Star) at) ≡ false → Leaves (SpellsParameter dialect) Anything before at (λ n. build (false, n)) Name
  no_star none_there = unmake (at_first so
      (by_full dialect (among (this_sign mark.Star) (built _ (first _ (of_kind (this_sign mark.Star)))) refl) none_there))

pub more_listed : (dialect : Dialect) → Listed (BehindComma (SpellsParameter dialect)) (is_mark mark.Comma) true Anything (BeginsWithout (is_mark mark.Comma))
more_listed dialect = separated (SpellsParameter dialect) Anything (λ m follows. tt) (λ x w m text. tt)

parameter_starts : (dialect : Dialect) → Starts type_shapes (SpellsParameter dialect)
parameter_starts dialect = either (built _ (first _ type_starts)) (full dialect (built _ (first _ type_starts)))

module _ (dialect : Dialect) (before : Tokens) where
  abbrev Ends : Tokens → Type 0
  Ends = BeginsWithout (is_mark mark.Comma)

  pub void_there : begins (is_word keyword.Void) before ≡ true → Leaves (SpellsParameters dialect) Ends before before (λ p. []) (Word keyword.Void)
  void_there there = unmake (at_first (all_left (SpellsParameters dialect) Ends before) (by_test (apart (this_word keyword.Void) (built _ (first _ (parameter_starts dialect))) refl) there))

  pub some_there : begins (is_word keyword.Void) before ≡ false → Leaves (SpellsParameters dialect) Ends before before parameters_of (SpellsParameter dialect ⋅ Each (BehindComma (SpellsParameter dialect)))
  some_there none_there = unmake (at_second (all_left (SpellsParameters dialect) Ends before) (by_test (among (this_word keyword.Void) (built _ (of_kind (this_word keyword.Void))) refl) none_there))
