-- Typedefs: texts of their parts, and what stands behind which.
use Rattle.std.proofs.Common.{◌≡◌, refl, ◌++◌, true, false, inl, inr, ◌∷◌, []}
use Rattle.hw_text.specs.Language.{◌∣◌, Made}
use Rattle.hw_text.specs.Reading.{begins, BeginsWith, BeginsWithout, Anything, Leaves}
use Rattle.c_parse.specs.declared.keyword.Keyword.{Keyword}
use Rattle.c_parse.specs.declared.keyword.Keyword.TheVariants as keyword
use Rattle.c_parse.specs.declared.mark.Mark.TheVariants as mark
use Rattle.c_parse.specs.Values.{Tokens, is_mark, is_word}
use Rattle.c_parse.specs.ExpressionGrammar.{Sign, Name}
use Rattle.c_parse.specs.CallGrammar.{BehindComma, SpellsType}
use Rattle.c_tree.specs.declared.item.Item.{Item}
use Rattle.c_tree.specs.declared.item.Item.TheVariants as item
use Rattle.c_tree.specs.declared.type_name.TypeName.TheVariants as class
use Rattle.c_parse.specs.TypedefGrammar.{Opening, Closing, SpellsMember, member_of, SpellsEnumeration, SpellsStructure, SpellsTypedef, enumeration_of}
use Rattle.c_parse.proofs.Steps.{Sample, both, sample_of, nothing_there, no_member, at_first, at_second, unmake, by_test}
use Rattle.c_parse.proofs.Lists.{Listed, some_member}
use Rattle.c_parse.proofs.Leaves.{the_sign, the_word, the_name}
use Rattle.c_parse.proofs.Shapes.{built, first, apart, among}
use Rattle.c_parse.proofs.TokenShapes.{Starts, sign_shape, word_shape, this_sign, this_word, of_kind, sign, word}
use Rattle.c_parse.proofs.TypeTexts.{type_shapes, type_starts}

pub an_opening : (w : Keyword) → Sample (Opening w)
an_opening w = sample_of (λ p. tt) (both (the_word w) (the_sign mark.OpenBrace))

pub a_closing : Sample Closing
a_closing = sample_of (λ p. p.1.0) (both (the_sign mark.CloseBrace) (both the_name (the_sign mark.Semicolon)))

pub a_type : Sample SpellsType
a_type = (class.Defined the_name.0, the_name.1, inr (inr (the_name.0, refl, the_name.2)))

pub a_member : Sample SpellsMember
a_member = sample_of member_of (both a_type (both the_name (both (nothing_there _) (the_sign mark.Semicolon))))

closing_starts : Starts (sign_shape mark.CloseBrace ∷ []) Closing
closing_starts = built _ (first _ (sign mark.CloseBrace refl))

pub names-follow : (y : _) (w m : Tokens) → Closing y w → Anything m → BeginsWithout (is_mark mark.Comma) (w ++ m)
names-follow y w m text follows = apart (this_sign mark.Comma) closing_starts refl y w m text

pub members-follow : (y : _) (w m : Tokens) → Closing y w → Anything m → BeginsWith (is_mark mark.CloseBrace) (w ++ m)
members-follow y w m text follows = among (this_sign mark.CloseBrace) closing_starts refl y w m text

pub length-follow : (F : Tokens → Type 0) (y : _) (w m : Tokens) → Sign mark.Semicolon y w → F m → BeginsWithout (is_mark mark.OpenBracket) (w ++ m)
length-follow F y w m text follows = apart (this_sign mark.OpenBracket) (of_kind (this_sign mark.Semicolon)) refl y w m text

comma_starts : {X : Type 0} (A : X → Tokens → Type 0) → Starts (sign_shape mark.Comma ∷ []) (BehindComma A)
comma_starts A = built _ (first A (sign mark.Comma refl))

-- what stands behind commas
pub separated : {X : Type 0} (A : X → Tokens → Type 0) (Behind : Tokens → Type 0) → ((m : Tokens) → BeginsWithout (is_mark mark.Comma) m → Behind m) → ((x : X) (w m : Tokens) → BehindComma A x w → Behind (w ++ m)) → Listed (BehindComma A) (is_mark mark.Comma) true Behind (BeginsWithout (is_mark mark.Comma))
separated A Behind follow next = record {
  some = some_member (comma_starts A);
  starts = among (this_sign mark.Comma) (comma_starts A) refl;
  ends = λ m follows. follows;
  follow = follow;
  next = next;
}

pub names : Listed (BehindComma Name) (is_mark mark.Comma) true Anything (BeginsWithout (is_mark mark.Comma))
names = separated Name Anything (λ m follows. tt) (λ x w m text. tt)

member_starts : Starts type_shapes SpellsMember
member_starts = built _ (first _ type_starts)

pub members : Listed SpellsMember (is_mark mark.CloseBrace) false Anything (BeginsWith (is_mark mark.CloseBrace))
members = record {
  some = some_member member_starts;
  starts = apart (this_sign mark.CloseBrace) member_starts refl;
  ends = λ m follows. follows;
  follow = λ m follows. tt;
  next = λ x w m text. tt;
}

abbrev Either : Item → Tokens → Type 0
Either = Made item.Enumeration SpellsEnumeration ∣ Made item.Structure SpellsStructure

pub a_typedef : Sample Either
a_typedef =
    let s = both (an_opening keyword.Enum) (both the_name (both (no_member (BehindComma Name)) a_closing)) in
    (item.Enumeration (enumeration_of s.0), s.1, inl (enumeration_of s.0, refl, (s.0, refl, s.2)))

enumeration_starts : Starts (word_shape keyword.Enum ∷ []) (Made item.Enumeration SpellsEnumeration)
enumeration_starts = built _ (built _ (first _ (built _ (first _ (word keyword.Enum refl)))))

structure_starts : Starts (word_shape keyword.Struct ∷ []) (Made item.Structure SpellsStructure)
structure_starts = built _ (built _ (first _ (built _ (first _ (word keyword.Struct refl)))))

module _ {before at : Tokens} {build : Item → Item} (so : Leaves SpellsTypedef Anything before at build Either) where
  pub enum_there : begins (is_word keyword.Enum) at ≡ true → Leaves SpellsTypedef Anything before at (λ e. build (item.Enumeration e)) SpellsEnumeration
  enum_there there = unmake (at_first so (by_test (apart (this_word keyword.Enum) structure_starts refl) there))

  pub struct_there : begins (is_word keyword.Enum) at ≡ false → Leaves SpellsTypedef Anything before at (λ s. build (item.Structure s)) SpellsStructure
  struct_there none = unmake (at_second so (by_test (among (this_word keyword.Enum) enumeration_starts refl) none))
