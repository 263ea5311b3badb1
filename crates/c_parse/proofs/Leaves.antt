-- Small texts of one token.
use Rattle.std.proofs.Common.{◌≡◌, refl, ap, [], ◌∷◌, Bool, Some}
use Rattle.hw_text.specs.declared.place.Place.{Place}
use Rattle.hw_text.specs.declared.placed.Placed.{Placed}
use Rattle.hw_text.specs.Language.{One}
use Rattle.c_tree.specs.Spellings.{zero}
use Rattle.c_parse.specs.declared.token.Token.{Token}
use Rattle.c_parse.specs.declared.token.Token.TheVariants as token
use Rattle.c_parse.specs.declared.keyword.Keyword.{Keyword}
use Rattle.c_parse.specs.declared.mark.Mark.{Mark}
use Rattle.c_parse.specs.Keywords.{keyword_text}
use Rattle.c_parse.specs.Marks.{mark_text}
use Rattle.c_parse.specs.Samples.{letter_a}
use Rattle.c_parse.specs.Tokens.{start}
use Rattle.c_parse.specs.Values.{found, mark_of, keyword_of, literal_of, zero_of}
use Rattle.c_parse.specs.ExpressionGrammar.{Sign, Name}
use Rattle.c_parse.specs.CallGrammar.{Word}
use Rattle.c_parse.proofs.Spellings.{same-bytes}
use Rattle.c_parse.proofs.Steps.{Sample}

abbrev pub put : Token → Place → Placed Token
put t p = record { token = t; place = p }

-- each mark and each word is read as itself
pub a_sign : (m : Mark) → (t : Placed Token) × (p : Place) × (mark_of m t ≡ Some p)
a_sign m = (put (token.Mark m) start, start, ap (λ (b : Bool). found b start) (same-bytes (mark_text m)))

pub a_word : (w : Keyword) → (t : Placed Token) × (p : Place) × (keyword_of w t ≡ Some p)
a_word w = (put (token.Keyword w) start, start, ap (λ (b : Bool). found b start) (same-bytes (keyword_text w)))

pub the_sign : (m : Mark) → Sample (Sign m)
the_sign m = let s = a_sign m in (s.1, s.0 ∷ [], (s.0, refl, s.2))

pub the_word : (w : Keyword) → Sample (Word w)
the_word w = let s = a_word w in (s.1, s.0 ∷ [], (s.0, refl, s.2))

pub the_name : Sample Name
the_name = (record { name = letter_a; place = start }, put (token.Name letter_a) start ∷ [], (put (token.Name letter_a) start, refl, refl))

pub the_zero : Sample (One zero_of)
the_zero = (start, put (token.Literal zero) start ∷ [], (put (token.Literal zero) start, refl, refl))

pub the_literal : Sample (One literal_of)
the_literal = (record { numeral = zero; place = start }, put (token.Literal zero) start ∷ [], (put (token.Literal zero) start, refl, refl))
