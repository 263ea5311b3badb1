-- The token of a mark.
use Rattle.std.proofs.Common.{◌≡◌, refl, ap, Bool, true, false, Some}
use Rattle.std.specs.Str.{bytes_eq}
use Rattle.hw_text.specs.declared.place.Place.{Place}
use Rattle.hw_text.specs.declared.placed.Placed.{Placed}
use Rattle.c_parse.specs.declared.token.Token.{Token}
use Rattle.c_parse.specs.declared.token.Token.TheVariants as token
use Rattle.c_parse.specs.declared.mark.Mark.{Mark}
use Rattle.c_parse.specs.Marks.{mark_text}
use Rattle.c_parse.specs.Values.{mark_in, mark_of, found}
use Rattle.c_parse.proofs.Spellings.{marks-one}
use Rattle.c_parse.proofs.TokenKinds.{none-some}

found-so : (b : Bool) (at p : Place) → found b at ≡ Some p → b ≡ true
found-so true at p is = refl
found-so false at p is = absurd (none-some p is)

mark-in : (m : Mark) (t : Token) (at p : Place) → mark_in m t at ≡ Some p → t ≡ token.Mark m
mark-in m (token.Name n) at p is = absurd (none-some p is)
mark-in m (token.Keyword w) at p is = absurd (none-some p is)
mark-in m (token.Reserved n) at p is = absurd (none-some p is)
mark-in m (token.Literal n) at p is = absurd (none-some p is)
mark-in m (token.Mark n) at p is = ap token.Mark (marks-one n m (found-so (bytes_eq (mark_text n) (mark_text m)) at p is))

pub mark-token : (m : Mark) (t : Placed Token) (p : Place) → mark_of m t ≡ Some p → t.token ≡ token.Mark m
mark-token m t p is = mark-in m t.token t.place p is
