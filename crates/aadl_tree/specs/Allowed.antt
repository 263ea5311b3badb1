-- Which tokens the types of trees allow (docs/formats/model.md).
use Rattle.std.specs.Prelude.{◌≡◌, ◌^◌, Bool, true, false, ◌&&◌, ◌==◌, nat_lt, List, length}
use Rattle.std.specs.List.{All}
use Rattle.std.specs.Str.{bytes_eq}
use Rattle.hw_text.specs.Name.{is_name, lowered}
use Rattle.aadl_tree.specs.declared.token.Token.{Token}
use Rattle.aadl_tree.specs.declared.token.Token.TheVariants as token
use Rattle.aadl_tree.specs.Text.{quotable_length, annex_length, is_real}

-- names in lower case, whole numbers below 2^127, real numbers as they are written, texts without what may not stand between quotes, and
-- annex texts without `**}`
abbrev pub is_allowed : Token → Bool
is_allowed (token.Name n) = is_name n && bytes_eq (lowered n) n
is_allowed (token.Word w) = true
is_allowed (token.Integer n) = nat_lt n (2 ^ 127)
is_allowed (token.Real r) = is_real r
is_allowed (token.Text t) = quotable_length t == length t
is_allowed (token.SpoiltText n) = false
is_allowed (token.Annex t) = annex_length t == length t
is_allowed (token.Mark m) = true

abbrev pub IsAllowed : Token → Type 0
IsAllowed t = is_allowed t ≡ true

abbrev pub AreAllowed : List Token → Type 0
AreAllowed ts = All IsAllowed ts
