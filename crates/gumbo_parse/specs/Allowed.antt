-- Which tokens the types of contracts allow (docs/formats/contracts.md).
use Rattle.std.specs.Prelude.{◌≡◌, ◌^◌, Bool, true, false, ◌&&◌, ◌==◌, nat_lt, List, length}
use Rattle.std.specs.List.{All}
use Rattle.std.specs.Str.{bytes_eq}
use Rattle.hw_text.specs.Name.{lowered}
use Rattle.hw_text.specs.Text.{text_length}
use Rattle.gumbo_parse.specs.declared.token.Token.{Token}
use Rattle.gumbo_parse.specs.declared.token.Token.TheVariants as token
use Rattle.gumbo_parse.specs.Words.{is_identifier}

-- names in lower case that are no words, whole numbers below 2^127, and texts without quotes and line ends
abbrev pub is_allowed : Token → Bool
is_allowed (token.Name n) = is_identifier n && bytes_eq (lowered n) n
is_allowed (token.Word w) = true
is_allowed token.Reserved = false
is_allowed (token.Number v) = nat_lt v (2 ^ 127)
is_allowed (token.Text d) = text_length d == length d
is_allowed (token.Mark m) = true

abbrev pub IsAllowed : Token → Type 0
IsAllowed t = is_allowed t ≡ true

abbrev pub AreAllowed : List Token → Type 0
AreAllowed ts = All IsAllowed ts
