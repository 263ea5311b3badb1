-- What tokens stand for in the grammar.
use Rattle.std.specs.Prelude.{Bool, true, false, ◌||◌, List, codes, Option, Some, None, is_some}
use Rattle.std.specs.Str.{bytes_eq}
use Rattle.hw_text.specs.declared.place.Place.{Place}
use Rattle.hw_text.specs.declared.placed.Placed.{Placed}
use Rattle.c_tree.specs.declared.identifier.Identifier.{Identifier}
use Rattle.c_tree.specs.declared.integer_type.IntegerType.{IntegerType}
use Rattle.c_tree.specs.declared.named.Named.{Named}
use Rattle.c_tree.specs.declared.named.Literal.{Literal}
use Rattle.c_parse.specs.declared.keyword.Keyword.{Keyword}
use Rattle.c_parse.specs.declared.keyword.Keyword.TheVariants as keyword
use Rattle.c_parse.specs.declared.mark.Mark.{Mark}
use Rattle.c_parse.specs.declared.token.Token.{Token}
use Rattle.c_parse.specs.declared.token.Token.TheVariants as token
use Rattle.c_parse.specs.Keywords.{keyword_text}
use Rattle.c_parse.specs.Marks.{mark_text}

abbrev pub Tokens : Type 0
Tokens = List (Placed Token)

abbrev pub found : Bool → Place → Option Place
found true at = Some at
found false at = None

-- where this mark stands
abbrev pub mark_in : Mark → Token → Place → Option Place
mark_in m (token.Mark n) at = found (bytes_eq (mark_text n) (mark_text m)) at
mark_in m _ at = None

abbrev pub mark_of : Mark → Placed Token → Option Place
mark_of m t = mark_in m t.token t.place

abbrev pub is_mark : Mark → Placed Token → Bool
is_mark m t = is_some (mark_of m t)

-- where this word stands
abbrev pub keyword_in : Keyword → Token → Place → Option Place
keyword_in w (token.Keyword v) at = found (bytes_eq (keyword_text v) (keyword_text w)) at
keyword_in w _ at = None

abbrev pub keyword_of : Keyword → Placed Token → Option Place
keyword_of w t = keyword_in w t.token t.place

abbrev pub is_word : Keyword → Placed Token → Bool
is_word w t = is_some (keyword_of w t)

abbrev pub name_in : Token → Place → Option Named
name_in (token.Name n) at = Some (record { name = n; place = at })
name_in _ at = None

abbrev pub name_of : Placed Token → Option Named
name_of t = name_in t.token t.place

abbrev pub is_name : Placed Token → Bool
is_name t = is_some (name_of t)

-- the token of a name
abbrev pub name_token : Named → Placed Token
name_token x = record { token = token.Name x.name; place = x.place }

-- where this name stands
abbrev pub again_in : Identifier → Token → Place → Option Place
again_in n (token.Name other) at = found (bytes_eq other.bytes n.bytes) at
again_in n _ at = None

abbrev pub again_of : Identifier → Placed Token → Option Place
again_of n t = again_in n t.token t.place

abbrev pub literal_in : Token → Place → Option Literal
literal_in (token.Literal n) at = Some (record { numeral = n; place = at })
literal_in _ at = None

abbrev pub literal_of : Placed Token → Option Literal
literal_of t = literal_in t.token t.place

abbrev pub is_literal : Placed Token → Bool
is_literal t = is_some (literal_of t)

-- a literal that is spelled `0`
abbrev pub zero_in : Token → Place → Option Place
zero_in (token.Literal n) at = found (bytes_eq n.bytes (codes "0")) at
zero_in _ at = None

abbrev pub zero_of : Placed Token → Option Place
zero_of t = zero_in t.token t.place

-- an integer type, and where it stands
abbrev pub integer_in : Token → Place → Option (Place × IntegerType)
integer_in (token.Keyword (keyword.Integer class)) at = Some (at, class)
integer_in _ at = None

abbrev pub integer_of : Placed Token → Option (Place × IntegerType)
integer_of t = integer_in t.token t.place

abbrev pub is_integer : Placed Token → Bool
is_integer t = is_some (integer_of t)

-- a type that is no name
abbrev pub is_plain_type : Placed Token → Bool
is_plain_type t = is_integer t || is_word keyword.Bool t

-- `true` or `false`, and where it stands
abbrev pub truth_in : Token → Place → Option (Place × Bool)
truth_in (token.Keyword keyword.True) at = Some (at, true)
truth_in (token.Keyword keyword.False) at = Some (at, false)
truth_in _ at = None

abbrev pub truth_of : Placed Token → Option (Place × Bool)
truth_of t = truth_in t.token t.place

abbrev pub is_truth : Placed Token → Bool
is_truth t = is_some (truth_of t)
