-- White space, comments and lines that begin with `#include` (ISO/IEC 9899:2011, 6.4.9; such a line is passed over as it stands;
-- docs/formats/c.md).
use Rattle.std.specs.Prelude.{ℕ, Bool, true, false, ◌&&◌, ◌==◌, if◌then◌else◌, List, [], ◌∷◌, codes, Option, Some, None, is_some, unwrap_or}
use Rattle.std.specs.Option.{option_map}
use Rattle.hw_text.specs.Text.{is_white, begins_with, behind_bytes}
use Rattle.c_parse.specs.declared.blank.Blank.{Blank}
use Rattle.c_parse.specs.declared.blank.Blank.TheVariants.{LineStart, Between, Line, Opening, Comment, Closing}

-- what may follow a blank at a byte and those behind it, white space or the beginning of a comment
abbrev pub between : ℕ → List ℕ → Option Blank
between b bs =
    if b == 10 then Some LineStart
    else if is_white b then Some Between
    else if (b == 47) && begins_with 47 bs then Some Line
    else if (b == 47) && begins_with 42 bs then Some Opening
    else None

-- `#include`, whatever goes on behind it
abbrev pub begins_include : ℕ → List ℕ → Bool
begins_include b bs = (b == 35) && is_some (behind_bytes (codes "include") bs)

-- where a byte and those behind it lead, or nowhere where no blank goes on with the byte
abbrev pub next_blank : Blank → ℕ → List ℕ → Option Blank
next_blank LineStart b bs = if begins_include b bs then Some Line else between b bs
next_blank Between b bs = between b bs
next_blank Line b bs = if b == 10 then Some LineStart else Some Line
next_blank Opening b bs = Some Comment
next_blank Comment b bs = if (b == 42) && begins_with 47 bs then Some Closing else Some Comment
next_blank Closing b bs = Some Between

-- in a comment that is not closed
abbrev pub is_open : Blank → Bool
is_open LineStart = false
is_open Between = false
is_open Line = false
is_open Opening = true
is_open Comment = true
is_open Closing = true

-- where the comment began in which this blank is
abbrev pub comment_start : Blank → List ℕ → List ℕ → List ℕ
comment_start LineStart here start = start
comment_start Between here start = start
comment_start Line here start = start
comment_start Opening here start = here
comment_start Comment here start = start
comment_start Closing here start = start

-- the text from its first token on, or from what begins none, as a comment that is not closed
abbrev pub skipped_from : Blank → List ℕ → List ℕ → List ℕ
skipped_from blank start [] = if is_open blank then start else []
skipped_from blank start (b ∷ bs) =
    unwrap_or (option_map (λ next. skipped_from next (comment_start next (b ∷ bs) start) bs) (next_blank blank b bs)) (b ∷ bs)

-- of a text that begins a line, and of one that stands behind a token
abbrev pub first_skipped : List ℕ → List ℕ
first_skipped bs = skipped_from LineStart [] bs

abbrev pub skipped : List ℕ → List ℕ
skipped bs = skipped_from Between [] bs
