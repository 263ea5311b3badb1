-- How the tokens of a canonical text are laid out on lines (this project's own; docs/formats/model.md).
use Rattle.std.specs.Prelude.{ℕ, pos, Bool, true, false, ◌&&◌, if◌then◌else◌, List, [], ◌∷◌, ◌++◌, codes}
use Rattle.std.specs.Fmt.{signed_decimal}
use Rattle.aadl_tree.specs.declared.token.Token.{Token}
use Rattle.aadl_tree.specs.declared.token.Token.TheVariants as token
use Rattle.aadl_tree.specs.declared.word.Word.{Word}
use Rattle.aadl_tree.specs.declared.word.Word.TheVariants as word
use Rattle.aadl_tree.specs.declared.mark.Mark.{Mark}
use Rattle.aadl_tree.specs.declared.mark.Mark.TheVariants as mark
use Rattle.aadl_tree.specs.declared.package.Package.{Package}
use Rattle.aadl_tree.specs.declared.page.Margin.{Margin}
use Rattle.aadl_tree.specs.declared.page.Margin.TheVariants.{LineStart, Loose, Tight}
use Rattle.aadl_tree.specs.Allowed.{is_allowed}
use Rattle.aadl_tree.specs.Marks.{mark_spelling}
use Rattle.aadl_tree.specs.Packages.{package_tokens}
use Rattle.aadl_tree.specs.Sheet.{Sheet}
use Rattle.aadl_tree.specs.Words.{word_spelling}

-- names and words in lower case, whole numbers in decimal, all else as it is written
abbrev pub token_text : Token → List ℕ
token_text (token.Name n) = n
token_text (token.Word w) = word_spelling w
token_text (token.Integer n) = signed_decimal (pos n)
token_text (token.Real r) = r
token_text (token.Text t) = codes "\"" ++ t ++ codes "\""
token_text (token.SpoiltText n) = []
token_text (token.Annex t) = codes "{**" ++ t ++ codes "**}"
token_text (token.Mark m) = mark_spelling m

-- the words before which a line ends
abbrev pub word_begins_line : Word → Bool
word_begins_line word.Features = true
word_begins_line word.Subcomponents = true
word_begins_line word.Connections = true
word_begins_line word.Properties = true
word_begins_line word.Annex = true
word_begins_line word.End = true
word_begins_line _ = false

-- the words behind which a line ends
abbrev pub word_ends_line : Word → Bool
word_ends_line word.Public = true
word_ends_line word.Features = true
word_ends_line word.Subcomponents = true
word_ends_line word.Connections = true
word_ends_line word.Properties = true
word_ends_line _ = false

abbrev pub is_semicolon : Mark → Bool
is_semicolon mark.Semicolon = true
is_semicolon _ = false

-- the marks with no space on either side
abbrev pub is_tight : Mark → Bool
is_tight mark.DoubleColon = true
is_tight mark.Dot = true
is_tight _ = false

-- the marks with no space before them
abbrev pub is_close : Mark → Bool
is_close mark.Semicolon = true
is_close mark.Comma = true
is_close mark.DoubleColon = true
is_close mark.Dot = true
is_close _ = false

-- what a token that begins a line or does not, and is close to the one before it or not, has before it
abbrev pub gap_text : Margin → Bool → Bool → List ℕ
gap_text LineStart begins close = []
gap_text Loose begins close = if begins then 10 ∷ [] else (if close then [] else codes " ")
gap_text Tight begins close = if begins then 10 ∷ [] else []

-- a line end, or a space, or nothing
abbrev pub gap : Margin → Token → List ℕ
gap m (token.Word w) = gap_text m (word_begins_line w) false
gap m (token.Mark k) = gap_text m false (is_close k)
gap m _ = gap_text m false false

abbrev pub line_end : Bool → List ℕ
line_end ends = if ends then 10 ∷ [] else []

abbrev pub ends_line : Token → Bool
ends_line (token.Word w) = word_ends_line w
ends_line (token.Mark m) = is_semicolon m
ends_line _ = false

abbrev pub margin_of : Bool → Bool → Margin
margin_of ends tight = if ends then LineStart else (if tight then Tight else Loose)

-- where the next token will stand
abbrev pub margin_behind : Token → Margin
margin_behind (token.Word w) = margin_of (word_ends_line w) false
margin_behind (token.Mark m) = margin_of (is_semicolon m) (is_tight m)
margin_behind _ = Loose

-- these tokens on their lines, the first of them standing there
abbrev pub laid_from : Margin → List Token → List ℕ
laid_from m [] = []
laid_from m (t ∷ ts) = gap m t ++ token_text t ++ line_end (ends_line t) ++ laid_from (margin_behind t) ts

abbrev pub canonical_text : Package → List ℕ
canonical_text p = laid_from LineStart (package_tokens p)

-- a page with one more token on it
unfoldable pub with_token : Sheet → Token → Sheet
with_token page t = record {
  text = page.text ++ gap page.margin t ++ token_text t ++ line_end (ends_line t);
  margin = margin_behind t;
  sound = page.sound && is_allowed t;
}

-- a page with these tokens more on it
abbrev pub written : Sheet → List Token → Sheet
written page [] = page
written page (t ∷ ts) = written (with_token page t) ts
