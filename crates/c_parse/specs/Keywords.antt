-- The words that the grammar uses (ISO/IEC 9899:2011, 6.4.1; docs/formats/c.md).
use Rattle.std.specs.Prelude.{ℕ, List, [], ◌∷◌, codes, Option, Some, None, if◌then◌else◌}
use Rattle.std.specs.Str.{bytes_eq}
use Rattle.c_tree.specs.declared.integer_type.IntegerType.TheVariants.{I8, I16, I32, I64, U8, U16, U32, U64}
use Rattle.c_parse.specs.declared.keyword.Keyword.{Keyword}
use Rattle.c_parse.specs.declared.keyword.Keyword.TheVariants as keyword
use Rattle.c_tree.specs.Types.{integer_text}

abbrev pub keyword_text : Keyword → List ℕ
keyword_text keyword.Static = codes "static"
keyword_text keyword.Void = codes "void"
keyword_text keyword.Return = codes "return"
keyword_text keyword.True = codes "true"
keyword_text keyword.False = codes "false"
keyword_text keyword.If = codes "if"
keyword_text keyword.Else = codes "else"
keyword_text keyword.For = codes "for"
keyword_text keyword.Extern = codes "extern"
keyword_text keyword.Volatile = codes "volatile"
keyword_text keyword.Typedef = codes "typedef"
keyword_text keyword.Enum = codes "enum"
keyword_text keyword.Struct = codes "struct"
keyword_text keyword.Break = codes "break"
keyword_text keyword.Bool = codes "bool"
keyword_text (keyword.Integer class) = integer_text class

abbrev pub all_keywords : List Keyword
all_keywords =
    keyword.Static ∷ keyword.Void ∷ keyword.Return ∷ keyword.True ∷ keyword.False ∷ keyword.If ∷ keyword.Else ∷
    keyword.For ∷ keyword.Extern ∷ keyword.Volatile ∷ keyword.Typedef ∷ keyword.Enum ∷ keyword.Struct ∷
    keyword.Break ∷ keyword.Bool ∷ keyword.Integer I8 ∷ keyword.Integer I16 ∷ keyword.Integer I32 ∷
    keyword.Integer I64 ∷ keyword.Integer U8 ∷ keyword.Integer U16 ∷ keyword.Integer U32 ∷ keyword.Integer U64 ∷ []

-- the first of these words that the bytes spell
abbrev pub keyword_among : List Keyword → List ℕ → Option Keyword
keyword_among [] bs = None
keyword_among (w ∷ ws) bs = if bytes_eq bs (keyword_text w) then Some w else keyword_among ws bs

-- the word that the bytes spell
unfoldable pub keyword_named : List ℕ → Option Keyword
keyword_named bs = keyword_among all_keywords bs
