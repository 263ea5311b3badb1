-- The words of C (ISO/IEC 9899:2011, 6.4.1): the keywords, `bool` and its values, and the names of the integer types.
use Rattle.std.specs.Prelude.{ℕ, Bool, List, [], ◌∷◌, codes}
use Rattle.std.specs.List.{list_any}
use Rattle.std.specs.Str.{bytes_eq}

abbrev pub c_words : List (List ℕ)
c_words =
    codes "auto" ∷ codes "break" ∷ codes "case" ∷ codes "char" ∷ codes "const" ∷ codes "continue" ∷ codes "default" ∷
    codes "do" ∷ codes "double" ∷ codes "else" ∷ codes "enum" ∷ codes "extern" ∷ codes "float" ∷ codes "for" ∷
    codes "goto" ∷ codes "if" ∷ codes "inline" ∷ codes "int" ∷ codes "long" ∷ codes "register" ∷ codes "restrict" ∷
    codes "return" ∷ codes "short" ∷ codes "signed" ∷ codes "sizeof" ∷ codes "static" ∷ codes "struct" ∷
    codes "switch" ∷ codes "typedef" ∷ codes "union" ∷ codes "unsigned" ∷ codes "void" ∷ codes "volatile" ∷
    codes "while" ∷ codes "_Alignas" ∷ codes "_Alignof" ∷ codes "_Atomic" ∷ codes "_Bool" ∷ codes "_Complex" ∷
    codes "_Generic" ∷ codes "_Imaginary" ∷ codes "_Noreturn" ∷ codes "_Static_assert" ∷ codes "_Thread_local" ∷
    codes "bool" ∷ codes "true" ∷ codes "false" ∷ codes "int8_t" ∷ codes "int16_t" ∷ codes "int32_t" ∷
    codes "int64_t" ∷ codes "uint8_t" ∷ codes "uint16_t" ∷ codes "uint32_t" ∷ codes "uint64_t" ∷ []

unfoldable pub is_c_word : List ℕ → Bool
is_c_word bytes = list_any (bytes_eq bytes) c_words
