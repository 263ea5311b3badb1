-- What may stand in texts, annexes and real numbers (docs/formats/model.md).
use Rattle.std.specs.Prelude.{ℕ, ◌+◌, ◌^◌, Bool, ◌&&◌, ◌||◌, not, ◌==◌, nat_lt, nat_le, is_some, if◌then◌else◌, List, [], ◌∷◌, length, take, drop, codes}
use Rattle.hw_text.specs.Text.{run_length, begins_in, begins_with, behind_bytes, decimal, is_white}
use Rattle.hw_text.specs.declared.bytes.ByteClass.TheVariants.{Digits}

-- what stands nowhere but in comments and annex texts: a byte above 127, and a control byte other than TAB, LF and CR
abbrev pub is_bad_byte : ℕ → Bool
is_bad_byte b = nat_le 127 b || (nat_lt b 32 && not (is_white b))

-- what may stand between quotes: neither a quote, nor a line end, nor a bad byte
abbrev pub is_quotable : ℕ → Bool
is_quotable b = not (is_bad_byte b) && (not (b == 34) && not (b == 10))

-- how many bytes stand before the first that may not stand between quotes, or before the end
abbrev pub quotable_length : List ℕ → ℕ
quotable_length [] = 0
quotable_length (b ∷ bs) = if is_quotable b then quotable_length bs + 1 else 0

-- how many bytes stand before the first `**}`, or the end
abbrev pub annex_length : List ℕ → ℕ
annex_length [] = 0
annex_length (b ∷ bs) = if is_some (behind_bytes (codes "**}") (b ∷ bs)) then 0 else annex_length bs + 1

-- digits, with single underscores between them
abbrev pub is_run_of_digits : List ℕ → Bool
is_run_of_digits bs = begins_in Digits bs && (run_length Digits bs == length bs)

-- such digits, which are less than 2^127, a point, and more digits
abbrev pub is_real_with : ℕ → List ℕ → Bool
is_real_with whole bs =
    is_run_of_digits (take whole bs) && (nat_lt (decimal 0 (take whole bs)) (2 ^ 127) &&
    (begins_with 46 (drop whole bs) && is_run_of_digits (drop 1 (drop whole bs))))

unfoldable pub is_real : List ℕ → Bool
is_real bs = is_real_with (run_length Digits bs) bs
