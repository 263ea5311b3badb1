-- The text of a spot, number by number.
use Rattle.std.proofs.Common.{◌≡◌, ℕ, ◌<◌, ◌^◌, true, List, [], ◌∷◌, ◌++◌, refl, ◌∙◌, append_assoc, arith}
use Rattle.std.specs.Char.{digit_value}
use Rattle.std.specs.Fmt.{decimal}
use Rattle.std.specs.Str.Parse.{AllDigits}
use Rattle.std.proofs.lemmas.Bool.{and_from}
use Rattle.std.proofs.lemmas.Bool.Decides.{nat_tests}
use Rattle.std.proofs.lemmas.Fmt.{decimal_is_IsNumeral}
use Rattle.hw_types.specs.declared.spot.Spot.{Spot}
use Rattle.hamr_cli.specs.TraceText.{spot_text}
use Rattle.hamr_cli.specs.TraceWord.{is_word_byte, IsWord}

digit-word : (c : ℕ) → digit_value c < 10 → is_word_byte c ≡ true
digit-word c h = grind (arith, nat_tests)

digits-word : (bs : List ℕ) → AllDigits 10 bs → IsWord bs
digits-word [] a = refl
digits-word (c ∷ cs) a = and_from (is_word_byte c) _ (digit-word c a.0) (digits-word cs a.1)

-- a number is one word
pub decimal-word : (n : ℕ) → n < 2 ^ 64 → IsWord (decimal n)
decimal-word n h = digits-word (decimal n) (decimal_is_IsNumeral n h).0.1

pub spot-split : (spot : Spot) (more bytes : List ℕ) → bytes ≡ spot_text spot ++ more →
    bytes ≡ decimal spot.frame ++ 32 ∷ (decimal spot.slot ++ 32 ∷ more)
spot-split spot more bytes e = e ∙ simp append_assoc

pub same-spot : (frame slot : ℕ) (spot : Spot) → frame ≡ spot.frame → slot ≡ spot.slot → (record { frame = frame; slot = slot }) ≡ spot
same-spot frame slot spot e f = rw (e, f) refl
