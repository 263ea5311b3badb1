-- The text of a value is read back in one way.
use Rattle.std.proofs.Common.{◌≡◌, ℕ, ℤ, pos, negsuc, suc, ◌<◌, List, [], ◌∷◌, ◌++◌, length, refl, sym, ◌∙◌, arith}
use Rattle.std.specs.Fmt.{signed_decimal}
use Rattle.std.proofs.lemmas.Bool.{and_from}
use Rattle.std.proofs.lemmas.Fmt.{decimal_nonempty}
use Rattle.std.proofs.lemmas.Int.{ints}
use Rattle.hw_types.specs.Value.{IsScalarValue}
use Rattle.hw_types.specs.declared.scalar.Scalar.TheVariants.{I32}
use Rattle.hamr_cli.specs.PortType.{IsPortValue}
use Rattle.hamr_cli.specs.TraceText.{value_text}
use Rattle.hamr_cli.specs.TraceWord.{is_word_byte, IsWord, EndsWord}
use Rattle.hamr_cli.proofs.TraceSpots.{decimal-word}
use Rattle.hamr_cli.proofs.TraceWords.{one_split, no_end}

signed-word : (z : ℤ) → IsScalarValue I32 z → IsWord (signed_decimal z)
signed-word (pos n) h = decimal-word n (omega (arith, ints, h.high))
signed-word (negsuc n) h = and_from (is_word_byte 45) _ refl (decimal-word (suc n) (omega (arith, ints, h.low)))

-- a value in front, word by word
pub record IsValueText (value : List ℤ) (word rest more : List ℕ) : Type 0 where
  pub number : ℤ
  pub is : value ≡ number ∷ []
  pub bits : IsScalarValue I32 number
  pub text : word ≡ signed_decimal number
  pub back : rest ≡ more

pub value-split : (value : List ℤ) (bytes word rest more : List ℕ) → IsPortValue value → IsWord word → EndsWord rest → EndsWord more →
    bytes ≡ word ++ rest → bytes ≡ value_text value ++ more → IsValueText value word rest more
value-split [] bytes word rest more h w r m e f = absurd h
value-split (z ∷ []) bytes word rest more h w r m e f =
    let s = one_split word rest (signed_decimal z) more w r (signed-word z h.0) m (sym e ∙ f) in
    record { number = z; is = refl; bits = h.0; text = s.front; back = s.back }
value-split (z ∷ y ∷ zs) bytes word rest more h w r m e f = absurd h.1

-- a value's text does not begin with a mark
word-begins : (word : List ℕ) (mark : ℕ) (x after : List ℕ) → IsWord word → 0 < length word → EndsWord (mark ∷ x) → mark ∷ x ≡ word ++ after → ⊥
word-begins [] mark x after w some m e = absurd (omega arith)
word-begins (b ∷ bs) mark x after w some m e = no_end b bs (bs ++ after) (mark ∷ x) w m e

signed-some : (z : ℤ) → IsScalarValue I32 z → 0 < length (signed_decimal z)
signed-some (pos n) h = decimal_nonempty n (omega (arith, ints, h.high))
signed-some (negsuc n) h = omega arith

pub value-begins : (value : List ℤ) (mark : ℕ) (x after : List ℕ) → IsPortValue value → EndsWord (mark ∷ x) → mark ∷ x ≡ value_text value ++ after → ⊥
value-begins [] mark x after h m e = h
value-begins (z ∷ []) mark x after h m e = word-begins (signed_decimal z) mark x after (signed-word z h.0) (signed-some z h.0) m e
value-begins (z ∷ y ∷ zs) mark x after h m e = h.1
