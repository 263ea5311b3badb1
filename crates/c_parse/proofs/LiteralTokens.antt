-- The token of a literal at the front of a text.
use Rattle.std.proofs.Common.{◌≡◌, ◌∙◌, refl, sym, ap, subst, ℕ, ◌-◌, ◌<◌, ◌≤◌, Bool, true, false, List, [], length, take, Some, inl, inr, arith}
use Rattle.std.specs.Option.{option_map}
use Rattle.std.proofs.lemmas.Bool.{false≢true, cases_lt}
use Rattle.std.proofs.lemmas.Option.{same_Some}
use Rattle.c_tree.specs.Numerals.{past_numeral, is_numeral}
use Rattle.c_tree.specs.Spellings.{numeral_by, numeral_of}
use Rattle.c_tree.specs.declared.numeral.Numeral.{Numeral}
use Rattle.c_parse.specs.Tokens.{literal_token}
use Rattle.c_parse.specs.declared.token.Token.TheVariants as token
use Rattle.c_parse.proofs.TokenKinds.{none-some}

-- a literal with its bytes read is the longest one at the front
pub literal-token-is : (bs rest spelling : List ℕ) (x : Numeral) → rest ≡ past_numeral bs → spelling ≡ take (length bs - length rest) bs → Some x ≡ numeral_of spelling → Some (token.Literal x, rest) ≡ literal_token bs
unfolding literal_token
literal-token-is bs rest spelling x past is found =
    ap (λ (l : List ℕ). Some (token.Literal x, l)) past ∙
    ap (option_map (λ (y : Numeral). (token.Literal y, past_numeral bs))) (found ∙ ap numeral_of (is ∙ ap (λ (l : List ℕ). take (length bs - length l) bs) past))

bytes-by : (n : List ℕ) (b : Bool) (is : is_numeral n ≡ b) (x : Numeral) → numeral_by n b is ≡ Some x → x.bytes ≡ n
bytes-by n true is x e = ap (λ (y : Numeral). y.bytes) (sym (same_Some _ x e))
bytes-by n false is x e = absurd (none-some x e)

empty-none : is_numeral [] ≡ true → ⊥
unfolding is_numeral
empty-none is = false≢true is

pub literal-shorter : (bs rest spelling : List ℕ) (x : Numeral) → spelling ≡ take (length bs - length rest) bs → length rest ≤ length bs → Some x ≡ numeral_of spelling → length rest < length bs
literal-shorter bs rest spelling x is within found = elim (cases_lt (length rest) (length bs)) [
  | inl less ↦ less
  | inr more ↦
      let none : length bs - length rest ≡ 0 = omega (arith, more) in
      let empty : x.bytes ≡ [] = bytes-by spelling (is_numeral spelling) refl x (sym found) ∙ is ∙ ap (λ (n : ℕ). take n bs) none in
      absurd (empty-none (subst (λ (l : List ℕ). is_numeral l ≡ true) empty x.spelled))
]
