-- Marks and texts between quotes at the front of a text.
use Rattle.std.proofs.Common.{◌≡◌, ℕ, Bool, true, false, ◌||◌, ◌==◌, ◌+◌, suc, List, [], ◌∷◌, ◌++◌, length, codes, Some, refl, cond, add-one, append_assoc, arith}
use Rattle.std.proofs.Math.Seq.{take-append_seam, drop-append_seam}
use Rattle.std.proofs.lemmas.Bool.{eqb-true, false≢true}
use Rattle.hw_text.specs.Text.{begins_with, text_length}
use Rattle.gumbo_parse.specs.declared.token.Token.TheVariants as token
use Rattle.gumbo_parse.specs.declared.mark.Mark.{Mark}
use Rattle.gumbo_parse.specs.declared.mark.Mark.TheVariants as mark
use Rattle.gumbo_parse.specs.Marks.{mark_spelling, mark_at}
use Rattle.gumbo_parse.specs.Tokens.{mark_token, text_token, token_at}
use Rattle.gumbo_parse.proofs.NumberTokens.{NoSign}
use Rattle.gumbo_parse.proofs.Written.{StandsBefore}

-- the marks that no byte behind them goes on with
abbrev pub is_closed : Mark → Bool
is_closed mark.Semicolon = true
is_closed mark.Comma = true
is_closed mark.DoubleColon = true
is_closed mark.OpenParenthesis = true
is_closed mark.CloseParenthesis = true
is_closed mark.OpenBracket = true
is_closed mark.CloseBracket = true
is_closed _ = false

pub closed-stands : (m : Mark) (rest : List ℕ) → is_closed m ≡ true → StandsBefore (mark_spelling m) (token.Mark m) rest
unfolding token_at mark_token mark_at
closed-stands mark.Semicolon rest e = (refl, refl)
closed-stands mark.Comma rest e = (refl, refl)
closed-stands mark.DoubleColon rest e = (refl, refl)
closed-stands mark.OpenParenthesis rest e = (refl, refl)
closed-stands mark.CloseParenthesis rest e = (refl, refl)
closed-stands mark.OpenBracket rest e = (refl, refl)
closed-stands mark.CloseBracket rest e = (refl, refl)
closed-stands _ rest e = absurd (false≢true e)

pub before-space : (m : Mark) (bs : List ℕ) → StandsBefore (mark_spelling m) (token.Mark m) (32 ∷ bs)
unfolding token_at mark_token mark_at
before-space mark.Addition bs = (refl, refl)
before-space _ bs = (refl, refl)

pub colon-before-line : (bs : List ℕ) → StandsBefore (codes ":") (token.Mark mark.Colon) (10 ∷ bs)
unfolding token_at mark_token mark_at
colon-before-line bs = (refl, refl)

pub dot-stands : (rest : List ℕ) → begins_with 46 rest ≡ false → StandsBefore (codes ".") (token.Mark mark.Dot) rest
unfolding token_at mark_token mark_at
dot-stands [] e = (refl, refl)
dot-stands (b ∷ bs) e = (refl, rw e refl)

pub minus-stands : (rest : List ℕ) → NoSign rest → StandsBefore (codes "-") (token.Mark mark.Minus) rest
unfolding token_at mark_token mark_at
minus-stands [] e = (refl, refl)
minus-stands (b ∷ bs) e = (rw e.0 refl, rw e.1 refl)

text-parts : (v : Bool) (n m : ℕ) → cond v 0 (n + 1) ≡ suc m → (v ≡ false) × (n ≡ m)
text-parts true n m e = absurd (omega (arith, e))
text-parts false n m e = (refl, omega (arith, e))

text-over : (t rest : List ℕ) → text_length t ≡ length t → text_length (t ++ 34 ∷ rest) ≡ length t
text-over [] rest e = refl
text-over (b ∷ t) rest e =
    let parts = text-parts ((b == 34) || (b == 10)) (text_length t) (length t) e in
    rw (parts.0, text-over t rest parts.1, add-one) refl

quote-front : (t rest all : List ℕ) → all ≡ t ++ 34 ∷ rest → text_length t ≡ length t → text_token all ≡ Some (token.Text t, rest)
unfolding text_token
quote-front t rest all is e = rw (is, text-over t rest e, take-append_seam t (34 ∷ rest), drop-append_seam t (34 ∷ rest)) refl

pub text-stands : (t rest : List ℕ) → (text_length t == length t) ≡ true → StandsBefore (codes "\"" ++ t ++ codes "\"") (token.Text t) rest
unfolding token_at
text-stands t rest e = (refl, quote-front t rest ((t ++ codes "\"") ++ rest) (append_assoc t (codes "\"") rest) (eqb-true (text_length t) (length t) e))
