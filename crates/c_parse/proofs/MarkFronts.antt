-- Marks at the front of a text.
use Rattle.std.proofs.Common.{◌≡◌, ℕ, Bool, true, false, List, [], ◌∷◌, codes, refl}
use Rattle.std.proofs.lemmas.Bool.{false≢true}
use Rattle.hw_text.specs.Text.{begins_with}
use Rattle.c_parse.specs.Marks.{mark_text, mark_at}
use Rattle.c_parse.specs.Tokens.{mark_token, token_at}
use Rattle.c_parse.specs.declared.mark.Mark.{Mark}
use Rattle.c_parse.specs.declared.mark.Mark.TheVariants as mark
use Rattle.c_parse.specs.declared.token.Token.TheVariants as token
use Rattle.c_parse.proofs.Standing.{StandsBefore}

-- the marks that nothing behind them goes on with
abbrev pub is_closed : Mark → Bool
is_closed mark.OpenBrace = true
is_closed mark.CloseBrace = true
is_closed mark.OpenParenthesis = true
is_closed mark.CloseParenthesis = true
is_closed mark.OpenBracket = true
is_closed mark.CloseBracket = true
is_closed mark.Semicolon = true
is_closed mark.Comma = true
is_closed mark.Dot = true
is_closed mark.Arrow = true
is_closed mark.Increment = true
is_closed mark.Star = true
is_closed mark.Tilde = true
is_closed _ = false

pub closed-stands : (m : Mark) (rest : List ℕ) → is_closed m ≡ true → StandsBefore (mark_text m) (token.Mark m) rest
unfolding token_at mark_token mark_at
closed-stands mark.OpenBrace rest e = (refl, refl)
closed-stands mark.CloseBrace rest e = (refl, refl)
closed-stands mark.OpenParenthesis rest e = (refl, refl)
closed-stands mark.CloseParenthesis rest e = (refl, refl)
closed-stands mark.OpenBracket rest e = (refl, refl)
closed-stands mark.CloseBracket rest e = (refl, refl)
closed-stands mark.Semicolon rest e = (refl, refl)
closed-stands mark.Comma rest e = (refl, refl)
closed-stands mark.Dot rest e = (refl, refl)
closed-stands mark.Arrow rest e = (refl, refl)
closed-stands mark.Increment rest e = (refl, refl)
closed-stands mark.Star rest e = (refl, refl)
closed-stands mark.Tilde rest e = (refl, refl)
closed-stands _ rest e = absurd (false≢true e)

pub before-space : (m : Mark) (bs : List ℕ) → StandsBefore (mark_text m) (token.Mark m) (32 ∷ bs)
unfolding token_at mark_token mark_at
before-space mark.ShiftLeft bs = (refl, refl)
before-space _ bs = (refl, refl)

-- what a `-` does not go on with
abbrev pub NoSign : List ℕ → Type 0
NoSign rest = (begins_with 45 rest ≡ false) × (begins_with 62 rest ≡ false)

-- what a `!` does not go on with
abbrev pub NoEqual : List ℕ → Type 0
NoEqual rest = begins_with 61 rest ≡ false

-- what a `&` does not go on with
abbrev pub NoAnd : List ℕ → Type 0
NoAnd rest = begins_with 38 rest ≡ false

pub minus-stands : (rest : List ℕ) → NoSign rest → StandsBefore (codes "-") (token.Mark mark.Minus) rest
unfolding token_at mark_token mark_at
minus-stands [] e = (refl, refl)
minus-stands (b ∷ bs) e = (refl, rw (e.0, e.1) refl)

pub bang-stands : (rest : List ℕ) → NoEqual rest → StandsBefore (codes "!") (token.Mark mark.Bang) rest
unfolding token_at mark_token mark_at
bang-stands [] e = (refl, refl)
bang-stands (b ∷ bs) e = (refl, rw e refl)

pub ampersand-stands : (rest : List ℕ) → NoAnd rest → StandsBefore (codes "&") (token.Mark mark.Ampersand) rest
unfolding token_at mark_token mark_at
ampersand-stands [] e = (refl, refl)
ampersand-stands (b ∷ bs) e = (refl, rw e refl)
