-- Heads of loops of which the range holds, or that have none.
use Rattle.std.proofs.Common.{◌≡◌, ◌∙◌, refl, sym, ap, subst, Bool, true, false, List, [], ◌∷◌, ◌++◌, drop, append_assoc, Option, Some, None, inl, inr}
use Rattle.std.specs.Prelude.{ℤ, ◌≤ℤ◌, if◌then◌else◌, option_and_then, T}
use Rattle.std.specs.Option.{option_map}
use Rattle.std.proofs.lemmas.List.{map-append}
use Rattle.std.proofs.lemmas.Option.{same_Some}
use lib.Signed.{lt_z_yes, clash_ℤ}
use Rattle.hw_text.specs.declared.place.Place.{Place}
use Rattle.c_tree.specs.Literals.{numeral_under, signed_value, range_holds}
use Rattle.c_tree.specs.Numerals.{numeral_value, numeral_type}
use Rattle.c_tree.specs.declared.named.Literal.{Literal}
use Rattle.c_tree.specs.declared.named.SignedLiteral.{SignedLiteral}
use Rattle.c_tree.specs.declared.numeral.Numeral.{Numeral}
use Rattle.c_parse.specs.CallGrammar.{SpellsSigned}
use Rattle.c_parse.specs.PrintedStatements.{signed_tokens}
use Rattle.c_parse.specs.Ranges.{Bounds, SpellsBounds}
use Rattle.c_parse.specs.Values.{Tokens, literal_in}
use Rattle.c_parse.specs.declared.keyword.Keyword.TheVariants as keyword
use Rattle.c_parse.specs.declared.mark.Mark.TheVariants as mark
use Rattle.c_parse.specs.declared.token.Token.{Token}
use Rattle.c_parse.specs.declared.token.Token.TheVariants as token
use Rattle.c_parse.proofs.MarkTokens.{mark-token}
use Rattle.c_parse.proofs.TokenKinds.{none-some}
use Rattle.c_parse.proofs.SoundTokens.{Good, Sound, tokens_of, loop}

-- the value of a literal at the front, maybe behind a minus, and the tokens behind it
value_at : List Token → Option (ℤ × List Token)
value_at (token.Literal n ∷ ts) = Some (numeral_under false (numeral_type n.bytes) (numeral_value n.bytes), ts)
value_at (token.Mark mark.Minus ∷ token.Literal n ∷ ts) = Some (numeral_under true (numeral_type n.bytes) (numeral_value n.bytes), ts)
value_at _ = None

-- the values of the literals of a range, by where they stand
second_at : ℤ × List Token → Option (ℤ × ℤ)
second_at from = option_map (λ below. (from.0, below.0)) (value_at (drop 3 from.1))

values_at : List Token → Option (ℤ × ℤ)
values_at ts = option_and_then second_at (value_at (drop 5 ts))

value-by : (negative : Bool) (n : Numeral) (rest : List Token) → value_at ((if negative then token.Mark mark.Minus ∷ [] else []) ++ token.Literal n ∷ [] ++ rest) ≡ Some (numeral_under negative (numeral_type n.bytes) (numeral_value n.bytes), rest)
unfolding value_at
value-by true n rest = refl
value-by false n rest = refl

value-signed : (l : SignedLiteral) (rest : List Token) → value_at (signed_tokens l ++ rest) ≡ Some (signed_value l, rest)
value-signed l rest = value-by l.negative l.literal.numeral rest

literal-token : (t : Token) (at : Place) (l : Literal) → literal_in t at ≡ Some l → t ≡ token.Literal l.numeral
literal-token (token.Literal n) at l is = ap (λ (k : Literal). token.Literal k.numeral) (same_Some _ l is)
literal-token (token.Name n) at l is = absurd (none-some l is)
literal-token (token.Keyword w) at l is = absurd (none-some l is)
literal-token (token.Reserved n) at l is = absurd (none-some l is)
literal-token (token.Mark m) at l is = absurd (none-some l is)

-- a text of a literal has its canonical tokens
signed-text : (l : SignedLiteral) (ws : Tokens) → SpellsSigned l ws → tokens_of ws ≡ signed_tokens l
signed-text l ws (inl (k, is, one)) =
    ap tokens_of one.1 ∙ ap (λ (t : Token). t ∷ []) (literal-token one.0.token one.0.place k one.2) ∙ ap signed_tokens (sym is)
signed-text l ws (inr (p, is, (ms, ks, split, minus, one))) =
    ap tokens_of (split ∙ ap (λ (m : Tokens). m ++ ks) minus.1 ∙ ap (λ (m : Tokens). minus.0 ∷ m) one.1) ∙
    ap (λ (t : Token). t ∷ one.0.token ∷ []) (mark-token mark.Minus minus.0 p.0 minus.2) ∙
    ap (λ (t : Token). token.Mark mark.Minus ∷ t ∷ []) (literal-token one.0.token one.0.place p.1 one.2) ∙ ap signed_tokens (sym is)

values-of : (a b c d e f g h : Token) (from below : SignedLiteral) (rest : List Token) → values_at (a ∷ b ∷ c ∷ d ∷ e ∷ (signed_tokens from ++ (f ∷ g ∷ h ∷ (signed_tokens below ++ rest)))) ≡ Some (signed_value from, signed_value below)
unfolding values_at second_at
values-of a b c d e f g h from below rest =
    ap (option_and_then second_at) (value-signed from (f ∷ g ∷ h ∷ (signed_tokens below ++ rest))) ∙
    ap (option_map (λ k. (signed_value from, k.0))) (value-signed below rest)

-- a text of the literals of a range has their values
bounds-values : (b : Bounds) (head behind : Tokens) → SpellsBounds b head → values_at (tokens_of (head ++ behind)) ≡ Some (signed_value b.0, signed_value b.1)
bounds-values b head behind (y, is, (fs, m1, e1, word, (os, m2, e2, opening, (ks, m3, e3, class, (ns, m4, e4, name, (gs, m5, e5, assign, (ls, m6, e6, from, (ss, m7, e7, semicolon, (ms, m8, e8, again, (es, bs, e9, less, below)))))))))) =
    let shape : head ++ behind ≡ word.0 ∷ opening.0 ∷ class.0 ∷ name.0 ∷ assign.0 ∷ (ls ++ (semicolon.0 ∷ again.0 ∷ less.0 ∷ (bs ++ behind))) =
    simp (e1, word.1, e2, opening.1, e3, class.1, e4, name.1, e5, assign.1, e6, e7, semicolon.1, e8, again.1, e9, less.1, append_assoc) in
    let second : tokens_of (bs ++ behind) ≡ signed_tokens y.1.1.1.1.1.1.1.1.1 ++ tokens_of behind =
    map-append (λ t. t.token) bs behind ∙ ap (λ (l : List Token). l ++ tokens_of behind) (signed-text y.1.1.1.1.1.1.1.1.1 bs below) in
    let tail : Tokens = semicolon.0 ∷ again.0 ∷ less.0 ∷ (bs ++ behind) in
    let parts : tokens_of (ls ++ tail) ≡ signed_tokens y.1.1.1.1.1.0 ++ (semicolon.0.token ∷ again.0.token ∷ less.0.token ∷ (signed_tokens y.1.1.1.1.1.1.1.1.1 ++ tokens_of behind)) =
    map-append (λ t. t.token) ls tail ∙ ap (λ (l : List Token). l ++ tokens_of tail) (signed-text y.1.1.1.1.1.0 ls from) ∙
    ap (λ (l : List Token). signed_tokens y.1.1.1.1.1.0 ++ (semicolon.0.token ∷ again.0.token ∷ less.0.token ∷ l)) second in
    ap (λ (l : Tokens). values_at (tokens_of l)) shape ∙
    ap (λ (l : List Token). values_at (word.0.token ∷ opening.0.token ∷ class.0.token ∷ name.0.token ∷ assign.0.token ∷ l)) parts ∙
    values-of word.0.token opening.0.token class.0.token name.0.token assign.0.token semicolon.0.token again.0.token less.0.token y.1.1.1.1.1.0 y.1.1.1.1.1.1.1.1.1 (tokens_of behind) ∙
    ap (λ (c : Bounds). Some (signed_value c.0, signed_value c.1)) (sym is)

-- what has no such values is no range
unvalued : (ts : List Token) → values_at ts ≡ None → Good ts
unvalued ts none_at b head behind same text order =
    none-some (signed_value b.0, signed_value b.1) (sym none_at ∙ ap values_at same ∙ bounds-values b head behind text)

-- what has the values of a range that holds is no empty range
valued : (from below : SignedLiteral) → range_holds from below ≡ true → (ts : List Token) → values_at ts ≡ Some (signed_value from, signed_value below) → Good ts
valued from below holds ts is b head behind same text order =
    let both = same_Some (signed_value b.0, signed_value b.1) (signed_value from, signed_value below) (sym (bounds-values b head behind text) ∙ ap values_at (sym same) ∙ is) in
    let lower : signed_value below ≤ℤ signed_value from =
    subst (λ (p : ℤ × ℤ). p.1 ≤ℤ p.0) both order in
    clash_ℤ (lt_z_yes (subst T (sym holds) tt)) lower

-- the head of a loop of which the range holds, and what stands behind
pub counted : (a b c d e f g : Token) (from below : SignedLiteral) (rest : List Token) → range_holds from below ≡ true → Sound (a ∷ b ∷ c ∷ d ∷ (signed_tokens from ++ (e ∷ f ∷ g ∷ (signed_tokens below ++ rest)))) → Sound (token.Keyword keyword.For ∷ a ∷ b ∷ c ∷ d ∷ (signed_tokens from ++ (e ∷ f ∷ g ∷ (signed_tokens below ++ rest))))
counted a b c d e f g from below rest holds more =
    loop (λ behind. valued from below holds _
    (ap (λ (l : List Token). values_at (token.Keyword keyword.For ∷ a ∷ b ∷ c ∷ d ∷ l))
    (append_assoc (signed_tokens from) (e ∷ f ∷ g ∷ (signed_tokens below ++ rest)) behind ∙
    ap (λ (l : List Token). signed_tokens from ++ (e ∷ f ∷ g ∷ l)) (append_assoc (signed_tokens below) rest behind)) ∙
    values-of (token.Keyword keyword.For) a b c d e f g from below (rest ++ behind))) more

no-value : (a b c d : Token) (rest : List Token) → values_at (token.Keyword keyword.For ∷ a ∷ b ∷ c ∷ d ∷ token.Mark mark.OpenBrace ∷ rest) ≡ None
unfolding values_at value_at
no-value a b c d rest = refl

-- the head of a loop without end, and the brace behind it
pub forever : (a b c d : Token) (rest : List Token) → Sound (a ∷ b ∷ c ∷ d ∷ token.Mark mark.OpenBrace ∷ rest) → Sound (token.Keyword keyword.For ∷ a ∷ b ∷ c ∷ d ∷ token.Mark mark.OpenBrace ∷ rest)
forever a b c d rest more = loop (λ behind. unvalued _ (no-value a b c d (rest ++ behind))) more
