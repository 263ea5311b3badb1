-- Where in a clause tokens end, told by the tokens themselves.
use Rattle.std.proofs.Common.{◌≡◌, ◌↔◌, ℕ, ◌+◌, true, [], ◌∷◌, ◌++◌, length, refl, sym, ap, ◌∙◌, subst, append_assoc, length-append, arith}
use Rattle.std.proofs.lemmas.Bool.{false≢true}
use Rattle.std.proofs.lemmas.List.{append-nil}
use Rattle.std.proofs.lemmas.List.Elements.{All-nil, All-head, All-tail, All-push}
use Rattle.std.specs.List.{All}
use Rattle.std.specs.Prelude.{⊤}
use Rattle.hw_text.specs.declared.place.Place.{Place}
use Rattle.hw_text.specs.declared.placed.Placed.{Placed}
use Rattle.gumbo_parse.specs.declared.flaw.Spot.{Spot}
use Rattle.gumbo_parse.specs.declared.flaw.Spot.TheVariants.{Outside, Heading, Expression}
use Rattle.gumbo_parse.specs.declared.mark.Mark.TheVariants as mark
use Rattle.gumbo_parse.specs.declared.token.Token.{Token}
use Rattle.gumbo_parse.specs.declared.token.Token.TheVariants as token
use Rattle.gumbo_parse.specs.declared.word.Word.TheVariants as word
use Rattle.gumbo_parse.specs.FarTokens.{begins_clause, stays_in_clause, stays_in_heading, EndsInHeading, EndsInExpression}
use Rattle.gumbo_parse.specs.Flaws.{one_further, spot_behind, spot_after}
use Rattle.gumbo_parse.specs.Values.{Tokens}
use Rattle.gumbo_parse.proofs.Flawless.{spot-append}
use Rattle.gumbo_parse.proofs.InnerTokens.{one-more}

abbrev at : Token → Place → Placed Token
at k p = record { token = k; place = p }

-- what is known of tokens that end there
abbrev Told : Tokens → Spot → Type 0
Told ts Outside = ⊤
Told ts Heading = EndsInHeading ts
Told ts (Expression n) = EndsInExpression ts n

begun : (ts : Tokens) (k : Token) (p : Place) → begins_clause k ≡ true → EndsInHeading (ts ++ at k p ∷ [])
begun ts k p is = record { front = ts; word = at k p; heading = []; parts = refl; begun = is; headed = All-nil (λ t. stays_in_heading t.token ≡ true) }

longer : (ts : Tokens) (k : Token) (p : Place) → stays_in_heading k ≡ true → EndsInHeading ts → EndsInHeading (ts ++ at k p ∷ [])
longer ts k p is h = record {
  front = h.front;
  word = h.word;
  heading = h.heading ++ at k p ∷ [];
  parts = ap (λ (l : Tokens). l ++ at k p ∷ []) h.parts ∙ append_assoc h.front (h.word ∷ h.heading) (at k p ∷ []);
  begun = h.begun;
  headed = All-push (λ t. stays_in_heading t.token ≡ true) h.heading (at k p) h.headed is;
}

divided : (ts : Tokens) (p : Place) → EndsInHeading ts → EndsInExpression (ts ++ at (token.Mark mark.Colon) p ∷ []) 0
divided ts p h = record {
  before = ts;
  colon = at (token.Mark mark.Colon) p;
  behind = [];
  parts = refl;
  headed = h;
  divided = refl;
  inner = All-nil (λ t. stays_in_clause t.token ≡ true);
  counted = refl;
}

further : (ts : Tokens) (n : ℕ) (k : Token) (p : Place) → stays_in_clause k ≡ true → EndsInExpression ts n → EndsInExpression (ts ++ at k p ∷ []) (n + 1)
further ts n k p is x = record {
  before = x.before;
  colon = x.colon;
  behind = x.behind ++ at k p ∷ [];
  parts = ap (λ (l : Tokens). l ++ at k p ∷ []) x.parts ∙ append_assoc x.before (x.colon ∷ x.behind) (at k p ∷ []);
  headed = x.headed;
  divided = x.divided;
  inner = All-push (λ t. stays_in_clause t.token ≡ true) x.behind (at k p) x.inner is;
  counted = omega (arith, length-append x.behind (at k p ∷ []), x.counted);
}

-- a token that neither begins nor ends a part of a clause
one-on : (ts : Tokens) (s : Spot) (k : Token) (p : Place) → stays_in_heading k ≡ true → stays_in_clause k ≡ true → Told ts s → Told (ts ++ at k p ∷ []) (one_further s)
one-on ts Outside k p is in_clause told = tt
one-on ts Heading k p is in_clause told = longer ts k p is told
one-on ts (Expression n) k p is in_clause told = further ts n k p in_clause told

colon-on : (ts : Tokens) (s : Spot) (p : Place) → Told ts s → Told (ts ++ at (token.Mark mark.Colon) p ∷ []) (spot_behind s (token.Mark mark.Colon))
colon-on ts Outside p told = tt
colon-on ts Heading p told = divided ts p told
colon-on ts (Expression n) p told = further ts n (token.Mark mark.Colon) p refl told

-- one token more
step : (ts : Tokens) (s : Spot) (k : Token) (p : Place) → Told ts s → Told (ts ++ at k p ∷ []) (spot_behind s k)
step ts s (token.Word word.Assume) p told = begun ts (token.Word word.Assume) p refl
step ts s (token.Word word.Guarantee) p told = begun ts (token.Word word.Guarantee) p refl
step ts s (token.Word w) p told = one-on ts s (token.Word w) p refl refl told
step ts s (token.Mark mark.Colon) p told = colon-on ts s p told
step ts Outside (token.Mark mark.Semicolon) p told = tt
step ts s (token.Mark mark.Semicolon) p told = tt
step ts Outside (token.Mark m) p told = tt
step ts Heading (token.Mark m) p told = longer ts (token.Mark m) p refl told
step ts (Expression n) (token.Mark m) p told = further ts n (token.Mark m) p refl told
step ts s k p told = one-on ts s k p refl refl told

all-on : (ts us : Tokens) (s : Spot) → Told ts s → Told (ts ++ us) (spot_after s us)
all-on ts [] s told = subst (λ (l : Tokens). Told l s) (sym (append-nil ts)) told
all-on ts (u ∷ us) s told =
    subst (λ (l : Tokens). Told l (spot_after (spot_behind s u.token) us)) (append_assoc ts (u ∷ []) us)
    (all-on (ts ++ u ∷ []) us (spot_behind s u.token) (step ts s u.token u.place told))

word-leads : (s : Spot) (k : Token) → begins_clause k ≡ true → spot_behind s k ≡ Heading
word-leads s (token.Word word.Assume) is = refl
word-leads s (token.Word word.Guarantee) is = refl
word-leads s k is = absurd (false≢true is)

heading-stays : (k : Token) → stays_in_heading k ≡ true → spot_behind Heading k ≡ Heading
heading-stays (token.Word word.Assume) is = absurd (false≢true is)
heading-stays (token.Word word.Guarantee) is = absurd (false≢true is)
heading-stays (token.Word w) is = refl
heading-stays (token.Mark mark.Semicolon) is = absurd (false≢true is)
heading-stays (token.Mark mark.Colon) is = absurd (false≢true is)
heading-stays (token.Mark m) is = refl
heading-stays k is = refl

heading-after : (ts : Tokens) → All (λ t. stays_in_heading t.token ≡ true) ts → spot_after Heading ts ≡ Heading
heading-after [] all = refl
heading-after (t ∷ ts) all =
    ap (λ (s : Spot). spot_after s ts) (heading-stays t.token (All-head (λ u. stays_in_heading u.token ≡ true) t ts all)) ∙
    heading-after ts (All-tail (λ u. stays_in_heading u.token ≡ true) t ts all)

in-heading : (ts : Tokens) → EndsInHeading ts → spot_after Outside ts ≡ Heading
in-heading ts h =
    ap (λ (l : Tokens). spot_after Outside l) h.parts ∙ spot-append Outside h.front (h.word ∷ h.heading) ∙
    ap (λ (s : Spot). spot_after s h.heading) (word-leads (spot_after Outside h.front) h.word.token h.begun) ∙ heading-after h.heading h.headed

expression-after : (n : ℕ) (ts : Tokens) → All (λ t. stays_in_clause t.token ≡ true) ts → spot_after (Expression n) ts ≡ Expression (n + length ts)
expression-after n [] all = ap (λ (k : ℕ). Expression k) (omega arith)
expression-after n (t ∷ ts) all =
    ap (λ (s : Spot). spot_after s ts) (one-more t.token n (All-head (λ u. stays_in_clause u.token ≡ true) t ts all)) ∙
    expression-after (n + 1) ts (All-tail (λ u. stays_in_clause u.token ≡ true) t ts all) ∙ ap (λ (k : ℕ). Expression k) (omega arith)

in-expression : (ts : Tokens) (n : ℕ) → EndsInExpression ts n → spot_after Outside ts ≡ Expression n
in-expression ts n x =
    ap (λ (l : Tokens). spot_after Outside l) x.parts ∙ spot-append Outside x.before (x.colon ∷ x.behind) ∙
    ap (λ (s : Spot). spot_after (spot_behind s x.colon.token) x.behind) (in-heading x.before x.headed) ∙
    ap (λ (k : Token). spot_after (spot_behind Heading k) x.behind) x.divided ∙ expression-after 0 x.behind x.inner ∙
    ap (λ (k : ℕ). Expression k) (omega (arith, x.counted))

-- tokens end so far in an expression exactly where they are such
pub ends_in_expression : (ts : Tokens) (n : ℕ) → (spot_after Outside ts ≡ Expression n) ↔ EndsInExpression ts n
ends_in_expression ts n = (λ e. subst (λ (s : Spot). Told ts s) e (all-on [] ts Outside tt), in-expression ts n)
