-- The literals that are found from the last token to the first stand in the head of a range.
use Rattle.std.proofs.Common.{◌≡◌, ◌∙◌, refl, sym, ap, ◌++◌, append_assoc, Option, Some, None, inl, inr}
use Rattle.std.specs.Prelude.{reverse}
use Rattle.std.specs.Option.{option_map}
use Rattle.std.proofs.lemmas.Option.{same_Some, option_and_then_some}
use Rattle.hw_text.specs.declared.place.Place.{Place}
use Rattle.hw_text.specs.declared.placed.Placed.{Placed}
use Rattle.hw_text.specs.Language.{One, ◌⋅◌}
use Rattle.c_tree.specs.declared.integer_type.IntegerType.{IntegerType}
use Rattle.c_tree.specs.declared.named.Named.{Named}
use Rattle.c_tree.specs.declared.named.Literal.{Literal}
use Rattle.c_tree.specs.declared.named.SignedLiteral.{SignedLiteral}
use Rattle.c_parse.specs.declared.token.Token.{Token}
use Rattle.c_parse.specs.declared.keyword.Keyword.TheVariants as keyword
use Rattle.c_parse.specs.declared.mark.Mark.TheVariants as mark
use Rattle.c_parse.specs.Values.{Tokens, mark_of, keyword_of, name_of, literal_of, integer_of}
use Rattle.c_parse.specs.ExpressionGrammar.{Sign, Name}
use Rattle.c_parse.specs.CallGrammar.{Word, SpellsSigned}
use Rattle.c_parse.specs.Ranges.{Bounds, SpellsBounds}
use Rattle.c_parse.specs.RangeEnds.{last, before_last, with_minus, last_signed, before_between, before_start}
use Rattle.c_parse.proofs.TokenKinds.{none-some}
use Rattle.c_parse.proofs.RangeReads.{last_bounds, last-is, before-is}

-- the tokens, told from the last to the first, end with a text of the value
Ends : {X : Type 0} → (X → Tokens → Type 0) → X → Tokens → Tokens → Type 0
Ends A x l m = (w : Tokens) × A x w × (reverse l ≡ reverse m ++ w)

-- a text before another one
joined : {X Y : Type 0} (A : X → Tokens → Type 0) (B : Y → Tokens → Type 0) (x : X) (y : Y) (l m n : Tokens) → Ends B y l m → Ends A x m n → Ends (A ⋅ B) (x, y) l n
unfolding Ends
joined A B x y l m n b a =
    (a.0 ++ b.0, (a.0, b.0, refl, a.1, b.1), b.2 ∙ ap (λ (k : Tokens). k ++ b.0) a.2 ∙ append_assoc (reverse n) a.0 b.0)

behind_literal : Option (Literal × Tokens) → Option (SignedLiteral × Tokens)
behind_literal o = option_map (λ r. with_minus r.0 r.1 (last (mark_of mark.Minus) r.1)) o

signed-is : (l m : Tokens) (s : SignedLiteral) → last_signed l ≡ Some (s, m) → Ends SpellsSigned s l m
unfolding Ends behind_literal
signed-is l m s is = by (last literal_of l) refl
  where
    minus : (r : Literal × Tokens) (o : Option (Place × Tokens)) → last (mark_of mark.Minus) r.1 ≡ o → last literal_of l ≡ Some r → with_minus r.0 r.1 o ≡ (s, m) → Ends SpellsSigned s l m
    minus r None none so same =
        let e = last-is literal_of l r.1 r.0 so in (
          e.0,
          inl (r.0, sym (ap (λ (p : SignedLiteral × Tokens). p.0) same), e.1),
          e.2 ∙ ap (λ (p : SignedLiteral × Tokens). reverse p.1 ++ e.0) same,
        )
    minus r (Some q) there so same =
        let e = last-is literal_of l r.1 r.0 so in
        let f = last-is (mark_of mark.Minus) r.1 q.1 q.0 there in
        let j = joined (Sign mark.Minus) (One literal_of) q.0 r.0 l r.1 q.1 e f in (
          j.0,
          inr ((q.0, r.0), sym (ap (λ (p : SignedLiteral × Tokens). p.0) same), j.1),
          j.2 ∙ ap (λ (p : SignedLiteral × Tokens). reverse p.1 ++ j.0) same,
        )

    by : (o : Option (Literal × Tokens)) → last literal_of l ≡ o → Ends SpellsSigned s l m
    by None so = absurd (none-some (s, m) (sym (ap behind_literal so) ∙ is))
    by (Some r) so =
        minus r (last (mark_of mark.Minus) r.1) refl so
        (same_Some (with_minus r.0 r.1 (last (mark_of mark.Minus) r.1)) (s, m) (sym (ap behind_literal so) ∙ is))

-- a token before a text
before-ends : {X Y : Type 0} (value : Placed Token → Option X) (B : Y → Tokens → Type 0) (y : Y) (k l m : Tokens) → before_last value l ≡ Some m → Ends B y k l → (x : X) × Ends (One value ⋅ B) (x, y) k m
unfolding Ends
before-ends value B y k l m is e = let b = before-is value l m is in (b.0, joined (One value) B b.0 y k l m e (b.1, b.2, b.3))

between-is : {Y : Type 0} (B : Y → Tokens → Type 0) (y : Y) (k l m : Tokens) → before_between l ≡ Some m → Ends B y k l → (p : Place) × (n : Named) × (q : Place) × Ends (Sign mark.Semicolon ⋅ Name ⋅ Sign mark.Less ⋅ B) (p, (n, (q, y))) k m
unfolding before_between
between-is B y k l m is e =
    option_and_then_some _ (before_last (mark_of mark.Less) l) m is (λ us less named.
    option_and_then_some _ (before_last name_of us) m named (λ vs name semicolon.
    let a = before-ends (mark_of mark.Less) B y k l us less e in
    let b = before-ends name_of _ _ k us vs name a.1 in
    let c = before-ends (mark_of mark.Semicolon) _ _ k vs m semicolon b.1 in
    (c.0, b.0, a.0, c.1)))

start-is : {Y : Type 0} (B : Y → Tokens → Type 0) (y : Y) (k l m : Tokens) → before_start l ≡ Some m → Ends B y k l → (f p : Place) × (c : Place × IntegerType) × (n : Named) × (q : Place) × Ends (Word keyword.For ⋅ Sign mark.OpenParenthesis ⋅ One integer_of ⋅ Name ⋅ Sign mark.Assign ⋅ B) (f, (p, (c, (n, (q, y))))) k m
unfolding before_start
start-is B y k l m is e =
    option_and_then_some _ (before_last (mark_of mark.Assign) l) m is (λ us assign rest_1.
    option_and_then_some _ (before_last name_of us) m rest_1 (λ vs name rest_2.
    option_and_then_some _ (before_last integer_of vs) m rest_2 (λ ws class rest_3.
    option_and_then_some _ (before_last (mark_of mark.OpenParenthesis) ws) m rest_3 (λ xs bracket word.
    let a = before-ends (mark_of mark.Assign) B y k l us assign e in
    let b = before-ends name_of _ _ k us vs name a.1 in
    let c = before-ends integer_of _ _ k vs ws class b.1 in
    let d = before-ends (mark_of mark.OpenParenthesis) _ _ k ws xs bracket c.1 in
    let f = before-ends (keyword_of keyword.For) _ _ k xs m word d.1 in
    (f.0, d.0, c.0, b.0, a.0, f.1)))))

mapped : {X Y : Type 0} (f : X → Y) (o : Option X) (y : Y) → option_map f o ≡ Some y → (x : X) × (o ≡ Some x) × (f x ≡ y)
mapped f None y is = absurd (none-some y is)
mapped f (Some x) y is = (x, refl, same_Some (f x) y is)

-- the bounds that are found stand in the head of a range at the end
pub bounds-are : (l : Tokens) (h : Bounds) → last_bounds l ≡ Some h → (b w : Tokens) × (reverse l ≡ b ++ w) × SpellsBounds h w
unfolding last_bounds Ends
bounds-are l h is =
    option_and_then_some _ (last_signed l) h is (λ below is_below rest_1.
    option_and_then_some _ (before_between below.1) h rest_1 (λ us between rest_2.
    option_and_then_some _ (last_signed us) h rest_2 (λ from is_from rest_3.
    let start = mapped (λ ws. (from.0, below.0)) (before_start from.1) h rest_3 in
    let a = signed-is l below.1 below.0 is_below in
    let b = between-is SpellsSigned below.0 l below.1 us between a in
    let behind = Sign mark.Semicolon ⋅ Name ⋅ Sign mark.Less ⋅ SpellsSigned in
    let y : Place × (Named × (Place × SignedLiteral)) = (b.0, (b.1, (b.2, below.0))) in
    let d = joined SpellsSigned behind from.0 y l us from.1 b.3 (signed-is us from.1 from.0 is_from) in
    let e = start-is (SpellsSigned ⋅ behind) (from.0, y) l from.1 start.0 start.1 d in
    (reverse start.0, e.5.0, e.5.2, ((e.0, (e.1, (e.2, (e.3, (e.4, (from.0, (b.0, (b.1, (b.2, below.0))))))))), sym start.2, e.5.1)))))
