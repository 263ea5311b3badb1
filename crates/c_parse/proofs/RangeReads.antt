-- The head of a range, told from its last token to its first.
use Rattle.std.proofs.Common.{◌≡◌, ◌∙◌, refl, sym, ap, [], ◌∷◌, ◌++◌, append_assoc, Option, Some, None, inl, inr}
use Rattle.std.specs.Prelude.{reverse}
use Rattle.std.specs.Option.{option_map, option_and_then}
use Rattle.std.proofs.lemmas.List.{reverse-append}
use Rattle.std.proofs.lemmas.Grind.{reverse_onto}
use Rattle.std.proofs.lemmas.Option.{same_Some}
use Rattle.hw_text.specs.declared.place.Place.{Place}
use Rattle.hw_text.specs.declared.placed.Placed.{Placed}
use Rattle.hw_text.specs.Language.{One}
use Rattle.c_tree.specs.declared.integer_type.IntegerType.{IntegerType}
use Rattle.c_tree.specs.declared.named.Named.{Named}
use Rattle.c_tree.specs.declared.named.Literal.{Literal}
use Rattle.c_tree.specs.declared.named.SignedLiteral.{SignedLiteral}
use Rattle.c_parse.specs.declared.token.Token.{Token}
use Rattle.c_parse.specs.declared.token.Token.TheVariants as token
use Rattle.c_parse.specs.declared.keyword.Keyword.TheVariants as keyword
use Rattle.c_parse.specs.declared.mark.Mark.{Mark}
use Rattle.c_parse.specs.declared.mark.Mark.TheVariants as mark
use Rattle.c_parse.specs.Values.{Tokens, mark_in, mark_of, keyword_of, name_of, literal_of, integer_of}
use Rattle.c_parse.specs.ExpressionGrammar.{Sign, Name}
use Rattle.c_parse.specs.CallGrammar.{Word, SpellsSigned}
use Rattle.c_parse.specs.Ranges.{Bounds, SpellsBounds}
use Rattle.c_parse.specs.RangeEnds.{last, before_last, with_minus, last_signed, before_between, before_start}
use Rattle.c_parse.proofs.MarkTokens.{mark-token}
use Rattle.c_parse.proofs.TokenKinds.{none-some}

-- a token more behind
module _ {X : Type 0} (value : Placed Token → Option X) where
  one-last : (x : X) (b w : Tokens) → One value x w → last value (reverse (b ++ w)) ≡ Some (x, reverse b)
  one-last x b w text =
      ap (λ (l : Tokens). last value (reverse (b ++ l))) text.1 ∙ ap (last value) (reverse-append b (text.0 ∷ [])) ∙
      ap (λ (o : Option X). option_map (λ y. (y, reverse b)) o) text.2

  one-before : (x : X) (b w : Tokens) → One value x w → before_last value (reverse (b ++ w)) ≡ Some (reverse b)
  one-before x b w text = ap (λ (o : Option (X × Tokens)). option_map (λ r. r.1) o) (one-last x b w text)

no-minus : (m : Mark) → ((at : Place) → mark_in mark.Minus (token.Mark m) at ≡ None) → (p : Place) (b w : Tokens) → Sign m p w → last (mark_of mark.Minus) (reverse (b ++ w)) ≡ None
no-minus m other p b w text =
    ap (λ (l : Tokens). last (mark_of mark.Minus) (reverse (b ++ l))) text.1 ∙ ap (last (mark_of mark.Minus)) (reverse-append b (text.0 ∷ [])) ∙
    ap (λ (o : Option Place). option_map (λ y. (y, reverse b)) o) (ap (λ (t : Token). mark_in mark.Minus t text.0.place) (mark-token m text.0 p text.2) ∙ other text.0.place)

-- a literal with what stands before it
behind-literal : Option (Literal × Tokens) → Option (SignedLiteral × Tokens)
behind-literal o = option_map (λ r. with_minus r.0 r.1 (last (mark_of mark.Minus) r.1)) o

signed-last : (l : SignedLiteral) (b w : Tokens) → last (mark_of mark.Minus) (reverse b) ≡ None → SpellsSigned l w → last_signed (reverse (b ++ w)) ≡ Some (l, reverse b)
unfolding behind-literal
signed-last l b w none (inl text) =
    ap behind-literal (one-last literal_of text.0 b w text.2) ∙ ap (λ (o : Option (Place × Tokens)). Some (with_minus text.0 (reverse b) o)) none ∙
    ap (λ (k : SignedLiteral). Some (k, reverse b)) (sym text.1)
signed-last l b w none (inr text) =
    let us = text.2.0 in
    let vs = text.2.1 in
    let split : b ++ w ≡ (b ++ us) ++ vs = ap (λ (k : Tokens). b ++ k) text.2.2 ∙ sym (append_assoc b us vs) in
    ap (λ (k : Tokens). last_signed (reverse k)) split ∙ ap behind-literal (one-last literal_of text.0.1 (b ++ us) vs text.2.4) ∙
    ap (λ (o : Option (Place × Tokens)). Some (with_minus text.0.1 (reverse (b ++ us)) o)) (one-last (mark_of mark.Minus) text.0.0 b us text.2.3) ∙
    ap (λ (k : SignedLiteral). Some (k, reverse b)) (sym text.1)

start-last : (b w1 w2 w3 w4 w5 : Tokens) (p1 p2 p5 : Place) (p3 : Place × IntegerType) (p4 : Named) → Word keyword.For p1 w1 → Sign mark.OpenParenthesis p2 w2 → One integer_of p3 w3 → Name p4 w4 → Sign mark.Assign p5 w5 → before_start (reverse (((((b ++ w1) ++ w2) ++ w3) ++ w4) ++ w5)) ≡ Some (reverse b)
unfolding before_start
start-last b w1 w2 w3 w4 w5 p1 p2 p5 p3 p4 t1 t2 t3 t4 t5 =
    rw (
      one-before (mark_of mark.Assign) p5 ((((b ++ w1) ++ w2) ++ w3) ++ w4) w5 t5,
      one-before name_of p4 (((b ++ w1) ++ w2) ++ w3) w4 t4,
      one-before integer_of p3 ((b ++ w1) ++ w2) w3 t3,
      one-before (mark_of mark.OpenParenthesis) p2 (b ++ w1) w2 t2,
      one-before (keyword_of keyword.For) p1 b w1 t1,
    ) refl

between-last : (b w1 w2 w3 : Tokens) (p1 p3 : Place) (p2 : Named) → Sign mark.Semicolon p1 w1 → Name p2 w2 → Sign mark.Less p3 w3 → before_between (reverse (((b ++ w1) ++ w2) ++ w3)) ≡ Some (reverse b)
unfolding before_between
between-last b w1 w2 w3 p1 p3 p2 t1 t2 t3 =
    rw (one-before (mark_of mark.Less) p3 ((b ++ w1) ++ w2) w3 t3, one-before name_of p2 (b ++ w1) w2 t2, one-before (mark_of mark.Semicolon) p1 b w1 t1) refl

-- the literals of the range that the tokens end with, up to its second one
unfoldable pub last_bounds : Tokens → Option Bounds
last_bounds ts =
    option_and_then (λ below. option_and_then (λ us. option_and_then (λ from. option_map (λ ws. (from.0, below.0)) (before_start from.1))
    (last_signed us)) (before_between below.1)) (last_signed ts)

-- the same tokens, with the next ones beside those before
over : (all b w u r : Tokens) → all ≡ b ++ w → w ≡ u ++ r → all ≡ (b ++ u) ++ r
over all b w u r is split = is ∙ ap (λ (k : Tokens). b ++ k) split ∙ sym (append_assoc b u r)

-- the bounds of a range are found at its end
pub bounds-found : (h : Bounds) (b w : Tokens) → SpellsBounds h w → last_bounds (reverse (b ++ w)) ≡ Some h
unfolding last_bounds
bounds-found h b w text =
    let t1 = text.2 in
    let t2 = t1.4 in
    let t3 = t2.4 in
    let t4 = t3.4 in
    let t5 = t4.4 in
    let t6 = t5.4 in
    let t7 = t6.4 in
    let t8 = t7.4 in
    let t9 = t8.4 in
    let b1 = b ++ t1.0 in
    let b2 = b1 ++ t2.0 in
    let b3 = b2 ++ t3.0 in
    let b4 = b3 ++ t4.0 in
    let b5 = b4 ++ t5.0 in
    let b6 = b5 ++ t6.0 in
    let b7 = b6 ++ t7.0 in
    let b8 = b7 ++ t8.0 in
    let b9 = b8 ++ t9.0 in
    let all : b ++ w ≡ b9 ++ t9.1 =
    over (b ++ w) b8 t8.1 t9.0 t9.1 (over (b ++ w) b7 t7.1 t8.0 t8.1 (over (b ++ w) b6 t6.1 t7.0 t7.1 (over (b ++ w) b5 t5.1 t6.0 t6.1
    (over (b ++ w) b4 t4.1 t5.0 t5.1 (over (b ++ w) b3 t3.1 t4.0 t4.1 (over (b ++ w) b2 t2.1 t3.0 t3.1 (over (b ++ w) b1 t1.1 t2.0 t2.1
    (over (b ++ w) b w t1.0 t1.1 refl t1.2) t2.2) t3.2) t4.2) t5.2) t6.2) t7.2) t8.2) t9.2 in
    rw (
      all,
      signed-last _ b9 t9.1 (no-minus mark.Less (λ at. refl) _ b8 t9.0 t9.3) t9.4,
      between-last b6 t7.0 t8.0 t9.0 _ _ _ t7.3 t8.3 t9.3,
      signed-last _ b5 t6.0 (no-minus mark.Assign (λ at. refl) _ b4 t5.0 t5.3) t6.3,
      start-last b t1.0 t2.0 t3.0 t4.0 t5.0 _ _ _ _ _ t1.3 t2.3 t3.3 t4.3 t5.3,
    ) (ap Some (sym text.1))

-- what a token at the end stands for is spelled there
module _ {X : Type 0} (value : Placed Token → Option X) where
  pub last-is : (l m : Tokens) (x : X) → last value l ≡ Some (x, m) → (w : Tokens) × One value x w × (reverse l ≡ reverse m ++ w)
  last-is [] m x is = absurd (none-some (x, m) is)
  last-is (t ∷ ts) m x is = by (value t) refl
    where
      by : (o : Option X) → value t ≡ o → (w : Tokens) × One value x w × (reverse (t ∷ ts) ≡ reverse m ++ w)
      by None so = absurd (none-some (x, m) (sym (ap (λ (o : Option X). option_map (λ y. (y, ts)) o) so) ∙ is))
      by (Some y) so =
          let same : (y, ts) ≡ (x, m) = same_Some (y, ts) (x, m) (sym (ap (λ (o : Option X). option_map (λ z. (z, ts)) o) so) ∙ is) in (
            t ∷ [],
            (t, refl, so ∙ ap (λ (p : X × Tokens). Some p.0) same),
            reverse_onto ts t [] ∙ ap (λ (p : X × Tokens). reverse p.1 ++ t ∷ []) same,
          )

  pub before-is : (l m : Tokens) → before_last value l ≡ Some m → (x : X) × (w : Tokens) × One value x w × (reverse l ≡ reverse m ++ w)
  before-is l m is = by (last value l) refl
    where
      by : (o : Option (X × Tokens)) → last value l ≡ o → (x : X) × (w : Tokens) × One value x w × (reverse l ≡ reverse m ++ w)
      by None so = absurd (none-some m (sym (ap (λ (o : Option (X × Tokens)). option_map (λ r. r.1) o) so) ∙ is))
      by (Some r) so =
          let same : r.1 ≡ m = same_Some r.1 m (sym (ap (λ (o : Option (X × Tokens)). option_map (λ s. s.1) o) so) ∙ is) in
          let e = last-is l m r.0 (so ∙ ap (λ (n : Tokens). Some (r.0, n)) same) in
          (r.0, e.0, e.1, e.2)
