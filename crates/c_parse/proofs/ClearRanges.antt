-- Tokens in which no range is empty, and what is joined of such.
use Rattle.std.proofs.Common.{◌≡◌, ◌∙◌, refl, sym, ap, subst, ℕ, ◌+◌, Bool, true, false, [], ◌++◌, length, length-append, append_assoc, Some, arith}
use Rattle.std.specs.Prelude.{int_lt, ◌≤ℤ◌, ℤ, T, not}
use lib.Signed.{lt_z_no}
use Rattle.hw_text.specs.Language.{One}
use Rattle.hw_text.specs.declared.place.Place.{Place}
use Rattle.c_tree.specs.Literals.{signed_value, range_holds}
use Rattle.c_tree.specs.declared.identifier.Identifier.{Identifier}
use Rattle.c_tree.specs.declared.named.Named.{Named}
use Rattle.c_tree.specs.declared.named.SignedLiteral.{SignedLiteral}
use Rattle.c_parse.specs.declared.counting.CountStart.{CountStart}
use Rattle.c_parse.specs.declared.counting.CountEnd.{CountEnd}
use Rattle.c_parse.specs.declared.keyword.Keyword.TheVariants as keyword
use Rattle.c_parse.specs.declared.mark.Mark.TheVariants as mark
use Rattle.c_parse.specs.declared.token.Token.{Token}
use Rattle.c_parse.specs.declared.token.Token.TheVariants as token
use Rattle.c_parse.specs.CallGrammar.{Word}
use Rattle.c_parse.specs.CountGrammar.{SpellsCount}
use Rattle.c_parse.specs.ExpressionGrammar.{Sign, Name}
use Rattle.c_parse.specs.Ranges.{IsEmptyRange}
use Rattle.c_parse.specs.Values.{Tokens, name_in, again_in, again_of}
use Rattle.c_parse.proofs.TokenKinds.{none-some}

-- no range of these tokens is empty
pub record Clear (ts : Tokens) : Type 0 where
  pub none : (i : ℕ) (at : Place) → IsEmptyRange ts i at → ⊥

pub clear-left : (us vs : Tokens) → Clear (us ++ vs) → Clear us
clear-left us vs clear = record {
  none = λ i at r. clear.none i at (record {
    before = r.before;
    head = r.head;
    behind = r.behind ++ vs;
    bounds = r.bounds;
    split = ap (λ (l : Tokens). l ++ vs) r.split ∙ simp append_assoc;
    last = r.last;
    spelled = r.spelled;
    not_above = r.not_above;
    begins = r.begins;
  });
}

pub clear-right : (us vs : Tokens) → Clear (us ++ vs) → Clear vs
clear-right us vs clear = record {
  none = λ i at r. clear.none (length us + i) at (record {
    before = us ++ r.before;
    head = r.head;
    behind = r.behind;
    bounds = r.bounds;
    split = ap (λ (l : Tokens). us ++ l) r.split ∙ sym (append_assoc us r.before (r.head ++ r.behind));
    last = ap (λ (l : Tokens). length l) (append_assoc us r.before r.head) ∙ length-append us (r.before ++ r.head) ∙ omega (arith, r.last);
    spelled = r.spelled;
    not_above = r.not_above;
    begins = r.begins;
  });
}

-- both halves of such tokens are such
pub halves : {ts : Tokens} (us vs : Tokens) → ts ≡ us ++ vs → Clear ts → Clear us × Clear vs
halves {ts} us vs split clear =
    let whole : Clear (us ++ vs) = subst Clear split clear in
    (clear-left us vs whole, clear-right us vs whole)

-- the name of a range is a name each time
named-in : (n : Identifier) (t : Token) (at p : Place) → again_in n t at ≡ Some p → (x : Named) × (name_in t at ≡ Some x)
named-in n (token.Name other) at p is = (record { name = other; place = at }, refl)
named-in n (token.Keyword w) at p is = absurd (none-some p is)
named-in n (token.Reserved w) at p is = absurd (none-some p is)
named-in n (token.Literal l) at p is = absurd (none-some p is)
named-in n (token.Mark m) at p is = absurd (none-some p is)

again-named : (n : Identifier) (p : Place) (ws : Tokens) → One (again_of n) p ws → (x : Named) × Name x ws
again-named n p ws text =
    let x = named-in n text.0.token text.0.place p text.2 in
    (x.0, (text.0, text.1, x.1))

holds-by : (a b : ℤ) (c : Bool) → int_lt a b ≡ c → (b ≤ℤ a → ⊥) → c ≡ true
holds-by a b true is never = refl
holds-by a b false is never = absurd (never (lt_z_no (subst (λ (c : Bool). T (not c)) (sym is) tt)))

module _ (p q : Place) (h : CountStart × CountEnd) (fs os us vs ts : Tokens) (word : Word keyword.For p fs) (opening : Sign mark.OpenParenthesis q os) where
  -- the head of a loop, of which the literals are not in order, is an empty range
  empty-head : ts ≡ fs ++ (os ++ (us ++ vs)) → SpellsCount h us → signed_value h.1.below ≤ℤ signed_value h.0.from → (i : ℕ) × (at : Place) × IsEmptyRange ts i at
  empty-head split (a, b, halved, (y, start_is, (is, m1, e1, class, (ns, m2, e2, name, (gs, m3, e3, assign, (ls, ss, e4, from, semicolon))))), (z, end_is, (ms, k1, f1, again, (es, k2, f2, less, (bs, k3, f3, below, rest))))) order =
      let x = again-named h.0.name.name z.0 ms again in
      let more : Tokens = os ++ (is ++ (ns ++ (gs ++ (ls ++ (ss ++ (ms ++ (es ++ bs))))))) in
      let one : length fs ≡ 1 = ap (λ (l : Tokens). length l) word.1 in
      let from_is : h.0.from ≡ y.1.1.1.0 = ap (λ (s : CountStart). s.from) start_is in
      let below_is : h.1.below ≡ z.1.1.0 = ap (λ (e : CountEnd). e.below) end_is in (
        length more,
        z.1.1.0.start,
        record {
          before = [];
          head = fs ++ more;
          behind = k3 ++ vs;
          bounds = (y.1.1.1.0, z.1.1.0);
          split = simp (split, halved, e1, e2, e3, e4, f1, f2, f3, append_assoc);
          last = length-append fs more ∙ omega (arith, one);
          spelled = (
            (p, (q, (y.0, (y.1.0, (y.1.1.0, (y.1.1.1.0, (y.1.1.1.1, (x.0, (z.1.0, z.1.1.0))))))))),
            refl,
            (fs, _, refl, word, (os, _, refl, opening, (is, _, refl, class, (ns, _, refl, name, (gs, _, refl, assign, (ls, _, refl, from, (ss, _, refl, semicolon, (ms, _, refl, x.1, (es, bs, refl, less, below))))))))),
          );
          not_above =
              subst (λ (l : SignedLiteral). signed_value z.1.1.0 ≤ℤ signed_value l) from_is
              (subst (λ (l : SignedLiteral). signed_value l ≤ℤ signed_value h.0.from) below_is order);
          begins = refl;
        },
      )

  -- where no range is empty, this one holds
  pub range-had : ts ≡ fs ++ (os ++ (us ++ vs)) → SpellsCount h us → Clear ts → range_holds h.0.from h.1.below ≡ true
  range-had split head clear =
      holds-by (signed_value h.0.from) (signed_value h.1.below) (range_holds h.0.from h.1.below) refl (λ order.
      let e = empty-head split head order in clear.none e.0 e.1 e.2)
