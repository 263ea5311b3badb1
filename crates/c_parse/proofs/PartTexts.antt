-- How what leads to parts of a value begins, and lvalues with it; which of it stands ahead.
use Rattle.std.proofs.Common.{◌≡◌, ◌∙◌, refl, sym, ap, subst, ℕ, List, [], ◌∷◌, ◌++◌, true, false, append_assoc, inl, inr}
use Rattle.hw_text.specs.Language.{◌⋅◌, Each, Made}
use Rattle.hw_text.specs.Reading.{begins, Anything, BeginsWithout, Leaves}
use Rattle.hw_text.proofs.Reading.{begun, rebuilt}
use Rattle.c_tree.specs.declared.dialect.Dialect.{Dialect}
use Rattle.c_tree.specs.declared.expression.Base.{Base}
use Rattle.c_tree.specs.declared.expression.Lvalue.{Lvalue}
use Rattle.c_tree.specs.declared.expression.Selector.{Selector}
use Rattle.c_parse.specs.declared.mark.Mark.TheVariants as mark
use Rattle.c_parse.specs.Values.{Tokens, is_mark}
use Rattle.c_parse.specs.Levels.{prefix_level}
use Rattle.c_parse.specs.Operators.{is_part, is_selector, Ends}
use Rattle.c_parse.specs.ExpressionGrammar.{Sign, Name, SpellsBase, SpellsLvalue, SpellsParts, SpellsWhole, lvalue, no_part, a_member, an_index}
use Rattle.c_parse.specs.PartGrammar.{SpellsPart, member_part, index_part}
use Rattle.c_parse.proofs.Shapes.{built, first, either, apart, among, fewer, each-behind, as_other}
use Rattle.c_parse.proofs.TokenShapes.{Starts, parts, sign_shape, name_shape, a_part, a_selector, prefix_going_on, this_sign, sign, name, full}
use Rattle.c_parse.proofs.Steps.{Sample, all_left, at_first, at_second, unmake, by_test}
use Rattle.c_parse.proofs.Lists.{Listed, some_member}
use Rattle.c_parse.proofs.BaseTexts.{NoArrow}

abbrev pub NoSelector : Tokens → Type 0
NoSelector = BeginsWithout is_selector

-- what ends an operand leads to no part of it
pub ends-selector : (m : Tokens) → Ends prefix_level m → NoSelector m
ends-selector = fewer prefix_going_on a_selector refl

module _ (dialect : Dialect) where
  pub part_starts : Starts parts (SpellsPart dialect)
  part_starts = either (built _ (first _ (sign mark.Dot refl))) (built _ (first _ (sign mark.OpenBracket refl)))

  pub each_part : (ps : List Selector) (w : Tokens) → SpellsParts dialect ps w → Each (SpellsPart dialect) ps w
  each_part ps w (no_part f all ts is none) = subst (λ (l : List Selector). Each (SpellsPart dialect) l w) (sym is) none
  each_part ps w (a_member f p x qs ds ns us all ts is split dot name rest) =
      subst (λ (l : List Selector). Each (SpellsPart dialect) l w) (sym is)
      (ds ++ ns, us, split ∙ sym (append_assoc ds ns us), inl ((p, x), refl, (ds, ns, refl, dot, name)), each_part qs us rest)
  each_part ps w (an_index f p q x qs os us cs vs all ts is split opening index closing rest) =
      subst (λ (l : List Selector). Each (SpellsPart dialect) l w) (sym is) (
        os ++ (us ++ cs),
        vs,
        split ∙ ap (λ (l : Tokens). os ++ l) (sym (append_assoc us cs vs)) ∙ sym (append_assoc os (us ++ cs) vs),
        inr ((p, (x, q)), refl, (os, us ++ cs, refl, opening, (us, cs, refl, index, closing))),
        each_part qs vs rest,
      )

  pub of_each : (ps : List Selector) (w : Tokens) → Each (SpellsPart dialect) ps w → SpellsParts dialect ps w
  of_each [] w text = no_part dialect [] w refl text
  of_each (p ∷ ps) w (us, vs, split, inl (q, is, (ds, ns, split_part, dot, name)), rest) =
      a_member dialect q.0 q.1 ps ds ns vs (p ∷ ps) w (ap (λ (s : Selector). s ∷ ps) is)
      (split ∙ ap (λ (l : Tokens). l ++ vs) split_part ∙ append_assoc ds ns vs) dot name (of_each ps vs rest)
  of_each (p ∷ ps) w (us, vs, split, inr (q, is, (os, more, split_part, opening, (es, cs, split_more, index, closing))), rest) =
      an_index dialect q.0 q.1.1 q.1.0 ps os es cs vs (p ∷ ps) w (ap (λ (s : Selector). s ∷ ps) is)
      (split ∙ ap (λ (l : Tokens). l ++ vs) (split_part ∙ ap (λ (l : Tokens). os ++ l) split_more) ∙ append_assoc os (es ++ cs) vs
      ∙ ap (λ (l : Tokens). os ++ l) (append_assoc es cs vs)) opening index closing (of_each ps vs rest)

  pub no_parts : Sample (SpellsParts dialect)
  no_parts = ([], [], no_part dialect [] [] refl refl)

  pub parts_listed : Listed (SpellsPart dialect) is_part true Anything NoSelector
  parts_listed = record {
    some = some_member part_starts;
    starts = among a_part part_starts refl;
    ends = fewer a_selector a_part refl;
    follow = λ m follows. tt;
    next = λ x w m text. tt;
  }

  -- no arrow stands before what leads to parts, nor behind them
  pub parts_follow : (ps : List Selector) (w m : Tokens) → SpellsParts dialect ps w → NoSelector m → NoArrow (w ++ m)
  parts_follow ps w m text = each-behind (apart (this_sign mark.Arrow) part_starts refl) (fewer a_selector (this_sign mark.Arrow) refl) ps w m (each_part ps w text)

  pub parts_begun : (before : Tokens) (earlier : List Selector) → earlier ≡ [] → Leaves (SpellsParts dialect) NoSelector before before (λ later. earlier ++ later) (Each (SpellsPart dialect))
  parts_begun before earlier none = rebuilt (SpellsParts dialect) NoSelector before before (λ later. later) (λ later. earlier ++ later) (Each (SpellsPart dialect))
      (λ later. ap (λ (l : List Selector). l ++ later) (sym none))
      (begun (SpellsParts dialect) NoSelector before (λ later. later) (Each (SpellsPart dialect)) (λ ps w text. (ps, refl, each_part ps w text)) of_each)

abbrev pub lvalue_shapes : List (List ℕ)
lvalue_shapes = name_shape ∷ sign_shape mark.OpenParenthesis ∷ []

abbrev pub lvalue_of : Base × List Selector → Lvalue
lvalue_of p = record { base = p.0; parts = p.1 }

module _ (dialect : Dialect) where
  pub opened : (l : Lvalue) (w : Tokens) → SpellsLvalue dialect l w → Made lvalue_of (SpellsBase dialect ⋅ SpellsParts dialect) l w
  opened l w (lvalue f b ps us vs k ts is split one rest) = ((b, ps), is, (us, vs, split, one, rest))

  base_starts : Starts lvalue_shapes (SpellsBase dialect)
  base_starts = either (built _ (name refl)) (either (full dialect (built _ (first _ (sign mark.OpenParenthesis refl)))) (full dialect (built _ (first _ (name refl)))))

  pub lvalue_starts : Starts lvalue_shapes (SpellsLvalue dialect)
  lvalue_starts = as_other opened (built lvalue_of (first (SpellsParts dialect) base_starts))

  pub lvalue_left : (before : Tokens) → Leaves (SpellsLvalue dialect) NoSelector before before lvalue_of (SpellsBase dialect ⋅ SpellsParts dialect)
  lvalue_left before = begun (SpellsLvalue dialect) NoSelector before lvalue_of (SpellsBase dialect ⋅ SpellsParts dialect) opened
      (λ p w text. lvalue dialect p.0 p.1 text.0 text.1 (lvalue_of p) w refl text.2 text.3 text.4)

  member_starts : Starts (sign_shape mark.Dot ∷ []) (Made member_part (Sign mark.Dot ⋅ Name))
  member_starts = built _ (first _ (sign mark.Dot refl))

  index_starts : Starts (sign_shape mark.OpenBracket ∷ []) (Made index_part (Sign mark.OpenBracket ⋅ SpellsWhole dialect ⋅ Sign mark.CloseBracket))
  index_starts = built _ (first _ (sign mark.OpenBracket refl))

  module _ (before : Tokens) where
    pub member_there : begins (is_mark mark.Dot) before ≡ true → Leaves (SpellsPart dialect) Anything before before member_part (Sign mark.Dot ⋅ Name)
    member_there there = unmake (at_first (all_left (SpellsPart dialect) Anything before) (by_test (apart (this_sign mark.Dot) index_starts refl) there))

    pub index_there : begins (is_mark mark.Dot) before ≡ false → Leaves (SpellsPart dialect) Anything before before index_part (Sign mark.OpenBracket ⋅ SpellsWhole dialect ⋅ Sign mark.CloseBracket)
    index_there none = unmake (at_second (all_left (SpellsPart dialect) Anything before) (by_test (among (this_sign mark.Dot) member_starts refl) none))
