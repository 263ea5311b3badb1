-- How operands and expressions begin, and which operand stands ahead.
use Rattle.std.proofs.Common.{◌≡◌, ◌∙◌, refl, sym, ap, ℕ, ◌+◌, List, [], ◌∷◌, ◌++◌, append_assoc, true, false, inl, inr}
use Rattle.std.specs.Prelude.{◌&&◌}
use Rattle.hw_text.specs.Language.{◌⋅◌, Made, ◌∣◌}
use Rattle.hw_text.specs.Reading.{begins, Leaves}
use Rattle.hw_text.proofs.Reading.{begun, refined}
use Rattle.hw_text.specs.declared.place.Place.{Place}
use Rattle.c_tree.specs.Dialects.{is_full}
use Rattle.c_tree.specs.Starts.{value_of}
use Rattle.c_tree.specs.declared.dialect.Dialect.{Dialect}
use Rattle.c_tree.specs.declared.integer_type.IntegerType.{IntegerType}
use Rattle.c_tree.specs.declared.named.Named.{Named}
use Rattle.c_tree.specs.declared.expression.Base.{Base}
use Rattle.c_tree.specs.declared.expression.Base.TheVariants as base
use Rattle.c_tree.specs.declared.expression.Selector.{Selector}
use Rattle.c_tree.specs.declared.expression.Lvalue.{Lvalue}
use Rattle.c_tree.specs.declared.expression.Expression.{Expression}
use Rattle.c_tree.specs.declared.expression.Expression.TheVariants.{Number, Cast}
use Rattle.c_parse.specs.declared.mark.Mark.TheVariants as mark
use Rattle.c_parse.specs.Values.{Tokens, is_mark, is_name, is_literal, is_truth, is_integer}
use Rattle.c_parse.specs.Levels.{prefix_level, loosest_level}
use Rattle.c_parse.specs.Operators.{is_unary, Ends}
use Rattle.c_parse.specs.ExpressionGrammar.{Sign, SpellsExpression, SpellsPrefix, SpellsLvalue, SpellsParts, SpellsWhole, chain, prefix, number, truth, value, parenthesised, unary, cast, lvalue}
use Rattle.c_parse.specs.PartGrammar.{SpellsNumber, SpellsTruth, SpellsNamedBase, SpellsPointed, SpellsTarget, SpellsPrefixed, SpellsValue, SpellsOpened, SpellsBehindOpening, cast_of, pointed_of, enclosed_of}
use Rattle.c_parse.proofs.Shapes.{built, first, either, wider, as_other, apart, among}
use Rattle.c_parse.proofs.TokenShapes as shapes
use Rattle.c_parse.proofs.TokenShapes.{Starts, sign_shape, name_shape, literal_shape, truths, unaries, integers, a_name, a_literal, a_truth, a_unary, an_integer, going_on, this_sign, of_kind, sign, full}
use Rattle.c_parse.proofs.Steps.{Sample, both, Excluded, at_first, at_second, unmake, in_full, by_test, by_full, either_way, and_left, and_right}
use Rattle.c_parse.proofs.Leaves.{the_sign, the_literal}
use Rattle.c_parse.proofs.BaseTexts.{named_starts}
use Rattle.c_parse.proofs.PartTexts.{lvalue_of}
use Rattle.c_parse.proofs.LevelsClimbed.{tightest}

abbrev pub Literals : Expression → Tokens → Type 0
Literals = SpellsNumber ∣ SpellsTruth

module _ (dialect : Dialect) where
  abbrev pub Unopened : Expression → Tokens → Type 0
  Unopened = SpellsPrefixed dialect ∣ Literals

  -- the operands that begin with no name
  abbrev pub Unnamed : Expression → Tokens → Type 0
  Unnamed = SpellsOpened dialect ∣ Unopened

  abbrev pub NamedValue : Expression → Tokens → Type 0
  NamedValue = Made (λ p. value_of (lvalue_of p)) (SpellsNamedBase dialect ⋅ SpellsParts dialect)

  value_form : (e : Expression) (l : Lvalue) (w : Tokens) → e ≡ value_of l → SpellsLvalue dialect l w → (Unnamed ∣ NamedValue) e w
  value_form e l w is (lvalue f b ps us vs k ts l_is split (inl text) rest) = inr ((b, ps), is ∙ ap value_of l_is, (us, vs, split, inl text, rest))
  value_form e l w is (lvalue f b ps us vs k ts l_is split (inr (inr text)) rest) = inr ((b, ps), is ∙ ap value_of l_is, (us, vs, split, inr text, rest))
  value_form e l w is (lvalue f b ps us vs k ts l_is split (inr (inl (whole, (p, b_is, (os, more, split_base, opening, pointer))))) rest) = inl (inl (
    (p.0, pointed_of (p.1.1.0, ps)),
    is ∙ ap value_of l_is ∙ ap (λ (c : Base). value_of (record { base = c; parts = ps })) b_is,
    (
      os,
      more ++ vs,
      split ∙ ap (λ (l : Tokens). l ++ vs) split_base ∙ append_assoc os more vs,
      opening,
      inr (inl (whole, ((p.1.1.0, ps), refl, (more, vs, refl, (p.1, refl, pointer), rest)))),
    ),
  ))

  pub form : (e : Expression) (w : Tokens) → SpellsPrefix dialect e w → (Unnamed ∣ NamedValue) e w
  form e w (number f l d ts is one) = inl (inr (inr (inl (l, is, one))))
  form e w (truth f p d ts is one) = inl (inr (inr (inr (p, is, one))))
  form e w (value f l d ts is text) = value_form e l w is text
  form e w (unary f p x os us d ts is split operator operand) = inl (inr (inl ((p, x), is, (os, us, split, operator, operand))))
  form e w (parenthesised f p q x ps us qs d ts is split opening inner closing) =
      inl (inl ((p, enclosed_of (x, q)), is, (ps, us ++ qs, split, opening, inr (inr ((x, q), refl, (us, qs, refl, inner, closing))))))
  form e w (cast f p q c x ps cs qs us d ts is split opening class closing operand) = inl (inl (
    (p, cast_of (c, x)),
    is,
    (ps, cs ++ (qs ++ us), split, opening, inl ((c, x), refl, (cs ++ qs, us, sym (append_assoc cs qs us), ((c, q), refl, (cs, qs, refl, class, closing)), operand))),
  ))

  back : (e : Expression) (w : Tokens) → (Unnamed ∣ NamedValue) e w → SpellsPrefix dialect e w
  back e w (inl (inl (p, made_of, (us, vs, split, opening, inl (q, is, (cs, xs, split_rest, (r, class_is, (ks, qs, split_class, class, closing)), operand)))))) =
      cast dialect p.0 r.1 r.0 q.1 us ks qs xs e w
      (made_of ∙ ap (λ (f : Place → Expression). f p.0) is ∙ ap (λ (c : Place × IntegerType). Cast p.0 c.1 p.0 q.1) class_is)
      (split ∙ ap (λ (l : Tokens). us ++ l) (split_rest ∙ ap (λ (l : Tokens). l ++ xs) split_class ∙ append_assoc ks qs xs)) opening class closing operand
  back e w (inl (inl (p, made_of, (us, vs, split, opening, inr (inl (whole, (q, is, (ns, ps, split_rest, (r, name_is, pointer), parts)))))))) =
      let l : Lvalue = record { base = base.Pointed p.0 r.1.0; parts = q.1 } in
      value dialect l e w (made_of ∙ ap (λ (f : Place → Expression). f p.0) is ∙ ap (λ (x : Named). pointed_of (x, q.1) p.0) name_is)
      (lvalue dialect (base.Pointed p.0 r.1.0) q.1 (us ++ ns) ps l w refl (split ∙ ap (λ (l : Tokens). us ++ l) split_rest ∙ sym (append_assoc us ns ps))
      (inr (inl (whole, ((p.0, r), refl, (us, ns, refl, opening, pointer))))) parts)
  back e w (inl (inl (p, made_of, (us, vs, split, opening, inr (inr (q, is, (xs, cs, split_rest, inner, closing))))))) =
      parenthesised dialect p.0 q.1 q.0 us xs cs e w (made_of ∙ ap (λ (f : Place → Expression). f p.0) is) (split ∙ ap (λ (l : Tokens). us ++ l) split_rest) opening inner closing
  back e w (inl (inr (inl (p, is, (os, us, split, operator, operand))))) = unary dialect p.0 p.1 os us e w is split operator operand
  back e w (inl (inr (inr (inl (l, is, one))))) = number dialect l e w is one
  back e w (inl (inr (inr (inr (p, is, one))))) = truth dialect p e w is one
  back e w (inr (p, is, (us, vs, split, inl text, rest))) = value dialect (lvalue_of p) e w is (lvalue dialect p.0 p.1 us vs (lvalue_of p) w refl split (inl text) rest)
  back e w (inr (p, is, (us, vs, split, inr text, rest))) = value dialect (lvalue_of p) e w is (lvalue dialect p.0 p.1 us vs (lvalue_of p) w refl split (inr (inr text)) rest)

  opened_starts : Starts (sign_shape mark.OpenParenthesis ∷ []) (SpellsOpened dialect)
  opened_starts = built _ (first _ (sign mark.OpenParenthesis refl))

  prefixed_starts : Starts unaries (SpellsPrefixed dialect)
  prefixed_starts = built _ (first _ (shapes.unary refl))

  abbrev pub literal_shapes : List (List ℕ)
  literal_shapes = literal_shape ∷ truths

  literals_start : Starts literal_shapes Literals
  literals_start = either (built _ (shapes.literal refl)) (built _ (shapes.truth refl))

  unopened_starts : Starts (literal_shapes ++ unaries) Unopened
  unopened_starts = either (wider prefixed_starts refl) (wider literals_start refl)

  abbrev pub unnamed_shapes : List (List ℕ)
  unnamed_shapes = sign_shape mark.OpenParenthesis ∷ literal_shapes ++ unaries

  pub unnamed_starts : Starts unnamed_shapes Unnamed
  unnamed_starts = either (wider opened_starts refl) (wider unopened_starts refl)

  named_start : Starts (name_shape ∷ []) NamedValue
  named_start = built _ (first _ (named_starts dialect))

  abbrev pub expression_shapes : List (List ℕ)
  expression_shapes = name_shape ∷ unnamed_shapes

  operand_starts : Starts expression_shapes (SpellsPrefix dialect)
  operand_starts = as_other form (either (wider unnamed_starts refl) (wider named_start refl))

  expression-begins : (n : ℕ) (e : Expression) (w m : Tokens) → SpellsExpression dialect n e w → begins (λ t. shapes.starts_so expression_shapes t) (w ++ m) ≡ true
  expression-begins n e w m (chain f k x os us vs d ts low is split one rest) =
      ap (λ (l : Tokens). begins (λ t. shapes.starts_so expression_shapes t) (l ++ m)) split
      ∙ ap (begins (λ t. shapes.starts_so expression_shapes t)) (append_assoc us vs m) ∙ expression-begins (n + 1) x us (vs ++ m) one
  expression-begins n e w m (prefix f k d ts tight text) = operand_starts.begins e w m text

  pub expression_starts : (n : ℕ) → Starts expression_shapes (SpellsExpression dialect n)
  expression_starts n = record { begins = λ e w m text. expression-begins n e w m text }

  pub an_operand : Sample (SpellsPrefix dialect)
  an_operand = (Number the_literal.0.place the_literal.0, the_literal.1, number dialect the_literal.0 (Number the_literal.0.place the_literal.0) the_literal.1 refl the_literal.2)

  module _ (before : Tokens) where
    abbrev Operand : Expression → Tokens → Type 0
    Operand = SpellsPrefix dialect

    abbrev F : Tokens → Type 0
    F = Ends prefix_level

    operand_left : Leaves Operand F before before (λ e. e) (Unnamed ∣ NamedValue)
    operand_left = begun Operand F before (λ e. e) (Unnamed ∣ NamedValue) (λ e w text. (e, refl, form e w text)) back

    pub opened_there : begins (is_mark mark.OpenParenthesis) before ≡ true → Leaves Operand F before before (λ e. e) (SpellsOpened dialect)
    opened_there there = at_first (at_first operand_left (by_test (apart (this_sign mark.OpenParenthesis) named_start refl) there)) (by_test (apart (this_sign mark.OpenParenthesis) unopened_starts refl) there)

    pub prefixed_there : begins is_unary before ≡ true → Leaves Operand F before before (λ e. e) (SpellsPrefixed dialect)
    prefixed_there there =
        at_first (at_second (at_first operand_left (by_test (apart a_unary named_start refl) there)) (by_test (apart a_unary opened_starts refl) there))
        (by_test (apart a_unary literals_start refl) there)

    pub number_there : begins is_literal before ≡ true → Leaves Operand F before before (λ e. e) SpellsNumber
    number_there there =
        at_first
        (at_second (at_second (at_first operand_left (by_test (apart a_literal named_start refl) there)) (by_test (apart a_literal opened_starts refl) there)) (by_test (apart a_literal prefixed_starts refl) there))
        (by_test (apart a_literal (built _ (of_kind a_truth)) refl) there)

    pub truth_there : begins is_truth before ≡ true → Leaves Operand F before before (λ e. e) SpellsTruth
    truth_there there =
        at_second
        (at_second (at_second (at_first operand_left (by_test (apart a_truth named_start refl) there)) (by_test (apart a_truth opened_starts refl) there)) (by_test (apart a_truth prefixed_starts refl) there))
        (by_test (apart a_truth (built _ (of_kind a_literal)) refl) there)

    value_left : Excluded F before Unnamed → Leaves Operand F before before (λ e. e) (SpellsValue dialect)
    value_left others = refined Operand F before before (λ e. e) (Unnamed ∣ NamedValue) (λ e. e) (SpellsValue dialect) operand_left
        (λ e v text. form e v (value dialect text.0 e v text.1 text.2))
        (λ e v m text follows same. elim text [ inl other ↦ absurd (others.none e v m other follows same) | inr named ↦ (e, refl, (lvalue_of named.0, named.1, named_lvalue named.0 v named.2)) ])
      where
        named_lvalue : (p : Base × List Selector) (v : Tokens) → (SpellsNamedBase dialect ⋅ SpellsParts dialect) p v → SpellsLvalue dialect (lvalue_of p) v
        named_lvalue p v (us, vs, split, inl text, rest) = lvalue dialect p.0 p.1 us vs (lvalue_of p) v refl split (inl text) rest
        named_lvalue p v (us, vs, split, inr text, rest) = lvalue dialect p.0 p.1 us vs (lvalue_of p) v refl split (inr (inr text)) rest

    pub named_there : begins is_name before ≡ true → Leaves Operand F before before (λ e. e) (SpellsValue dialect)
    named_there there = value_left (by_test (apart a_name unnamed_starts refl) there)

    pub value_there : begins (is_mark mark.OpenParenthesis) before ≡ false → begins is_unary before ≡ false → begins is_literal before ≡ false → begins is_truth before ≡ false → Leaves Operand F before before (λ e. e) (SpellsValue dialect)
    value_there no_opening no_operator no_literal no_truth =
        value_left (either_way (by_test (among (this_sign mark.OpenParenthesis) opened_starts refl) no_opening) (either_way (by_test (among a_unary prefixed_starts refl) no_operator)
        (either_way (by_test (among a_literal (built _ (of_kind a_literal)) refl) no_literal) (by_test (among a_truth (built _ (of_kind a_truth)) refl) no_truth))))

pub bracket-ends : (F : Tokens → Type 0) (p : Place) (w m : Tokens) → Sign mark.CloseBracket p w → F m → Ends loosest_level (w ++ m)
bracket-ends F p w m text follows = apart going_on (of_kind (this_sign mark.CloseBracket)) refl p w m text

pub close-ends : (F : Tokens → Type 0) (p : Place) (w m : Tokens) → Sign mark.CloseParenthesis p w → F m → Ends loosest_level (w ++ m)
close-ends F p w m text follows = apart going_on (of_kind (this_sign mark.CloseParenthesis)) refl p w m text

-- what stands behind a `(`
module _ (dialect : Dialect) where
  cast_starts : Starts integers (Made cast_of (SpellsTarget ⋅ SpellsPrefix dialect))
  cast_starts = built _ (first _ (built _ (first _ (shapes.integer_type refl))))

  pointed_starts : Starts (sign_shape mark.Star ∷ []) (Made pointed_of (SpellsPointed ⋅ SpellsParts dialect))
  pointed_starts = built _ (first _ (built _ (first _ (sign mark.Star refl))))

  enclosed_starts : Starts (expression_shapes dialect) (Made enclosed_of (SpellsWhole dialect ⋅ Sign mark.CloseParenthesis))
  enclosed_starts = built _ (first _ (expression_starts dialect loosest_level))

  pub a_whole : Sample (SpellsWhole dialect)
  a_whole = let e = an_operand dialect in (e.0, e.1, tightest dialect e.0 e.1 10 1 refl e.2)

  pub an_enclosed : Sample (SpellsBehindOpening dialect)
  an_enclosed =
      let e = both a_whole (the_sign mark.CloseParenthesis) in
      (enclosed_of e.0, e.1, inr (inr (e.0, refl, e.2)))

  module _ {before at : Tokens} {build : (Place → Expression) → Expression} (so : Leaves (SpellsOpened dialect) (Ends prefix_level) before at build (SpellsBehindOpening dialect)) where
    pub cast_there : begins is_integer at ≡ true → Leaves (SpellsOpened dialect) (Ends prefix_level) before at (λ p. build (cast_of p)) (SpellsTarget ⋅ SpellsPrefix dialect)
    cast_there there = unmake (at_first so (either_way (by_test (apart an_integer (full dialect pointed_starts) refl) there) (by_test (apart an_integer enclosed_starts refl) there)))

    pub pointed_there : (is_full dialect && begins (is_mark mark.Star) at) ≡ true → Leaves (SpellsOpened dialect) (Ends prefix_level) before at (λ p. build (pointed_of p)) (SpellsPointed ⋅ SpellsParts dialect)
    pointed_there there =
        let star = and_right (is_full dialect) (begins (is_mark mark.Star) at) there in
        unmake (in_full dialect (at_first (at_second so (by_test (apart (this_sign mark.Star) cast_starts refl) star)) (by_test (apart (this_sign mark.Star) enclosed_starts refl) star)) (and_left (is_full dialect) (begins (is_mark mark.Star) at) there))

    pub enclosed_there : begins is_integer at ≡ false → (is_full dialect && begins (is_mark mark.Star) at) ≡ false → Leaves (SpellsOpened dialect) (Ends prefix_level) before at (λ p. build (enclosed_of p)) (SpellsWhole dialect ⋅ Sign mark.CloseParenthesis)
    enclosed_there none no_pointer =
        unmake (at_second (at_second so (by_test (among an_integer cast_starts refl) none)) (by_full dialect (among (this_sign mark.Star) pointed_starts refl) no_pointer))
