-- Which statement without a block stands ahead: by the first token, and by the second behind a name.
use Rattle.std.proofs.Common.{◌≡◌, ◌∙◌, refl, sym, ap, Bool, true, false, ◌||◌, ◌&&◌, List, [], ◌∷◌, ◌++◌, drop, append_assoc, Some, inl, inr}
use Rattle.std.specs.Prelude.{not}
use Rattle.std.proofs.lemmas.Bool.{false≢true}
use Rattle.hw_text.specs.declared.placed.Placed.{Placed}
use Rattle.hw_text.specs.Language.{◌⋅◌}
use Rattle.hw_text.specs.Reading.{first, begins, Anything, Leaves}
use Rattle.c_tree.specs.declared.dialect.Dialect.{Dialect}
use Rattle.c_tree.specs.Dialects.{is_full}
use Rattle.c_tree.specs.declared.expression.Selector.{Selector}
use Rattle.c_tree.specs.declared.expression.Lvalue.{Lvalue}
use Rattle.c_tree.specs.declared.named.Named.{Named}
use Rattle.c_tree.specs.declared.statement.Statement.{Statement}
use Rattle.c_tree.specs.declared.type_name.TypeName.TheVariants as class
use Rattle.c_parse.specs.declared.token.Token.{Token}
use Rattle.c_parse.specs.declared.keyword.Keyword.TheVariants as keyword
use Rattle.c_parse.specs.declared.mark.Mark.TheVariants as mark
use Rattle.c_parse.specs.Values.{Tokens, is_mark, is_word, is_name, is_plain_type, name_token}
use Rattle.c_parse.specs.ExpressionGrammar.{Sign, Name, SpellsLvalue, lvalue, SpellsParts}
use Rattle.c_parse.specs.CallGrammar.{SpellsRightSide, SpellsCall, call_of}
use Rattle.c_parse.specs.PlainGrammar.{local_of, SpellsLocal, SpellsAssignment, SpellsCallAlone, SpellsBreak, SpellsPlain}
use Rattle.c_parse.proofs.LocalTexts.{a_local_value}
use Rattle.c_parse.proofs.CallTexts.{a_right, no_arguments, name_lvalue}
use Rattle.c_parse.proofs.Steps.{both, all_left, at_first, at_second, in_full, by_test, by_full, either_way, and_left, and_right}
use Rattle.c_parse.proofs.TwoAhead.{TwoAhead}
use Rattle.hw_text.proofs.Reading.{first-begins}
use Rattle.c_parse.proofs.Leaves.{the_sign, the_name}
use Rattle.c_parse.proofs.Shapes.{first as first_of, apart, among, also, each-behind}
use Rattle.c_parse.proofs.TokenShapes.{Means, by_kinds, sign_shape, name_shape, a_name, a_plain_type, this_sign, this_word, of_kind, full}
use Rattle.c_parse.proofs.TypeTexts.{type_shapes}
use Rattle.c_parse.proofs.BaseTexts.{arrow_starts}
use Rattle.c_parse.proofs.PartTexts.{part_starts, each_part}
use Rattle.c_parse.proofs.PlainTexts.{local_starts, assignment_starts, alone_starts, break_starts, drop-one, local-second, alone-second}

-- what stands behind the name that begins a call or a local variable
abbrev names_more : Placed Token → Bool
names_more t = is_name t || is_mark mark.OpenParenthesis t

more_names : Means names_more (name_shape ∷ sign_shape mark.OpenParenthesis ∷ [])
more_names = by_kinds names_more (name_shape ∷ sign_shape mark.OpenParenthesis ∷ []) (λ p. refl) (λ p. refl) (λ n p. refl) (λ n p. refl) (λ n p. refl)

parts-second : (dialect : Dialect) (ps : List Selector) (vs k : Tokens) → begins names_more k ≡ false → SpellsParts dialect ps vs → begins names_more (vs ++ k) ≡ false
parts-second dialect ps vs k none text = each-behind {F = λ m. begins names_more m ≡ false} (apart more_names (part_starts dialect) refl) (λ m nothing. nothing) ps vs k (each_part dialect ps vs text) none

lvalue-second : (dialect : Dialect) (l : Lvalue) (w k : Tokens) → SpellsLvalue dialect l w → begins is_name (w ++ k) ≡ true → begins names_more k ≡ false → begins names_more (drop 1 (w ++ k)) ≡ false
lvalue-second dialect l w k (lvalue f b ps us vs x ws is split (inl at) rest) named none =
    let name = at.2 in
    ap (begins names_more) (drop-one w us vs k name.0 split name.1) ∙ parts-second dialect ps vs k none rest
lvalue-second dialect l w k (lvalue f b ps us vs x ws is split (inr (inl at)) rest) named none =
    let star = at.1.2 in
    absurd (false≢true (sym (ap (λ (l : Tokens). begins is_name (l ++ k)) split ∙ ap (begins is_name) (append_assoc us vs k)
    ∙ apart a_name (first_of (Sign mark.Star ⋅ Name ⋅ Sign mark.CloseParenthesis) (of_kind (this_sign mark.OpenParenthesis))) refl at.1.0 us (vs ++ k) star) ∙ named))
lvalue-second dialect l w k (lvalue f b ps us vs x ws is split (inr (inr at)) rest) named none =
    let arrow = at.1.2 in
    ap (λ (l : Tokens). begins names_more (drop 1 (l ++ k))) split ∙ ap (λ (l : Tokens). begins names_more (drop 1 l)) (append_assoc us vs k)
    ∙ ap (begins names_more) (drop-one us arrow.0 arrow.1 (vs ++ k) arrow.3.0 arrow.2 arrow.3.1)
    ∙ apart more_names arrow_starts refl at.1.0.1 arrow.1 (vs ++ k) arrow.4

assignment-second : (dialect : Dialect) (z : Statement) (w m : Tokens) → SpellsAssignment dialect z w → begins is_name (w ++ m) ≡ true → begins names_more (drop 1 (w ++ m)) ≡ false
assignment-second dialect z w m text named =
    let parts = text.2 in
    let whole = ap (λ (l : Tokens). l ++ m) parts.2 ∙ append_assoc parts.0 parts.1 m in
    ap (λ (l : Tokens). begins names_more (drop 1 l)) whole
    ∙ lvalue-second dialect text.0.0 parts.0 (parts.1 ++ m) parts.3 (ap (begins is_name) (sym whole) ∙ named)
    (apart more_names (first_of (SpellsRightSide dialect ⋅ Sign mark.Semicolon) (of_kind (this_sign mark.Assign))) refl text.0.1 parts.1 m parts.4)

module _ (dialect : Dialect) (x : Named) (at : Tokens) where
  abbrev t : Placed Token
  t = name_token x

  break-never : (z : Statement) (w m : Tokens) → SpellsBreak z w → first (w ++ m) ≡ Some t → ⊥
  break-never z w m text same = false≢true (sym (apart a_name (break_starts dialect) refl z w m text) ∙ first-begins is_name (w ++ m) (t ∷ at) same)

  named : (w m : Tokens) → first (w ++ m) ≡ Some t → begins is_name (w ++ m) ≡ true
  named w m same = first-begins is_name (w ++ m) (t ∷ at) same

  clash : (test : Placed Token → Bool) (so : Bool) (l : Tokens) → begins test l ≡ so → begins test at ≡ not so → first l ≡ first at → ⊥
  clash test true l is other same = false≢true (sym other ∙ sym (first-begins test l at same) ∙ is)
  clash test false l is other same = false≢true (sym is ∙ first-begins test l at same ∙ other)

  -- NAME NAME
  pub local_ahead : begins is_name at ≡ true → TwoAhead (SpellsPlain dialect) (SpellsLocal dialect) Anything Anything t at
  local_ahead there = record {
    within = λ z w text. inl text;
    follow = λ m follows. tt;
    ends = tt;
    only = λ z w m text follows same second. elim text [
      | inl a ↦ a
      | inr (inl a) ↦ absurd (clash names_more false (drop 1 (w ++ m)) (assignment-second dialect z w m a (named w m same)) (also a_name more_names refl at there) second)
      | inr (inr (inl a)) ↦ absurd (clash is_name false (drop 1 (w ++ m)) (alone-second is_name false dialect (apart a_name (of_kind (this_sign mark.OpenParenthesis)) refl) z w m a) there second)
      | inr (inr (inr a)) ↦ absurd (break-never z w m a.1 same)
    ];
    begun =
        let rest = both the_name (both (a_local_value dialect) (the_sign mark.Semicolon)) in
        (local_of (class.Defined x, rest.0), rest.1, ((class.Defined x, rest.0), refl, (t ∷ [], rest.1, refl, inr (inr (x, refl, (t, refl, refl))), rest.2)));
  }

  -- NAME "("
  pub alone_ahead : begins (is_mark mark.OpenParenthesis) at ≡ true → TwoAhead (SpellsPlain dialect) (SpellsCallAlone dialect) Anything Anything t at
  alone_ahead there = record {
    within = λ z w text. inr (inr (inl text));
    follow = λ m follows. tt;
    ends = tt;
    only = λ z w m text follows same second. elim text [
      | inl a ↦ absurd (clash (is_mark mark.OpenParenthesis) false (drop 1 (w ++ m)) (local-second (is_mark mark.OpenParenthesis) false dialect (apart (this_sign mark.OpenParenthesis) (of_kind a_name) refl) z w m a) there second)
      | inr (inl a) ↦ absurd (clash names_more false (drop 1 (w ++ m)) (assignment-second dialect z w m a (named w m same)) (also (this_sign mark.OpenParenthesis) more_names refl at there) second)
      | inr (inr (inl a)) ↦ a
      | inr (inr (inr a)) ↦ absurd (break-never z w m a.1 same)
    ];
    begun =
        let rest = both (the_sign mark.OpenParenthesis) (both (no_arguments dialect) (the_sign mark.CloseParenthesis)) in
        let end = the_sign mark.Semicolon in
        let call : SpellsCall dialect (call_of (x, rest.0)) (t ∷ rest.1) = ((x, rest.0), refl, (t ∷ [], rest.1, refl, (t, refl, refl), rest.2)) in
        (_, rest.1 ++ end.1, ((call_of (x, rest.0), end.0), refl, (t ∷ rest.1, end.1, refl, call, end.2)));
  }

  -- NAME, and what makes neither a local variable nor a call
  pub assignment_ahead : begins is_name at ≡ false → begins (is_mark mark.OpenParenthesis) at ≡ false → TwoAhead (SpellsPlain dialect) (SpellsAssignment dialect) Anything Anything t at
  assignment_ahead no_name no_call = record {
    within = λ z w text. inr (inl text);
    follow = λ m follows. tt;
    ends = tt;
    only = λ z w m text follows same second. elim text [
      | inl a ↦ absurd (clash is_name true (drop 1 (w ++ m)) (local-second is_name true dialect (among a_name (of_kind a_name) refl) z w m a) no_name second)
      | inr (inl a) ↦ a
      | inr (inr (inl a)) ↦ absurd (clash (is_mark mark.OpenParenthesis) true (drop 1 (w ++ m)) (alone-second (is_mark mark.OpenParenthesis) true dialect (among (this_sign mark.OpenParenthesis) (of_kind (this_sign mark.OpenParenthesis)) refl) z w m a) no_call second)
      | inr (inr (inr a)) ↦ absurd (break-never z w m a.1 same)
    ];
    begun =
        let rest = both (the_sign mark.Assign) (both (a_right dialect) (the_sign mark.Semicolon)) in
        (_, rest.1, ((_, rest.0), refl, (t ∷ [], rest.1, refl, name_lvalue dialect x (t ∷ []) (t, refl, refl), rest.2)));
  }

module _ (dialect : Dialect) (before : Tokens) where
  plain_left : Leaves (SpellsPlain dialect) Anything before before (λ z. z) (SpellsPlain dialect)
  plain_left = all_left (SpellsPlain dialect) Anything before

  -- a type that is no name
  pub typed_there : begins is_plain_type before ≡ true → Leaves (SpellsPlain dialect) Anything before before (λ z. z) (SpellsLocal dialect)
  typed_there there = at_first plain_left
      (either_way (by_test (apart a_plain_type (assignment_starts dialect) refl) there)
      (either_way (by_test (apart a_plain_type (alone_starts dialect) refl) there) (by_test (apart a_plain_type (full dialect (break_starts dialect)) refl) there)))

  pub break_there : (is_full dialect && begins (is_word keyword.Break) before) ≡ true → Leaves (SpellsPlain dialect) Anything before before (λ z. z) SpellsBreak
  break_there there =
      let word = and_right (is_full dialect) (begins (is_word keyword.Break) before) there in
      in_full dialect
      (at_second
      (at_second (at_second plain_left (by_test (apart (this_word keyword.Break) (local_starts dialect) refl) word)) (by_test (apart (this_word keyword.Break) (assignment_starts dialect) refl) word))
      (by_test (apart (this_word keyword.Break) (alone_starts dialect) refl) word))
      (and_left (is_full dialect) (begins (is_word keyword.Break) before) there)

  -- a token with which a type begins
  abbrev is_type : Placed Token → Bool
  is_type t = is_name t || is_plain_type t

  a_type_token : Means is_type type_shapes
  a_type_token = by_kinds is_type type_shapes (λ p. refl) (λ p. refl) (λ n p. refl) (λ n p. refl) (λ n p. refl)

  neither : (l : Tokens) → begins is_name l ≡ false → begins is_plain_type l ≡ false → begins is_type l ≡ false
  neither [] one other = refl
  neither (t ∷ l) one other = ap (λ (b : Bool). b || is_plain_type t) one ∙ other

  pub assignment_there : begins is_name before ≡ false → begins is_plain_type before ≡ false → (is_full dialect && begins (is_word keyword.Break) before) ≡ false → Leaves (SpellsPlain dialect) Anything before before (λ z. z) (SpellsAssignment dialect)
  assignment_there no_name no_type no_break = at_first
      (at_second plain_left (by_test (among a_type_token (local_starts dialect) refl) (neither before no_name no_type)))
      (either_way (by_test (among a_name (alone_starts dialect) refl) no_name) (by_full dialect (among (this_word keyword.Break) (break_starts dialect) refl) no_break))
