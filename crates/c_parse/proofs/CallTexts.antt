-- How arguments, calls and what stands on the right begin, small texts of them, and which of them stands ahead.
use Rattle.std.proofs.Common.{◌≡◌, ◌∙◌, refl, sym, ap, List, [], ◌∷◌, ◌++◌, append-nil, subst, true, false, inl, inr}
use Rattle.std.proofs.lemmas.Bool.{false≢true}
use Rattle.std.specs.Prelude.{⊤}
use Rattle.hw_text.specs.Language.{Nothing, ◌⋅◌, Each, Made, ◌∣◌}
use Rattle.hw_text.specs.Reading.{first, begins, Anything, BeginsWith, Reached, Leaves}
use Rattle.hw_text.proofs.Reading.{begun, rebuilt, ended, first-begins, one-reached}
use Rattle.hw_text.specs.declared.place.Place.{Place}
use Rattle.c_tree.specs.declared.dialect.Dialect.{Dialect}
use Rattle.c_tree.specs.declared.named.Named.{Named}
use Rattle.c_tree.specs.declared.expression.Argument.{Argument}
use Rattle.c_tree.specs.declared.expression.Argument.TheVariants as argument
use Rattle.c_tree.specs.declared.expression.Base.TheVariants as base
use Rattle.c_tree.specs.declared.expression.RightSide.TheVariants as right
use Rattle.c_parse.specs.declared.mark.Mark.TheVariants as mark
use Rattle.c_parse.specs.Values.{Tokens, is_mark, name_of, name_token}
use Rattle.c_parse.specs.Levels.{loosest_level}
use Rattle.c_parse.specs.Operators.{Ends}
use Rattle.c_parse.specs.ExpressionGrammar.{Sign, Name, SpellsWhole, SpellsLvalue, lvalue, no_part}
use Rattle.c_parse.specs.CallGrammar.{BehindComma, Separated, address, SpellsArgument, SpellsCall, call_of, SpellsRightSide}
use Rattle.c_parse.proofs.Shapes.{built, first as first_of, either, wider, apart, among, unlike, each-behind}
use Rattle.c_parse.proofs.TokenShapes.{Starts, sign_shape, name_shape, this_sign, of_kind, going_on, sign, name}
use Rattle.c_parse.proofs.Steps.{Sample, Excluded, both, sample_of, all_left, at_first, at_second, unmake, by_test, as_value}
use Rattle.c_parse.proofs.Leaves.{the_sign, the_name}
use Rattle.c_parse.proofs.Lists.{Listed, some_member}
use Rattle.c_parse.proofs.OperandTexts.{expression_shapes, expression_starts, a_whole}

abbrev pub Closes : Tokens → Type 0
Closes = BeginsWith (is_mark mark.CloseParenthesis)

abbrev F : Tokens → Type 0
F = Ends loosest_level

-- behind the arguments stands a parenthesis that closes
pub close-closes : (G : Tokens → Type 0) (p : Place) (w m : Tokens) → Sign mark.CloseParenthesis p w → G m → Closes (w ++ m)
close-closes G p w m text follows = among (this_sign mark.CloseParenthesis) (of_kind (this_sign mark.CloseParenthesis)) refl p w m text

-- a name that was passed has been read
pub name_read : (x : Named) (at : Tokens) → Reached Name Anything (name_token x ∷ at) at x
name_read x at = one-reached name_of Anything (name_token x ∷ at) at (name_token x) x refl refl refl

-- an lvalue of a name alone
pub name_lvalue : (dialect : Dialect) (x : Named) (ts : Tokens) → Name x ts → SpellsLvalue dialect (record { base = base.Variable x; parts = [] }) ts
name_lvalue dialect x ts name = lvalue dialect (base.Variable x) [] ts [] (record { base = base.Variable x; parts = [] }) ts refl (sym (append-nil ts)) (inl (x, refl, name)) (no_part dialect [] [] refl refl)

module _ (dialect : Dialect) where
  abbrev Argument_ : Argument → Tokens → Type 0
  Argument_ = SpellsArgument dialect

  abbrev pub Next : Argument → Tokens → Type 0
  Next = BehindComma Argument_

  abbrev All : List Argument → Tokens → Type 0
  All = Separated Argument_

  value_starts : Starts (expression_shapes dialect) (Made argument.Value (SpellsWhole dialect))
  value_starts = built _ (expression_starts dialect loosest_level)

  address_starts : Starts (sign_shape mark.Ampersand ∷ []) (Made address (Sign mark.Ampersand ⋅ Name))
  address_starts = built _ (first_of _ (sign mark.Ampersand refl))

  argument_starts : Starts (sign_shape mark.Ampersand ∷ expression_shapes dialect) Argument_
  argument_starts = either (wider address_starts refl) (wider value_starts refl)

  next_starts : Starts (sign_shape mark.Comma ∷ []) Next
  next_starts = built _ (first_of _ (sign mark.Comma refl))

  pub an_argument : Sample Argument_
  an_argument = let e = a_whole dialect in (argument.Value e.0, e.1, inr (e.0, refl, e.2))

  pub no_arguments : Sample All
  no_arguments = ([], [], refl)

  pub a_call : Sample (SpellsCall dialect)
  a_call = sample_of call_of (both the_name (both (the_sign mark.OpenParenthesis) (both no_arguments (the_sign mark.CloseParenthesis))))

  pub a_right : Sample (SpellsRightSide dialect)
  a_right = let s = a_call in (right.Call s.0, s.1, inl (s.0, refl, s.2))

  pub call_starts : Starts (name_shape ∷ []) (SpellsCall dialect)
  call_starts = built _ (first_of _ (name refl))

  pub right_starts : Starts (expression_shapes dialect) (SpellsRightSide dialect)
  right_starts = either (built _ (wider call_starts refl)) (built _ (expression_starts dialect loosest_level))

  module _ (before : Tokens) where
    pub address_there : begins (is_mark mark.Ampersand) before ≡ true → Leaves Argument_ F before before address (Sign mark.Ampersand ⋅ Name)
    address_there there = unmake (at_first (all_left Argument_ F before) (by_test (apart (this_sign mark.Ampersand) value_starts refl) there))

    pub value_there : begins (is_mark mark.Ampersand) before ≡ false → Leaves Argument_ F before before argument.Value (SpellsWhole dialect)
    value_there none = unmake (at_second (all_left Argument_ F before) (by_test (among (this_sign mark.Ampersand) address_starts refl) none))

    abbrev None_ : List Argument → Tokens → Type 0
    None_ = Made (λ (u : ⊤). []) Nothing

    abbrev Some_ : List Argument → Tokens → Type 0
    Some_ = Made (λ p. p.0 ∷ p.1) (Argument_ ⋅ Each Next)

    none_or_some : (xs : List Argument) (w : Tokens) → All xs w → (None_ ∣ Some_) xs w
    none_or_some [] w text = inl (tt, refl, text)
    none_or_some (x ∷ xs) w text = inr ((x, xs), refl, text)

    all_of : (xs : List Argument) (w : Tokens) → (None_ ∣ Some_) xs w → All xs w
    all_of xs w (inl text) = subst (λ (l : List Argument). All l w) (sym text.1) text.2
    all_of xs w (inr text) = subst (λ (l : List Argument). All l w) (sym text.1) text.2

    arguments_left : Leaves All Closes before before (λ xs. xs) (None_ ∣ Some_)
    arguments_left = begun All Closes before (λ xs. xs) (None_ ∣ Some_) (λ xs w text. (xs, refl, none_or_some xs w text)) all_of

    pub none_there : (none : List Argument) → none ≡ [] → begins (is_mark mark.CloseParenthesis) before ≡ true → Reached All Closes before before none
    none_there none is there = as_value is
        (ended All Closes before before (λ u. []) (unmake (at_first arguments_left (by_test (apart (this_sign mark.CloseParenthesis) (built _ (first_of _ argument_starts)) refl) there))))

    not_empty : begins (is_mark mark.CloseParenthesis) before ≡ false → Excluded Closes before None_
    not_empty none = record {
      none = λ xs w m text closes same.
          false≢true (sym none ∙ sym (first-begins (is_mark mark.CloseParenthesis) m before (ap (λ (l : Tokens). first (l ++ m)) (sym text.2) ∙ same)) ∙ closes);
    }

    pub some_there : begins (is_mark mark.CloseParenthesis) before ≡ false → Leaves All Closes before before (λ p. p.0 ∷ p.1) (Argument_ ⋅ Each Next)
    some_there none = unmake (at_second arguments_left (not_empty none))

  pub nexts_follow : (xs : List Argument) (w m : Tokens) → Each Next xs w → Closes m → F (w ++ m)
  nexts_follow = each-behind (apart going_on next_starts refl) (unlike (this_sign mark.CloseParenthesis) going_on refl)

  -- the first argument has been read
  pub one_argument : {before at : Tokens} {x : Argument} {read : List Argument} → read ≡ x ∷ [] → Leaves All Closes before at (λ later. x ∷ later) (Each Next) → Leaves All Closes before at (λ later. read ++ later) (Each Next)
  one_argument {before = before} {at = at} {x = x} {read = read} is so = rebuilt All Closes before at (λ later. x ∷ later) (λ later. read ++ later) (Each Next) (λ later. ap (λ (xs : List Argument). xs ++ later) (sym is)) so

  pub arguments_listed : Listed Next (is_mark mark.Comma) true F Closes
  arguments_listed = record {
    some = some_member next_starts;
    starts = among (this_sign mark.Comma) next_starts refl;
    ends = unlike (this_sign mark.CloseParenthesis) (this_sign mark.Comma) refl;
    follow = unlike (this_sign mark.CloseParenthesis) going_on refl;
    next = apart going_on next_starts refl;
  }
