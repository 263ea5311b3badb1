-- Which of what stands on the right is ahead: a call, where a name and a `(` stand there, or else an expression.
use Rattle.std.proofs.Common.{◌≡◌, ◌∙◌, refl, sym, ap, subst, [], ◌∷◌, ◌++◌, drop, ◌&&◌, true, false, Option, Some, None, inl, inr}
use Rattle.std.specs.Prelude.{is_some, IfNone}
use Rattle.std.proofs.lemmas.Bool.{false≢true}
use Rattle.std.proofs.lemmas.Option.{same_Some}
use Rattle.hw_text.specs.Language.{Made}
use Rattle.hw_text.specs.Reading.{first, begins, Anything, Reached, Stuck, Leaves}
use Rattle.hw_text.proofs.Reading.{first-begins}
use Rattle.hw_text.specs.declared.placed.Placed.{Placed}
use Rattle.c_tree.specs.declared.dialect.Dialect.{Dialect}
use Rattle.c_tree.specs.declared.named.Named.{Named}
use Rattle.c_tree.specs.declared.expression.Call.{Call}
use Rattle.c_tree.specs.declared.expression.Expression.{Expression}
use Rattle.c_tree.specs.declared.expression.Expression.TheVariants.{Value}
use Rattle.c_tree.specs.declared.expression.Base.TheVariants as base
use Rattle.c_tree.specs.declared.expression.Lvalue.{Lvalue}
use Rattle.c_tree.specs.declared.expression.RightSide.{RightSide}
use Rattle.c_tree.specs.declared.expression.RightSide.TheVariants as right
use Rattle.c_parse.specs.declared.mark.Mark.TheVariants as mark
use Rattle.c_parse.specs.declared.token.Token.{Token}
use Rattle.c_parse.specs.Values.{Tokens, is_name, name_token}
use Rattle.c_parse.specs.Levels.{loosest_level}
use Rattle.c_parse.specs.Operators.{Ends, RightEnds}
use Rattle.c_parse.specs.ExpressionGrammar.{SpellsWhole, value}
use Rattle.c_parse.specs.CallGrammar.{SpellsCall, SpellsRightSide, call_of}
use Rattle.c_parse.specs.PartGrammar.{from_name}
use Rattle.c_parse.proofs.Shapes.{built, among, fewer}
use Rattle.c_parse.proofs.TokenShapes.{a_name, this_sign, going_on, right_going_on}
use Rattle.c_parse.proofs.LevelsClimbed.{tightest}
use Rattle.c_parse.proofs.Steps.{both, made, done, done_by, stuck_last, stuck_last_by, all_left, at_second, unmake, by_test}
use Rattle.c_parse.proofs.Leaves.{the_sign}
use Rattle.c_parse.proofs.TwoAhead.{TwoAhead, widened_read, widened_stuck}
use Rattle.c_parse.proofs.CallBegins.{is_opening, begins_call, expression-no-call, call-begins}
use Rattle.c_parse.proofs.CallTexts.{no_arguments, call_starts, name_lvalue}

abbrev pub CallForm : Dialect → RightSide → Tokens → Type 0
CallForm dialect = Made right.Call (SpellsCall dialect)

abbrev pub ValueForm : Dialect → RightSide → Tokens → Type 0
ValueForm dialect = Made right.Value (SpellsWhole dialect)

module _ (dialect : Dialect) (x : Named) (at : Tokens) where
  abbrev t : Placed Token
  t = name_token x

  -- what agrees with a name and the token behind it begins a call as they do
  both-there : (l : Tokens) → first l ≡ Some t → first (drop 1 l) ≡ first at → begins_call l ≡ begins is_opening at
  both-there [] same second = absurd (false≢true (ap is_some same))
  both-there (u ∷ us) same second = ap (λ (v : Placed Token). is_name v && begins is_opening us) (same_Some u t same) ∙ first-begins is_opening us at second

  pub call_ahead : begins is_opening at ≡ true → TwoAhead (SpellsRightSide dialect) (CallForm dialect) RightEnds Anything t at
  call_ahead there = record {
    within = λ z w text. inl text;
    follow = λ m follows. tt;
    ends = tt;
    only = λ z w m text follows same second. elim text [
      | inl a ↦ a
      | inr a ↦ absurd (false≢true (sym (expression-no-call dialect loosest_level a.0 w m a.2 (fewer right_going_on (this_sign mark.OpenParenthesis) refl m follows)) ∙ both-there (w ++ m) same second ∙ there))
    ];
    begun =
        let rest = both (the_sign mark.OpenParenthesis) (both (no_arguments dialect) (the_sign mark.CloseParenthesis)) in
        (_, rest.1, (call_of (x, rest.0), refl, ((x, rest.0), refl, (t ∷ [], rest.1, refl, (t, refl, refl), rest.2))));
  }

  pub value_ahead : begins is_opening at ≡ false → TwoAhead (SpellsRightSide dialect) (ValueForm dialect) RightEnds (Ends loosest_level) t at
  value_ahead none = record {
    within = λ z w text. inr text;
    follow = fewer right_going_on going_on refl;
    ends = refl;
    only = λ z w m text follows same second. elim text [
      | inl a ↦ absurd (false≢true (sym none ∙ sym (both-there (w ++ m) same second) ∙ call-begins dialect a.0 w m a.2))
      | inr a ↦ a
    ];
    begun =
        let l : Lvalue = record { base = base.Variable x; parts = [] } in
        let e = Value x.place l in
        (right.Value e, [], (e, refl, tightest dialect e (t ∷ []) 10 1 refl (value dialect l e (t ∷ []) refl (name_lvalue dialect x (t ∷ []) (t, refl, refl)))));
  }

-- where no name stands, an expression does
pub value_there : (dialect : Dialect) (before : Tokens) → begins is_name before ≡ false → Leaves (SpellsRightSide dialect) RightEnds before before right.Value (SpellsWhole dialect)
value_there dialect before none = unmake (at_second (all_left (SpellsRightSide dialect) RightEnds before) (by_test (among a_name (built right.Call (call_starts dialect)) refl) none))

here : {passed : Option Named} {ts before : Tokens} {x : Named} → before ≡ from_name passed ts → passed ≡ Some x → before ≡ name_token x ∷ ts
here {ts = ts} same is = same ∙ ap (λ (p : Option Named). from_name p ts) is

pub none_passed : (dialect : Dialect) {passed : Option Named} {ts before : Tokens} → before ≡ from_name passed ts → passed ≡ None → IfNone passed (begins is_name before ≡ false) → Leaves (SpellsRightSide dialect) RightEnds before ts right.Value (SpellsWhole dialect)
none_passed dialect {ts = ts} {before = before} same is none =
    let there : before ≡ ts = same ∙ ap (λ (p : Option Named). from_name p ts) is in
    let no_name : begins is_name before ≡ false = subst (λ (p : Option Named). IfNone p (begins is_name before ≡ false)) is none in
    subst (λ (l : Tokens). Leaves (SpellsRightSide dialect) RightEnds before l right.Value (SpellsWhole dialect)) there (value_there dialect before no_name)

module _ (dialect : Dialect) {passed : Option Named} {ts before after : Tokens} {x : Named} (same : before ≡ from_name passed ts) (is : passed ≡ Some x) where
  pub call_read : begins is_opening ts ≡ true → {c : Call} → Reached (SpellsCall dialect) Anything (name_token x ∷ ts) after c → Reached (SpellsRightSide dialect) RightEnds before after (right.Call c)
  call_read there {c = c} part = subst (λ (l : Tokens). Reached (SpellsRightSide dialect) RightEnds l after (right.Call c)) (sym (here same is))
      (widened_read (call_ahead dialect x ts there) (done (made right.Call (SpellsCall dialect) Anything (name_token x ∷ ts)) part))

  pub call_stuck : begins is_opening ts ≡ true → Stuck (SpellsCall dialect) Anything (name_token x ∷ ts) after → Stuck (SpellsRightSide dialect) RightEnds before after
  call_stuck there part = subst (λ (l : Tokens). Stuck (SpellsRightSide dialect) RightEnds l after) (sym (here same is))
      (widened_stuck (call_ahead dialect x ts there) (stuck_last (made right.Call (SpellsCall dialect) Anything (name_token x ∷ ts)) part))

  pub value_read : begins is_opening ts ≡ false → {e : Expression} → Reached (SpellsWhole dialect) (Ends loosest_level) (name_token x ∷ ts) after e → Reached (SpellsRightSide dialect) RightEnds before after (right.Value e)
  value_read none {e = e} part = subst (λ (l : Tokens). Reached (SpellsRightSide dialect) RightEnds l after (right.Value e)) (sym (here same is))
      (widened_read (value_ahead dialect x ts none) (done_by (made right.Value (SpellsWhole dialect) (Ends loosest_level) (name_token x ∷ ts)) (λ m ends. ends) part))

  pub value_stuck : begins is_opening ts ≡ false → Stuck (SpellsWhole dialect) (Ends loosest_level) (name_token x ∷ ts) after → Stuck (SpellsRightSide dialect) RightEnds before after
  value_stuck none part = subst (λ (l : Tokens). Stuck (SpellsRightSide dialect) RightEnds l after) (sym (here same is))
      (widened_stuck (value_ahead dialect x ts none) (stuck_last_by (made right.Value (SpellsWhole dialect) (Ends loosest_level) (name_token x ∷ ts)) (λ m ends. ends) part))

pub right_ends : (m : Tokens) → RightEnds m → Ends loosest_level m
right_ends = fewer right_going_on going_on refl
