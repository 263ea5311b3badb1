-- Items: texts of their parts, and which stands ahead.
use Rattle.std.proofs.Common.{◌≡◌, refl, subst, Bool, true, false, ◌&&◌, ◌++◌, List, [], Option, Some, None, inl, inr, ◌∷◌}
use Rattle.hw_text.specs.declared.place.Place.{Place}
use Rattle.hw_text.specs.Language.{◌⋅◌, Made, Maybe}
use Rattle.hw_text.specs.Reading.{begins, Anything, BeginsWith, BeginsWithout, Reached, Stuck, Leaves}
use Rattle.c_tree.specs.declared.dialect.Dialect.{Dialect}
use Rattle.c_tree.specs.Dialects.{is_full}
use Rattle.c_tree.specs.declared.item.InitialValue.{InitialValue}
use Rattle.c_tree.specs.declared.statement.Statement.{Statement}
use Rattle.c_parse.specs.declared.keyword.Keyword.TheVariants as keyword
use Rattle.c_parse.specs.declared.mark.Mark.TheVariants as mark
use Rattle.c_parse.specs.Values.{Tokens, is_mark}
use Rattle.c_parse.specs.Operators.{RightEnds}
use Rattle.c_parse.specs.ExpressionGrammar.{Sign}
use Rattle.c_parse.specs.CallGrammar.{Word, SpellsRightSide}
use Rattle.c_parse.specs.StatementGrammar.{SpellsStatements, ends_body}
use Rattle.c_parse.specs.UnitGrammar.{SpellsInitial, SpellsBody, SpellsEnding, SpellsParameters}
use Rattle.c_parse.proofs.CallTexts.{a_right}
use Rattle.c_parse.proofs.StatementTexts.{no_statements, a_body_end}
use Rattle.c_parse.proofs.Steps.{Sample, both, sample_of, all_left, at_first, at_second, unmake, in_full, by_test, by_full, and_left, and_right, is_there, is_absent, stuck_by, passed_by}
use Rattle.c_parse.proofs.Leaves.{the_sign, the_word, the_name}
use Rattle.c_parse.proofs.Shapes.{built, first, wider, maybe_first, apart, among}
use Rattle.c_parse.proofs.TokenShapes.{Starts, sign_shape, right_going_on, this_sign, this_word, of_kind, sign}

abbrev pub Given : Option InitialValue → Tokens → Type 0
Given = Maybe (Made (λ (p : Place × InitialValue). p.1) (Sign mark.Assign ⋅ SpellsInitial))

pub an_initial : Sample SpellsInitial
an_initial = (_, the_name.1, inr (inr (inl (the_name.0, refl, the_name.2))))

given_starts : Starts (sign_shape mark.Assign ∷ []) (Made (λ (p : Place × InitialValue). p.1) (Sign mark.Assign ⋅ SpellsInitial))
given_starts = built _ (first _ (sign mark.Assign refl))

pub behind_length : Starts (sign_shape mark.Assign ∷ sign_shape mark.Semicolon ∷ []) (Given ⋅ Sign mark.Semicolon)
behind_length = maybe_first (wider given_starts refl) (sign mark.Semicolon refl)

pub length_follow : (y : Option InitialValue × Place) (w m : Tokens) → (Given ⋅ Sign mark.Semicolon) y w → Anything m → BeginsWithout (is_mark mark.OpenBracket) (w ++ m)
length_follow y w m text follows = apart (this_sign mark.OpenBracket) behind_length refl y w m text

pub given_follow : (y : Place) (w m : Tokens) → Sign mark.Semicolon y w → Anything m → BeginsWithout (is_mark mark.Assign) (w ++ m)
given_follow y w m text follows = apart (this_sign mark.Assign) (of_kind (this_sign mark.Semicolon)) refl y w m text

pub parameters_follow : {X : Type 0} (C : X → Tokens → Type 0) (y : Place × X) (w m : Tokens) → (Sign mark.CloseParenthesis ⋅ C) y w → Anything m → BeginsWithout (is_mark mark.Comma) (w ++ m)
parameters_follow C y w m text follows = apart (this_sign mark.Comma) (first C (of_kind (this_sign mark.CloseParenthesis))) refl y w m text

module _ (before : Tokens) where
  pub not_given : begins (is_mark mark.Assign) before ≡ false → Reached Given (BeginsWithout (is_mark mark.Assign)) before before None
  not_given none = is_absent (all_left Given (BeginsWithout (is_mark mark.Assign)) before) {test = is_mark mark.Assign} (among (this_sign mark.Assign) given_starts refl) none

  pub given_there : begins (is_mark mark.Assign) before ≡ true → Leaves Given (BeginsWithout (is_mark mark.Assign)) before before (λ p. Some p.1) (Sign mark.Assign ⋅ SpellsInitial)
  given_there there = unmake (is_there (all_left Given (BeginsWithout (is_mark mark.Assign)) before) (λ m follows. follows) there)

module _ (dialect : Dialect) where
  pub close_ends : (y : Place) (w m : Tokens) → Sign mark.CloseBrace y w → Anything m → BeginsWith ends_body (w ++ m)
  close_ends y w m text follows = among a_body_end (of_kind (this_sign mark.CloseBrace)) refl y w m text

  pub return_ends : (y : _) (w m : Tokens) → (Word keyword.Return ⋅ SpellsRightSide dialect ⋅ Sign mark.Semicolon ⋅ Sign mark.CloseBrace) y w → Anything m → BeginsWith ends_body (w ++ m)
  return_ends y w m text follows = among a_body_end (first (SpellsRightSide dialect ⋅ Sign mark.Semicolon ⋅ Sign mark.CloseBrace) (of_kind (this_word keyword.Return))) refl y w m text

  pub a_body : (returns : Bool) → Sample (SpellsBody dialect returns)
  a_body true = sample_of (λ p. (p.0, Some p.1.1.0)) (both (no_statements dialect) (both (the_word keyword.Return) (both (a_right dialect) (both (the_sign mark.Semicolon) (the_sign mark.CloseBrace)))))
  a_body false = sample_of (λ p. (p.0, None)) (both (no_statements dialect) (the_sign mark.CloseBrace))

  pub an_ending : (returns : Bool) → Sample (SpellsEnding dialect returns)
  an_ending returns =
      let s = both (the_sign mark.OpenBrace) (a_body returns) in
      (Some s.0.1, s.1, inr (s.0, refl, s.2))

  module _ (returns : Bool) (before : Tokens) where
    pub body_left : (so : Bool) → returns ≡ so → Leaves (SpellsBody dialect returns) Anything before before (λ z. z) (SpellsBody dialect so)
    body_left so is = subst (λ (b : Bool). Leaves (SpellsBody dialect returns) Anything before before (λ z. z) (SpellsBody dialect b)) is (all_left (SpellsBody dialect returns) Anything before)

    pub prototype_there : (is_full dialect && begins (is_mark mark.Semicolon) before) ≡ true → Leaves (SpellsEnding dialect returns) Anything before before (λ p. None) (Sign mark.Semicolon)
    prototype_there there = unmake (in_full dialect (at_first (all_left (SpellsEnding dialect returns) Anything before)
        (by_test (apart (this_sign mark.Semicolon) (built _ (first _ (of_kind (this_sign mark.OpenBrace)))) refl)
        (and_right (is_full dialect) (begins (is_mark mark.Semicolon) before) there)))
        (and_left (is_full dialect) (begins (is_mark mark.Semicolon) before) there))

    pub body_there : (is_full dialect && begins (is_mark mark.Semicolon) before) ≡ false → Leaves (SpellsEnding dialect returns) Anything before before (λ p. Some p.1) (Sign mark.OpenBrace ⋅ SpellsBody dialect returns)
    body_there none = unmake (at_second (all_left (SpellsEnding dialect returns) Anything before)
        (by_full dialect (among (this_sign mark.Semicolon) (built _ (of_kind (this_sign mark.Semicolon))) refl) none))

    pub body_stuck : {at : Tokens} → Stuck (SpellsStatements dialect) (BeginsWith ends_body) before at → Stuck (SpellsBody dialect returns) Anything before at
    body_stuck {at = at} part = by_kind returns refl
      where
        by_kind : (so : Bool) → returns ≡ so → Stuck (SpellsBody dialect returns) Anything before at
        by_kind true is = stuck_by (unmake (body_left true is)) return_ends (both (the_word keyword.Return) (both (a_right dialect) (both (the_sign mark.Semicolon) (the_sign mark.CloseBrace)))) part
        by_kind false is = stuck_by (unmake (body_left false is)) close_ends (the_sign mark.CloseBrace) part

    pub no_return_left : returns ≡ false → {at : Tokens} {all : List Statement} → Reached (SpellsStatements dialect) (BeginsWith ends_body) before at all → Leaves (SpellsBody dialect returns) Anything before at (λ p. (all, None)) (Sign mark.CloseBrace)
    no_return_left is part = passed_by (unmake (body_left false is)) close_ends part

    pub return_left : returns ≡ true → {at : Tokens} {all : List Statement} → Reached (SpellsStatements dialect) (BeginsWith ends_body) before at all → Leaves (SpellsBody dialect returns) Anything before at (λ p. (all, Some p.1.0)) (Word keyword.Return ⋅ SpellsRightSide dialect ⋅ Sign mark.Semicolon ⋅ Sign mark.CloseBrace)
    return_left is part = passed_by (unmake (body_left true is)) return_ends part

pub right-semicolon-close : (F : Tokens → Type 0) (y : Place × Place) (w m : Tokens) → (Sign mark.Semicolon ⋅ Sign mark.CloseBrace) y w → F m → RightEnds (w ++ m)
right-semicolon-close F y w m text follows = apart right_going_on (first (Sign mark.CloseBrace) (of_kind (this_sign mark.Semicolon))) refl y w m text

pub some_parameters : (dialect : Dialect) → Sample (SpellsParameters dialect)
some_parameters dialect = let v = the_word keyword.Void in ([], v.1, inl (v.0, refl, v.2))
