-- Statements without blocks, by the tokens that stand ahead.
use Rattle.std.proofs.Common.{◌≡◌, ◌∙◌, refl, ap, ℕ, List, Bool, true, [], ◌∷◌, ◌++◌, drop, append_assoc, Some, None, inl, inr}
use Rattle.std.specs.Prelude.{is_some}
use Rattle.std.proofs.lemmas.Bool.{false≢true}
use Rattle.std.proofs.lemmas.Option.{same_Some}
use Rattle.c_tree.specs.declared.dialect.Dialect.{Dialect}
use Rattle.c_parse.proofs.TokenKinds.{none-some}
use Rattle.hw_text.specs.declared.place.Place.{Place}
use Rattle.hw_text.specs.declared.placed.Placed.{Placed}
use Rattle.hw_text.specs.Language.{◌⋅◌}
use Rattle.hw_text.specs.Reading.{begins, Begins, Anything, BeginsWithout, Reached, Stuck}
use Rattle.c_tree.specs.declared.expression.RightSide.{RightSide}
use Rattle.c_tree.specs.declared.named.Named.{Named}
use Rattle.c_tree.specs.declared.statement.Statement.{Statement}
use Rattle.c_tree.specs.declared.type_name.TypeName.{TypeName}
use Rattle.c_tree.specs.declared.type_name.TypeName.TheVariants as class
use Rattle.c_parse.specs.declared.token.Token.{Token}
use Rattle.c_parse.specs.declared.token.Token.TheVariants as token
use Rattle.c_parse.specs.declared.keyword.Keyword.TheVariants as keyword
use Rattle.c_parse.specs.declared.mark.Mark.TheVariants as mark
use Rattle.c_parse.specs.Values.{Tokens, is_name, name_of, name_token}
use Rattle.c_parse.specs.Operators.{is_selector}
use Rattle.c_parse.specs.ExpressionGrammar.{Sign, Name}
use Rattle.c_parse.specs.CallGrammar.{SpellsType, SpellsRightSide, Separated, SpellsArgument}
use Rattle.c_parse.specs.PlainGrammar.{SpellsPlain, SpellsLocal, SpellsLocalValue, SpellsAssignment, SpellsCallAlone, SpellsBreak}
use Rattle.c_parse.proofs.Leaves.{put}
use Rattle.hw_text.proofs.Reading.{then-begins}
use Rattle.c_parse.proofs.Shapes.{built, first, either, wider, apart}
use Rattle.c_parse.proofs.TokenShapes.{Starts, sign_shape, word_shape, name_shape, a_selector, this_sign, of_kind, word, full}
use Rattle.c_parse.proofs.TypeTexts.{type_shapes, type_starts, defined_there}
use Rattle.c_parse.proofs.PartTexts.{lvalue_shapes, lvalue_starts}
use Rattle.c_parse.proofs.CallTexts.{call_starts, name_read}
use Rattle.c_parse.proofs.Steps.{done}

pub lvalue-assign : {dialect : Dialect} (y : Place × (RightSide × Place)) (w m : Tokens) → (Sign mark.Assign ⋅ SpellsRightSide dialect ⋅ Sign mark.Semicolon) y w → Anything m → BeginsWithout is_selector (w ++ m)
lvalue-assign {dialect = dialect} y w m text follows = apart a_selector (first (SpellsRightSide dialect ⋅ Sign mark.Semicolon) (of_kind (this_sign mark.Assign))) refl y w m text

module _ (dialect : Dialect) where
  pub local_starts : Starts type_shapes (SpellsLocal dialect)
  local_starts = built _ (first _ type_starts)

  pub assignment_starts : Starts lvalue_shapes (SpellsAssignment dialect)
  assignment_starts = built _ (first _ (lvalue_starts dialect))

  pub alone_starts : Starts (name_shape ∷ []) (SpellsCallAlone dialect)
  alone_starts = built _ (first _ (call_starts dialect))

  pub break_starts : Starts (word_shape keyword.Break ∷ []) SpellsBreak
  break_starts = built _ (first _ (word keyword.Break refl))

  abbrev pub plain_shapes : List (List ℕ)
  plain_shapes = word_shape keyword.Break ∷ sign_shape mark.OpenParenthesis ∷ type_shapes

  pub plain_starts : Starts plain_shapes (SpellsPlain dialect)
  plain_starts = either (wider local_starts refl) (either (wider assignment_starts refl) (either (wider alone_starts refl) (full dialect (wider break_starts refl))))

-- a name that was read stands there
pub name_before : {before at : Tokens} {x : Named} → Reached Name Anything before at x → before ≡ name_token x ∷ at
name_before {before = before} {at = at} {x = x} so =
    let t = so.spelled.0 in
    so.split ∙ ap (λ (l : Tokens). l ++ at) so.spelled.1 ∙ ap (λ (u : Placed Token). u ∷ at) (itself t.token t.place so.spelled.2)
  where
    itself : (t : Token) (p : Place) → name_of (put t p) ≡ Some x → put t p ≡ name_token x
    itself (token.Name n) p is = ap (λ (y : Named). name_token y) (same_Some _ _ is)
    itself (token.Reserved n) p is = absurd (none-some x is)
    itself (token.Literal n) p is = absurd (none-some x is)
    itself (token.Mark n) p is = absurd (none-some x is)
    itself (token.Keyword n) p is = absurd (none-some x is)

pub name_never_stuck : {before at : Tokens} → begins is_name before ≡ true → Stuck Name Anything before at → ⊥
name_never_stuck {before = before} {at = at} there so = at_list before there so.split
  where
    at_list : (l : Tokens) → begins is_name l ≡ true → l ≡ so.taken ++ at → ⊥
    at_list [] there split = false≢true there
    at_list (t ∷ l) there split = at_name (name_of t) refl there
      where
        at_name : (o : _) → name_of t ≡ o → is_some o ≡ true → ⊥
        at_name None is some = false≢true some
        at_name (Some x) is some = so.none x (t ∷ []) l at (t, refl, is) tt split refl

pub class_named : (x : Named) (at : Tokens) → Reached SpellsType Anything (name_token x ∷ at) at (class.Defined x)
class_named x at = done (defined_there (name_token x ∷ at) refl refl) (name_read x at)

pub drop-one : (w us vs m : Tokens) (t : Placed Token) → w ≡ us ++ vs → us ≡ t ∷ [] → drop 1 (w ++ m) ≡ vs ++ m
drop-one w us vs m t split one = ap (λ (l : Tokens). drop 1 (l ++ m)) (split ∙ ap (λ (l : Tokens). l ++ vs) one)

one-token : (c : TypeName) (w : Tokens) → SpellsType c w → (t : Placed Token) × (w ≡ t ∷ [])
one-token c w (inl text) = (text.2.0, text.2.1)
one-token c w (inr (inl text)) = (text.2.0, text.2.1)
one-token c w (inr (inr text)) = (text.2.0, text.2.1)

-- what stands behind the first token of a statement that begins with a name
module _ (test : Placed Token → Bool) (so : Bool) (dialect : Dialect) where
  pub local-second : Begins test so Name → (z : Statement) (w m : Tokens) → SpellsLocal dialect z w → begins test (drop 1 (w ++ m)) ≡ so
  local-second is z w m text =
      let parts = text.2 in
      let one = one-token text.0.0 parts.0 parts.3 in
      ap (begins test) (drop-one w parts.0 parts.1 m one.0 parts.2 one.1) ∙ then-begins test so Name (SpellsLocalValue dialect ⋅ Sign mark.Semicolon) is text.0.1 parts.1 m parts.4

  pub alone-second : Begins test so (Sign mark.OpenParenthesis) → (z : Statement) (w m : Tokens) → SpellsCallAlone dialect z w → begins test (drop 1 (w ++ m)) ≡ so
  alone-second is z w m text =
      let parts = text.2 in
      let call = parts.3.2 in
      ap (λ (l : Tokens). begins test (drop 1 (l ++ m))) parts.2 ∙ ap (λ (l : Tokens). begins test (drop 1 l)) (append_assoc parts.0 parts.1 m)
      ∙ ap (begins test) (drop-one parts.0 call.0 call.1 (parts.1 ++ m) call.3.0 call.2 call.3.1)
      ∙ then-begins test so (Sign mark.OpenParenthesis) (Separated (SpellsArgument dialect) ⋅ Sign mark.CloseParenthesis) is parts.3.0.1 call.1 (parts.1 ++ m) call.4
