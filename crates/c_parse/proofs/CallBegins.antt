-- With which two tokens calls begin, and expressions do not.
use Rattle.std.proofs.Common.{◌≡◌, ◌∙◌, refl, ap, ℕ, ◌+◌, List, [], ◌∷◌, ◌++◌, Bool, true, false, ◌&&◌, append_assoc, inl, inr}
use Rattle.hw_text.specs.Language.{◌⋅◌, ◌∣◌}
use Rattle.hw_text.specs.Reading.{begins}
use Rattle.hw_text.specs.declared.placed.Placed.{Placed}
use Rattle.c_tree.specs.declared.dialect.Dialect.{Dialect}
use Rattle.c_tree.specs.declared.named.Named.{Named}
use Rattle.c_tree.specs.declared.expression.Call.{Call}
use Rattle.c_tree.specs.declared.expression.Selector.{Selector}
use Rattle.c_tree.specs.declared.expression.Expression.{Expression}
use Rattle.c_parse.specs.declared.token.Token.{Token}
use Rattle.c_parse.specs.declared.mark.Mark.TheVariants as mark
use Rattle.c_parse.specs.Values.{Tokens, name_of, is_name, is_mark}
use Rattle.c_parse.specs.ExpressionGrammar.{Sign, Name, Operation, SpellsExpression, SpellsOperations, SpellsParts, chain, prefix, no_operation, an_operation}
use Rattle.c_parse.specs.CallGrammar.{Separated, SpellsArgument, SpellsCall}
use Rattle.c_parse.proofs.Shapes.{first as first_of, apart, among, each-behind}
use Rattle.c_parse.proofs.TokenShapes.{a_name, this_sign, of_kind}
use Rattle.c_parse.proofs.Levels.{operator-shape}
use Rattle.c_parse.proofs.TokenKinds.{some-is}
use Rattle.c_parse.proofs.BaseTexts.{arrow_starts}
use Rattle.c_parse.proofs.PartTexts.{part_starts, each_part}
use Rattle.c_parse.proofs.OperandTexts.{Unnamed, NamedValue, form, unnamed_starts}
use Rattle.c_parse.specs.Flaws as flaws

abbrev pub is_opening : Placed Token → Bool
is_opening = is_mark mark.OpenParenthesis

-- a name, and then a `(`
abbrev pub begins_call : Tokens → Bool
begins_call = flaws.begins_call

first-not : (ts : Tokens) → begins is_name ts ≡ false → begins_call ts ≡ false
first-not [] none = refl
first-not (t ∷ ts) none = ap (λ (b : Bool). b && begins is_opening ts) none

and-false : (b c : Bool) → c ≡ false → (b && c) ≡ false
and-false true c is = is
and-false false c is = refl

-- a name, and then no `(`
second-not : (x : Named) (us vs w m : Tokens) → w ≡ us ++ vs → Name x us → begins is_opening (vs ++ m) ≡ false → begins_call (w ++ m) ≡ false
second-not x us vs w m split name none =
    ap (λ (l : Tokens). begins_call (l ++ m)) (split ∙ ap (λ (l : Tokens). l ++ vs) name.1) ∙ and-false (is_name name.0) (begins is_opening (vs ++ m)) none

module _ (dialect : Dialect) where
  operations-not : (n : ℕ) (os : List Operation) (w m : Tokens) → SpellsOperations dialect n os w → begins is_opening m ≡ false → begins is_opening (w ++ m) ≡ false
  operations-not n os w m (no_operation f k all ts is none) behind = ap (λ (l : Tokens). begins is_opening (l ++ m)) none ∙ behind
  operations-not n os w m (an_operation f k o r rest us vs ws all ts is split operator right more) behind =
      ap (λ (l : Tokens). begins is_opening (l ++ m)) (split ∙ ap (λ (l : Tokens). l ++ (vs ++ ws)) operator.1)
      ∙ operator-shape (this_sign mark.OpenParenthesis) refl n operator.0 o operator.2

  parts-not : (ps : List Selector) (w m : Tokens) → SpellsParts dialect ps w → begins is_opening m ≡ false → begins is_opening (w ++ m) ≡ false
  parts-not ps w m text = each-behind {F = λ m. begins is_opening m ≡ false} (apart (this_sign mark.OpenParenthesis) (part_starts dialect) refl) (λ m none. none) ps w m (each_part dialect ps w text)

  operand-not : (e : Expression) (w m : Tokens) → (Unnamed dialect ∣ NamedValue dialect) e w → begins is_opening m ≡ false → begins_call (w ++ m) ≡ false
  operand-not e w m (inl text) behind = first-not (w ++ m) (apart a_name (unnamed_starts dialect) refl e w m text)
  operand-not e w m (inr (p, is, (us, vs, split, inl text, rest))) behind = second-not text.0 us vs w m split text.2 (parts-not p.1 vs m rest behind)
  operand-not e w m (inr (p, is, (us, vs, split, inr (whole, (q, q_is, (ns, more, split_base, name, arrow))), rest))) behind =
      second-not q.0 ns (more ++ vs) w m (split ∙ ap (λ (l : Tokens). l ++ vs) split_base ∙ append_assoc ns more vs) name
      (ap (begins is_opening) (append_assoc more vs m) ∙ apart (this_sign mark.OpenParenthesis) arrow_starts refl q.1 more (vs ++ m) arrow)

  -- no expression begins as a call does
  pub expression-no-call : (n : ℕ) (e : Expression) (w m : Tokens) → SpellsExpression dialect n e w → begins is_opening m ≡ false → begins_call (w ++ m) ≡ false
  expression-no-call n e w m (chain f k x os us vs d ts low is split one rest) behind =
      ap (λ (l : Tokens). begins_call (l ++ m)) split ∙ ap begins_call (append_assoc us vs m)
      ∙ expression-no-call (n + 1) x us (vs ++ m) one (operations-not n os vs m rest behind)
  expression-no-call n e w m (prefix f k d ts tight text) behind = operand-not e w m (form dialect e w text) behind

  pub call-begins : (c : Call) (w m : Tokens) → SpellsCall dialect c w → begins_call (w ++ m) ≡ true
  call-begins c w m (p, is, (us, vs, split, name, rest)) =
      ap (λ (l : Tokens). begins_call (l ++ m)) (split ∙ ap (λ (l : Tokens). l ++ vs) name.1)
      ∙ ap (λ (b : Bool). b && begins is_opening (vs ++ m)) (some-is (name_of name.0) p.0 name.2)
      ∙ among (this_sign mark.OpenParenthesis) (first_of (Separated (SpellsArgument dialect) ⋅ Sign mark.CloseParenthesis) (of_kind (this_sign mark.OpenParenthesis))) refl p.1 vs m rest
