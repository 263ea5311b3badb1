-- No empty range stands in the canonical tokens of statements that a grammar has.
use Rattle.std.proofs.Common.{◌≡◌, ◌∙◌, Bool, true, false, ◌&&◌, if◌then◌else◌, List, [], ◌∷◌, ◌++◌, map, refl, sym, ap, subst, append_assoc}
use Rattle.std.proofs.lemmas.Bool.{and_parts}
use Rattle.std.specs.List.{flat_map, list_all}
use Rattle.std.specs.Prelude.{length}
use Rattle.hw_text.specs.declared.place.Place.{Place}
use Rattle.c_tree.specs.Dialects.{is_full, has_links, has_statement_step, has_branch_step, has_otherwise_step, has_statement, has_branch, has_otherwise, has_right}
use Rattle.c_tree.specs.Literals.{range_holds}
use Rattle.c_tree.specs.Spellings as numeral
use Rattle.c_tree.specs.declared.dialect.Dialect.{Dialect}
use Rattle.c_tree.specs.declared.integer_type.IntegerType.{IntegerType}
use Rattle.c_tree.specs.declared.named.Named.{Named}
use Rattle.c_tree.specs.declared.named.SignedLiteral.{SignedLiteral}
use Rattle.c_tree.specs.declared.numeral.Numeral.{Numeral}
use Rattle.c_tree.specs.declared.type_name.TypeName.{TypeName}
use Rattle.c_tree.specs.declared.type_name.TypeName.TheVariants as class
use Rattle.c_tree.specs.declared.expression.RightSide.{RightSide}
use Rattle.c_tree.specs.declared.statement.LocalValue.{LocalValue}
use Rattle.c_tree.specs.declared.statement.LocalValue.TheVariants as local
use Rattle.c_tree.specs.declared.statement.Branch.{Branch}
use Rattle.c_tree.specs.declared.statement.Otherwise.{Otherwise}
use Rattle.c_tree.specs.declared.statement.Statement.{Statement}
use Rattle.c_tree.specs.declared.statement.Otherwise.TheFolds.{fold-roll-Statement, fold-roll-Branch, fold-roll-Otherwise, map-Statement, map-Branch, map-Otherwise}
use Rattle.c_tree.specs.declared.statement.Otherwise.TheOpen.{Statement-F, Branch-F, Otherwise-F}
use Rattle.c_tree.specs.declared.statement.Otherwise.TheOpen as opened
use Rattle.c_tree.specs.declared.statement.Otherwise.TheViews.{roll-Statement, roll-Branch, roll-Otherwise}
use Rattle.c_tree.proofs.ExpressionInduction.{OfEach}
use Rattle.c_tree.proofs.StatementInduction.{Cases, of_each_statement}
use Rattle.c_parse.specs.PrintedExpressions.{integer_token}
use Rattle.c_parse.specs.PrintedStatements.{type_token, signed_tokens, zero_tokens, local_tokens, count_end_tokens, block_tokens, else_tokens, otherwise_tokens_step, branch_tokens_step, statement_tokens_step, statement_tokens, branch_tokens, otherwise_tokens}
use Rattle.c_parse.specs.declared.keyword.Keyword.TheVariants as keyword
use Rattle.c_parse.specs.declared.mark.Mark.TheVariants as mark
use Rattle.c_parse.specs.declared.token.Token.{Token}
use Rattle.c_parse.specs.declared.token.Token.TheVariants as token
use Rattle.c_parse.proofs.SoundRanges.{counted, forever}
use Rattle.c_parse.proofs.SoundTokens.{Sound, none, and-then, sign, word, named, literal, integer}
use Rattle.c_parse.proofs.SoundExpressions.{lvalue, call, right_side}

pub typed : (t : TypeName) {ts : List Token} → Sound ts → Sound (type_token t ∷ ts)
typed (class.Integer at kind) more = integer kind more
typed (class.Truth at) more = word keyword.Bool refl more
typed (class.Defined x) more = named x.name more

signed_by : (negative : Bool) (n : Numeral) → Sound ((if negative then token.Mark mark.Minus ∷ [] else []) ++ token.Literal n ∷ [])
signed_by true n = sign mark.Minus (literal n none)
signed_by false n = literal n none

pub signed : (l : SignedLiteral) → Sound (signed_tokens l)
signed l = signed_by l.negative l.literal.numeral

pub zero : Sound zero_tokens
zero = sign mark.Assign (sign mark.OpenBrace (literal numeral.zero (sign mark.CloseBrace none)))

local_value : (v : LocalValue) → Sound (local_tokens v)
local_value (local.ZeroArray l) = sign mark.OpenBracket (literal l.numeral (sign mark.CloseBracket zero))
local_value local.Zero = zero
local_value (local.Given value) = sign mark.Assign (right_side value)

pub semicolon : Sound (token.Mark mark.Semicolon ∷ [])
semicolon = sign mark.Semicolon none

module _ (dialect : Dialect) where
  record StatementSound (x : Statement) : Type 0 where
    pub sound : has_statement dialect x ≡ true → Sound (statement_tokens x)

  record BranchSound (b : Branch) : Type 0 where
    pub sound : has_branch dialect b ≡ true → Sound (branch_tokens b)

  record OtherwiseSound (o : Otherwise) : Type 0 where
    pub sound : has_otherwise dialect o ≡ true → Sound (otherwise_tokens o)

  form : (z : Statement-F Otherwise Statement Branch) → (has_statement_step dialect (map-Statement Otherwise Statement Branch Bool Bool Bool (has_otherwise dialect) (has_statement dialect) (has_branch dialect) z) ≡ true → Sound (statement_tokens_step (map-Statement Otherwise Statement Branch (List Token) (List Token) (List Token) otherwise_tokens statement_tokens branch_tokens z))) → StatementSound (roll-Statement z)
  form z make = record {
    sound = λ h.
        subst Sound (sym (fold-roll-Statement (List Token) (List Token) (List Token) otherwise_tokens_step statement_tokens_step branch_tokens_step z))
        (make (sym (fold-roll-Statement Bool Bool Bool (has_otherwise_step dialect) (has_statement_step dialect) (has_branch_step dialect) z) ∙ h));
  }

  branch_form : (z : Branch-F Otherwise Statement Branch) → (has_branch_step dialect (map-Branch Otherwise Statement Branch Bool Bool Bool (has_otherwise dialect) (has_statement dialect) (has_branch dialect) z) ≡ true → Sound (branch_tokens_step (map-Branch Otherwise Statement Branch (List Token) (List Token) (List Token) otherwise_tokens statement_tokens branch_tokens z))) → BranchSound (roll-Branch z)
  branch_form z make = record {
    sound = λ h.
        subst Sound (sym (fold-roll-Branch (List Token) (List Token) (List Token) otherwise_tokens_step statement_tokens_step branch_tokens_step z))
        (make (sym (fold-roll-Branch Bool Bool Bool (has_otherwise_step dialect) (has_statement_step dialect) (has_branch_step dialect) z) ∙ h));
  }

  otherwise_form : (z : Otherwise-F Otherwise Statement Branch) → (has_otherwise_step dialect (map-Otherwise Otherwise Statement Branch Bool Bool Bool (has_otherwise dialect) (has_statement dialect) (has_branch dialect) z) ≡ true → Sound (otherwise_tokens_step (map-Otherwise Otherwise Statement Branch (List Token) (List Token) (List Token) otherwise_tokens statement_tokens branch_tokens z))) → OtherwiseSound (roll-Otherwise z)
  otherwise_form z make = record {
    sound = λ h.
        subst Sound (sym (fold-roll-Otherwise (List Token) (List Token) (List Token) otherwise_tokens_step statement_tokens_step branch_tokens_step z))
        (make (sym (fold-roll-Otherwise Bool Bool Bool (has_otherwise_step dialect) (has_statement_step dialect) (has_branch_step dialect) z) ∙ h));
  }

  statements : (body : List Statement) → OfEach StatementSound body → list_all (λ b. b) (map (has_statement dialect) body) ≡ true → Sound (flat_map (λ ts. ts) (map statement_tokens body))
  statements [] each h = none
  statements (x ∷ xs) each h =
      let parts = and_parts (has_statement dialect x) (list_all (λ b. b) (map (has_statement dialect) xs)) h in
      and-then (each.0.sound parts.0) (statements xs each.1 parts.1)

  branches : (bs : List Branch) → OfEach BranchSound bs → list_all (λ b. b) (map (has_branch dialect) bs) ≡ true → Sound (flat_map else_tokens (map branch_tokens bs))
  branches [] each h = none
  branches (b ∷ bs) each h =
      let parts = and_parts (has_branch dialect b) (list_all (λ v. v) (map (has_branch dialect) bs)) h in
      and-then (word keyword.Else refl (each.0.sound parts.0)) (branches bs each.1 parts.1)

  block : (body : List Statement) → OfEach StatementSound body → list_all (λ b. b) (map (has_statement dialect) body) ≡ true → Sound (block_tokens (map statement_tokens body))
  block body each h = sign mark.OpenBrace (and-then (statements body each h) (sign mark.CloseBrace none))

  local_form : (t : TypeName) (x : Named) (value : LocalValue) → StatementSound (roll-Statement (opened.Local t x value))
  local_form t x value = form (opened.Local t x value) (λ h. typed t (named x.name (and-then (local_value value) semicolon)))

  choice_form : (first : Branch) (others : List Branch) (o : Otherwise) → BranchSound first → OfEach BranchSound others → OtherwiseSound o → StatementSound (roll-Statement (opened.If first others o))
  choice_form first others o a b c = form (opened.If first others o) (λ h.
      let few = has_links dialect (length (map (has_branch dialect) others)) in
      let parts = and_parts (has_branch dialect first) (list_all (λ v. v) (map (has_branch dialect) others) && (has_otherwise dialect o && few)) h in
      let inner = and_parts (list_all (λ v. v) (map (has_branch dialect) others)) (has_otherwise dialect o && few) parts.1 in
      and-then (and-then (a.sound parts.0) (branches others b inner.0)) (c.sound (and_parts (has_otherwise dialect o) few inner.1).0))

  count_form : (kind : IntegerType) (x : Named) (from : SignedLiteral) (at : Place) (below : SignedLiteral) (body : List Statement) → OfEach StatementSound body → StatementSound (roll-Statement (opened.Count kind x from at below body))
  count_form kind x from at below body each = form (opened.Count kind x from at below body) (λ h.
      let parts = and_parts (range_holds from below) (list_all (λ v. v) (map (has_statement dialect) body)) h in
      let name : Token = token.Name x.name in
      let inner : List Token = block_tokens (map statement_tokens body) in
      let end : List Token = token.Mark mark.Semicolon ∷ name ∷ token.Mark mark.Increment ∷ token.Mark mark.CloseParenthesis ∷ [] in
      let ended : Sound (end ++ inner) = sign mark.Semicolon (named x.name (sign mark.Increment (sign mark.CloseParenthesis (block body each parts.1)))) in
      let rest : Sound (signed_tokens from ++ (token.Mark mark.Semicolon ∷ name ∷ token.Mark mark.Less ∷ (signed_tokens below ++ (end ++ inner)))) =
      and-then (signed from) (sign mark.Semicolon (named x.name (sign mark.Less (and-then (signed below) ended)))) in
      subst Sound
      (sym (ap (λ (l : List Token). token.Keyword keyword.For ∷ token.Mark mark.OpenParenthesis ∷ integer_token kind ∷ name ∷ token.Mark mark.Assign ∷ l)
      (append_assoc (signed_tokens from ++ token.Mark mark.Semicolon ∷ []) (count_end_tokens x below) inner ∙
      append_assoc (signed_tokens from) (token.Mark mark.Semicolon ∷ []) (count_end_tokens x below ++ inner) ∙
      ap (λ (l : List Token). signed_tokens from ++ (token.Mark mark.Semicolon ∷ name ∷ token.Mark mark.Less ∷ l)) (append_assoc (signed_tokens below) end inner))))
      (counted (token.Mark mark.OpenParenthesis) (integer_token kind) name (token.Mark mark.Assign) (token.Mark mark.Semicolon) name (token.Mark mark.Less) from below (end ++ inner) parts.0
      (sign mark.OpenParenthesis (integer kind (named x.name (sign mark.Assign rest))))))

  forever_form : (body : List Statement) → OfEach StatementSound body → StatementSound (roll-Statement (opened.Forever body))
  forever_form body each = form (opened.Forever body) (λ h.
      let parts = and_parts (is_full dialect) (list_all (λ v. v) (map (has_statement dialect) body)) h in
      forever (token.Mark mark.OpenParenthesis) (token.Mark mark.Semicolon) (token.Mark mark.Semicolon) (token.Mark mark.CloseParenthesis) (flat_map (λ ts. ts) (map statement_tokens body) ++ token.Mark mark.CloseBrace ∷ [])
      (sign mark.OpenParenthesis (sign mark.Semicolon (sign mark.Semicolon (sign mark.CloseParenthesis (block body each parts.1))))))

  a_branch : (condition : RightSide) (body : List Statement) → OfEach StatementSound body → BranchSound (roll-Branch (record { condition = condition; body = body }))
  a_branch condition body each = branch_form (record { condition = condition; body = body }) (λ h.
      let parts = and_parts (has_right dialect condition) (list_all (λ v. v) (map (has_statement dialect) body)) h in
      word keyword.If refl (sign mark.OpenParenthesis (and-then (and-then (right_side condition) (sign mark.CloseParenthesis none)) (block body each parts.1))))

  cases : Cases OtherwiseSound StatementSound BranchSound
  cases = record {
    local = local_form;
    assign = λ target value. form (opened.Assign target value) (λ h. and-then (and-then (and-then (lvalue target) (sign mark.Assign none)) (right_side value)) semicolon);
    call = λ c. form (opened.Call c) (λ h. and-then (call c) semicolon);
    choice = choice_form;
    count = count_form;
    forever = forever_form;
    break = form opened.Break (λ h. word keyword.Break refl semicolon);
    branch = a_branch;
    nothing = otherwise_form opened.Nothing (λ h. none);
    block = λ body each. otherwise_form (opened.Block body) (λ h. word keyword.Else refl (block body each h));
  }

  pub statement : (x : Statement) → has_statement dialect x ≡ true → Sound (statement_tokens x)
  statement x h = (of_each_statement OtherwiseSound StatementSound BranchSound cases x).sound h
