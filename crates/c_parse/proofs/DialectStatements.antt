-- Which statements a grammar has texts of: those of which each range holds, and for users those without `break` and loops that it ends,
-- with at most 64 links of `else if`.
use Rattle.std.proofs.Common.{◌≡◌, ◌∙◌, refl, sym, ap, ℕ, nat_le, Bool, true, false, List, map, length, inl, inr}
use Rattle.std.specs.Prelude.{◌&&◌, ◌||◌, ◌++◌}
use Rattle.std.specs.List.{list_all}
use Rattle.std.proofs.lemmas.Bool.{le-leb}
use Rattle.std.proofs.lemmas.List.{length-map}
use Rattle.hw_text.specs.declared.place.Place.{Place}
use Rattle.c_tree.specs.declared.integer_type.IntegerType.{IntegerType}
use Rattle.c_tree.specs.declared.named.Named.{Named}
use Rattle.c_tree.specs.declared.named.SignedLiteral.{SignedLiteral}
use Rattle.c_tree.specs.declared.type_name.TypeName.{TypeName}
use Rattle.c_tree.specs.declared.expression.Call.{Call}
use Rattle.c_tree.specs.declared.expression.Lvalue.{Lvalue}
use Rattle.c_tree.specs.declared.expression.RightSide.{RightSide}
use Rattle.c_tree.specs.declared.statement.LocalValue.{LocalValue}
use Rattle.c_tree.specs.declared.statement.Branch.{Branch}
use Rattle.c_tree.specs.declared.statement.Otherwise.{Otherwise}
use Rattle.c_tree.specs.declared.statement.Otherwise.TheVariants as otherwise
use Rattle.c_tree.specs.declared.statement.Statement.{Statement}
use Rattle.c_tree.specs.declared.statement.Statement.TheVariants as statement
use Rattle.c_tree.specs.declared.statement.Otherwise.TheFolds.{fold-roll-Statement, fold-roll-Otherwise, fold_out-Branch, map-Statement, map-Otherwise}
use Rattle.c_tree.specs.declared.statement.Otherwise.TheOpen.{Statement-F, Otherwise-F}
use Rattle.c_tree.specs.declared.statement.Otherwise.TheOpen as opened
use Rattle.c_tree.specs.declared.statement.Otherwise.TheViews.{roll-Statement, roll-Otherwise}
use Rattle.c_parse.specs.PlainGrammar.{SpellsPlain}
use Rattle.c_parse.specs.StatementGrammar.{LinksFit, SpellsStatement, SpellsLoop, SpellsStatements, SpellsBlock, SpellsBranch, SpellsElseIfs, SpellsOtherwise}
use Rattle.c_parse.specs.StatementGrammar as grammar
use Rattle.c_tree.specs.Dialects.{is_full, has_links, has_lvalue, has_call, has_right, has_local, has_statement_step, has_branch_step, has_otherwise_step, has_statement, has_branch, has_otherwise}
use Rattle.c_parse.specs.Values.{Tokens}
use Rattle.c_tree.specs.Literals.{range_holds}
use Rattle.c_tree.specs.declared.dialect.Dialect.{Dialect}
use Rattle.c_parse.specs.CallGrammar.{Word}
use Rattle.c_parse.specs.ExpressionGrammar.{Sign}
use Rattle.c_parse.specs.declared.keyword.Keyword.TheVariants as keyword
use Rattle.c_parse.specs.declared.mark.Mark.TheVariants as mark
use Rattle.c_parse.proofs.ClearRanges.{Clear, halves, range-had}
use Rattle.c_parse.proofs.DialectCalls.{call-had, right-had, local-had}
use Rattle.c_parse.proofs.DialectExpressions.{both-true, lvalue-had}

pub or-true : (b : Bool) → (b || true) ≡ true
or-true true = refl
or-true false = refl

module _ (f : Dialect) where
  -- the tests, one equation for each form
  abbrev tested : Statement-F Otherwise Statement Branch → Bool
  tested z = has_statement_step f (map-Statement Otherwise Statement Branch Bool Bool Bool (has_otherwise f) (has_statement f) (has_branch f) z)

  rolled : (z : Statement-F Otherwise Statement Branch) → has_statement f (roll-Statement z) ≡ tested z
  rolled z = fold-roll-Statement Bool Bool Bool (has_otherwise_step f) (has_statement_step f) (has_branch_step f) z

  otherwise-rolled : (z : Otherwise-F Otherwise Statement Branch) → has_otherwise f (roll-Otherwise z) ≡ has_otherwise_step f (map-Otherwise Otherwise Statement Branch Bool Bool Bool (has_otherwise f) (has_statement f) (has_branch f) z)
  otherwise-rolled z = fold-roll-Otherwise Bool Bool Bool (has_otherwise_step f) (has_statement_step f) (has_branch_step f) z

  -- all of a body, and all of the branches
  abbrev all_statements : List Statement → Bool
  all_statements body = list_all (λ b. b) (map (has_statement f) body)

  abbrev all_branches : List Branch → Bool
  all_branches bs = list_all (λ b. b) (map (has_branch f) bs)

  abbrev few : List Branch → Bool
  few bs = has_links f (length (map (has_branch f) bs))

  local-is : (class : TypeName) (x : Named) (value : LocalValue) → has_statement f (statement.Local class x value) ≡ has_local f value
  local-is class x value = ap (has_statement f) (sym (statement.rolls-Local class x value)) ∙ rolled (opened.Local class x value)

  assign-is : (target : Lvalue) (value : RightSide) → has_statement f (statement.Assign target value) ≡ (has_lvalue f target && has_right f value)
  assign-is target value = ap (has_statement f) (sym (statement.rolls-Assign target value)) ∙ rolled (opened.Assign target value)

  call-is : (c : Call) → has_statement f (statement.Call c) ≡ has_call f c
  call-is c = ap (has_statement f) (sym (statement.rolls-Call c)) ∙ rolled (opened.Call c)

  if-is : (first : Branch) (others : List Branch) (o : Otherwise) → has_statement f (statement.If first others o) ≡ (has_branch f first && (all_branches others && (has_otherwise f o && few others)))
  if-is first others o = ap (has_statement f) (sym (statement.rolls-If first others o)) ∙ rolled (opened.If first others o)

  count-is : (class : IntegerType) (x : Named) (from : SignedLiteral) (at : Place) (below : SignedLiteral) (body : List Statement) → has_statement f (statement.Count class x from at below body) ≡ (range_holds from below && all_statements body)
  count-is class x from at below body = ap (has_statement f) (sym (statement.rolls-Count class x from at below body)) ∙ rolled (opened.Count class x from at below body)

  forever-is : (body : List Statement) → has_statement f (statement.Forever body) ≡ (is_full f && all_statements body)
  forever-is body = ap (has_statement f) (sym (statement.rolls-Forever body)) ∙ rolled (opened.Forever body)

  break-is : has_statement f statement.Break ≡ is_full f
  break-is = ap (has_statement f) (sym statement.rolls-Break) ∙ rolled opened.Break

  branch-is : (b : Branch) → has_branch f b ≡ (has_right f b.condition && all_statements b.body)
  branch-is b = fold_out-Branch Bool Bool Bool (has_otherwise_step f) (has_statement_step f) (has_branch_step f) b

  nothing-is : has_otherwise f otherwise.Nothing ≡ true
  nothing-is = ap (has_otherwise f) (sym otherwise.rolls-Nothing) ∙ otherwise-rolled opened.Nothing

  block-is : (body : List Statement) → has_otherwise f (otherwise.Block body) ≡ all_statements body
  block-is body = ap (has_otherwise f) (sym (otherwise.rolls-Block body)) ∙ otherwise-rolled (opened.Block body)

  few-links : (bs : List Branch) → LinksFit f (length bs) → few bs ≡ true
  few-links bs (inl full) = ap (λ (b : Bool). b || nat_le (length (map (has_branch f) bs)) 64) full
  few-links bs (inr fits) =
      ap (λ (b : Bool). is_full f || b) (ap (λ (n : ℕ). nat_le n 64) (length-map bs (has_branch f)) ∙ le-leb (length bs) 64 fits) ∙ or-true (is_full f)

  plain-had : (s : Statement) (ws : Tokens) → SpellsPlain f s ws → has_statement f s ≡ true
  plain-had s ws (inl text) =
      let value = text.2.4.4 in
      ap (has_statement f) text.1 ∙ local-is text.0.0 text.0.1.0 text.0.1.1.0 ∙ local-had f text.0.1.1.0 value.0 value.3
  plain-had s ws (inr (inl text)) =
      let value = text.2.4.4 in
      ap (has_statement f) text.1 ∙ assign-is text.0.0 text.0.1.1.0 ∙
      both-true (has_lvalue f text.0.0) (has_right f text.0.1.1.0) (lvalue-had f text.0.0 text.2.0 text.2.3) (right-had f text.0.1.1.0 value.0 value.3)
  plain-had s ws (inr (inr (inl text))) = ap (has_statement f) text.1 ∙ call-is text.0.0 ∙ call-had f text.0.0 text.2.0 text.2.3
  plain-had s ws (inr (inr (inr text))) = ap (has_statement f) text.1.1 ∙ break-is ∙ text.0

  mutual
    statement-had : (s : Statement) (ws : Tokens) → SpellsStatement f s ws → Clear ws → has_statement f s ≡ true
    statement-had s ws (grammar.plain g d ts text) clear = plain-had s ws text
    statement-had s ws (grammar.choice g b bs o us vs xs d ts is fits split first others last) clear =
        let behind = halves us (vs ++ xs) split clear in
        let parts = halves vs xs refl behind.1 in
        ap (has_statement f) is ∙ if-is b bs o ∙
        both-true (has_branch f b) (all_branches bs && (has_otherwise f o && few bs)) (branch-had b us first behind.0)
        (both-true (all_branches bs) (has_otherwise f o && few bs) (else-ifs-had bs vs others parts.0)
        (both-true (has_otherwise f o) (few bs) (otherwise-had o xs last parts.1) (few-links bs fits)))
    statement-had s ws (grammar.loop g p q fs os us d ts split word opening text) clear = loop-had p q s fs os us ws split word opening text clear

    loop-had : (p q : Place) (s : Statement) (fs os us ws : Tokens) → ws ≡ fs ++ (os ++ us) → Word keyword.For p fs → Sign mark.OpenParenthesis q os → SpellsLoop f s us → Clear ws → has_statement f s ≡ true
    loop-had p q s fs os us ws begun word opening (grammar.count g h body hs vs d ts is split head text) clear =
        let behind = halves os us refl (halves fs (os ++ us) begun clear).1 in
        ap (has_statement f) is ∙ count-is h.0.class h.0.name h.0.from h.1.place h.1.below body ∙
        both-true (range_holds h.0.from h.1.below) (all_statements body)
        (range-had p q h fs os hs vs ws word opening (begun ∙ ap (λ (l : Tokens). fs ++ (os ++ l)) split) head clear)
        (block-had body vs text (halves hs vs split behind.1).1)
    loop-had p q s fs os us ws begun word opening (grammar.forever g u body hs vs d ts full is split head text) clear =
        let behind = halves os us refl (halves fs (os ++ us) begun clear).1 in
        ap (has_statement f) is ∙ forever-is body ∙ both-true (is_full f) (all_statements body) full (block-had body vs text (halves hs vs split behind.1).1)

    pub statements-had : (body : List Statement) (ws : Tokens) → SpellsStatements f body ws → Clear ws → all_statements body ≡ true
    statements-had body ws (grammar.no_statement g all ts is none) clear = ap all_statements is
    statements-had body ws (grammar.a_statement g x xs us vs all ts is split first rest) clear =
        let parts = halves us vs split clear in
        ap all_statements is ∙ both-true (has_statement f x) (all_statements xs) (statement-had x us first parts.0) (statements-had xs vs rest parts.1)

    block-had : (body : List Statement) (ws : Tokens) → SpellsBlock f body ws → Clear ws → all_statements body ≡ true
    block-had body ws (grammar.block g p q all os us cs ts split opening text closing) clear =
        statements-had body us text (halves us cs refl (halves os (us ++ cs) split clear).1).0

    branch-had : (b : Branch) (ws : Tokens) → SpellsBranch f b ws → Clear ws → has_branch f b ≡ true
    branch-had b ws (grammar.branch g p c body ks us vs d ts is split word condition text) clear =
        ap (has_branch f) is ∙ branch-is (record { condition = c; body = body }) ∙
        both-true (has_right f c) (all_statements body) (ap (has_right f) condition.1 ∙ right-had f condition.0.1.0 condition.2.4.0 condition.2.4.3)
        (block-had body vs text (halves us vs refl (halves ks (us ++ vs) split clear).1).1)

    else-ifs-had : (bs : List Branch) (ws : Tokens) → SpellsElseIfs f bs ws → Clear ws → all_branches bs ≡ true
    else-ifs-had bs ws (grammar.no_branch g all ts is none) clear = ap all_branches is
    else-ifs-had bs ws (grammar.else_if g p b more es us vs all ts is split word first rest) clear =
        let parts = halves us vs refl (halves es (us ++ vs) split clear).1 in
        ap all_branches is ∙ both-true (has_branch f b) (all_branches more) (branch-had b us first parts.0) (else-ifs-had more vs rest parts.1)

    otherwise-had : (o : Otherwise) (ws : Tokens) → SpellsOtherwise f o ws → Clear ws → has_otherwise f o ≡ true
    otherwise-had o ws (grammar.no_else g d ts is none) clear = ap (has_otherwise f) is ∙ nothing-is
    otherwise-had o ws (grammar.an_else g p body es us d ts is split word text) clear =
        ap (has_otherwise f) is ∙ block-is body ∙ block-had body us text (halves es us split clear).1
