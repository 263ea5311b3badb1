-- Statements and blocks: their forms, texts of them, and with which tokens they begin.
use Rattle.std.proofs.Common.{◌≡◌, ◌∙◌, refl, sym, ap, subst, ℕ, ◌+◌, false, List, [], ◌∷◌, ◌++◌, length, inl, inr, arith, lit≤}
use Rattle.hw_text.specs.declared.place.Place.{Place}
use Rattle.hw_text.specs.Language.{◌⋅◌, ◌∣◌, Made, Each}
use Rattle.hw_text.specs.Reading.{BeginsWith, Anything, Leaves}
use Rattle.c_tree.specs.declared.dialect.Dialect.{Dialect}
use Rattle.c_tree.specs.declared.expression.RightSide.{RightSide}
use Rattle.c_tree.specs.declared.statement.Branch.{Branch}
use Rattle.c_tree.specs.declared.statement.Otherwise.{Otherwise}
use Rattle.c_tree.specs.declared.statement.Otherwise.TheVariants as otherwise
use Rattle.c_tree.specs.declared.statement.Statement.{Statement}
use Rattle.c_tree.specs.declared.statement.Statement.TheVariants.{Forever}
use Rattle.c_parse.specs.declared.keyword.Keyword.TheVariants as keyword
use Rattle.c_parse.specs.declared.mark.Mark.TheVariants as mark
use Rattle.c_parse.specs.Values.{Tokens}
use Rattle.c_parse.specs.ExpressionGrammar.{Sign, InFull}
use Rattle.c_parse.specs.CallGrammar.{Word}
use Rattle.c_parse.specs.PlainGrammar.{SpellsPlain, SpellsCondition}
use Rattle.c_parse.specs.CountGrammar.{SpellsCount, SpellsForeverHead}
use Rattle.c_parse.specs.StatementGrammar.{LinksFit, SpellsStatement, plain, choice, loop, SpellsLoop, count, forever, SpellsStatements, no_statement, a_statement, SpellsBlock, block, SpellsBranch, branch, no_branch, no_else, SpellsElse, SpellsChoice, SpellsFor, NoElse, ends_body, count_of}
use Rattle.c_parse.proofs.CountTexts.{a_count}
use Rattle.c_parse.proofs.CallTexts.{a_right}
use Rattle.c_parse.proofs.Lists.{Listed, some_member}
use Rattle.c_parse.proofs.Steps.{Sample, both, sample_of}
use Rattle.hw_text.proofs.Reading.{begun}
use Rattle.c_parse.proofs.Leaves.{the_sign}
use Rattle.c_parse.proofs.Shapes.{built, first, either, wider, as_other, apart, among, unlike}
use Rattle.c_parse.proofs.TokenShapes.{Means, Starts, by_kinds, sign_shape, word_shape, this_sign, this_word, of_kind, sign, word}
use Rattle.c_parse.proofs.PlainTexts.{plain_shapes, plain_starts}

abbrev pub BlockForm : Dialect → List Statement → Tokens → Type 0
BlockForm dialect = Made (λ p. p.1.0) (Sign mark.OpenBrace ⋅ SpellsStatements dialect ⋅ Sign mark.CloseBrace)

abbrev pub branch_of : Place × (RightSide × List Statement) → Branch
branch_of p = record { condition = p.1.0; body = p.1.1 }

abbrev pub BranchForm : Dialect → Branch → Tokens → Type 0
BranchForm dialect = Made branch_of (Word keyword.If ⋅ SpellsCondition dialect ⋅ SpellsBlock dialect)

abbrev pub LoopForm : Dialect → Statement → Tokens → Type 0
LoopForm dialect = Made count_of (SpellsCount ⋅ SpellsBlock dialect) ∣ InFull dialect (Made (λ p. Forever p.1) (SpellsForeverHead ⋅ SpellsBlock dialect))

abbrev pub StatementForm : Dialect → Statement → Tokens → Type 0
StatementForm dialect = SpellsPlain dialect ∣ SpellsChoice dialect ∣ SpellsFor dialect

-- the tokens behind a body
pub a_body_end : Means ends_body (sign_shape mark.CloseBrace ∷ word_shape keyword.Return ∷ [])
a_body_end = by_kinds ends_body (sign_shape mark.CloseBrace ∷ word_shape keyword.Return ∷ []) (λ p. refl) (λ p. refl) (λ n p. refl) (λ n p. refl) (λ n p. refl)

pub fits-as : (dialect : Dialect) (n m : ℕ) → n ≡ m → LinksFit dialect n → LinksFit dialect m
fits-as dialect n m same fits = subst (LinksFit dialect) same fits

module _ (dialect : Dialect) where
  pub block_opened : (z : List Statement) (w : Tokens) → SpellsBlock dialect z w → BlockForm dialect z w
  block_opened z w (block f p q ss os us cs ts split opening inside closing) = ((p, (ss, q)), refl, (os, us ++ cs, split, opening, (us, cs, refl, inside, closing)))

  pub block_shut : (p : Place × (List Statement × Place)) (w : Tokens) → (Sign mark.OpenBrace ⋅ SpellsStatements dialect ⋅ Sign mark.CloseBrace) p w → SpellsBlock dialect p.1.0 w
  block_shut p w text = block dialect p.0 p.1.1 p.1.0 text.0 text.4.0 text.4.1 w (text.2 ∙ ap (λ (l : Tokens). text.0 ++ l) text.4.2) text.3 text.4.3 text.4.4

  pub branch_opened : (z : Branch) (w : Tokens) → SpellsBranch dialect z w → BranchForm dialect z w
  branch_opened z w (branch f p c body is us vs b ts same split word condition inside) = ((p, (c, body)), same, (is, us ++ vs, split, word, (us, vs, refl, condition, inside)))

  pub branch_shut : (p : Place × (RightSide × List Statement)) (w : Tokens) → (Word keyword.If ⋅ SpellsCondition dialect ⋅ SpellsBlock dialect) p w → SpellsBranch dialect (branch_of p) w
  branch_shut p w text = branch dialect p.0 p.1.0 p.1.1 text.0 text.4.0 text.4.1 (branch_of p) w refl (text.2 ∙ ap (λ (l : Tokens). text.0 ++ l) text.4.2) text.3 text.4.3 text.4.4

  pub loop_opened : (z : Statement) (w : Tokens) → SpellsLoop dialect z w → LoopForm dialect z w
  loop_opened z w (count f h body us vs s ts same split head inside) = inl ((h, body), same, (us, vs, split, head, inside))
  loop_opened z w (forever f u body us vs s ts is same split head inside) = inr (is, ((u, body), same, (us, vs, split, head, inside)))

  pub loop_shut : (z : Statement) (w : Tokens) → LoopForm dialect z w → SpellsLoop dialect z w
  loop_shut z w (inl text) = count dialect text.0.0 text.0.1 text.2.0 text.2.1 z w text.1 text.2.2 text.2.3 text.2.4
  loop_shut z w (inr text) = let made = text.1 in forever dialect made.0.0 made.0.1 made.2.0 made.2.1 z w text.0 made.1 made.2.2 made.2.3 made.2.4

  pub statement_opened : (z : Statement) (w : Tokens) → SpellsStatement dialect z w → StatementForm dialect z w
  statement_opened z w (plain f s ts text) = inl text
  statement_opened z w (choice f b bs o us vs ws s ts same fits split first others last) =
      let still : LinksFit dialect (0 + length bs) = fits-as dialect (length bs) (0 + length bs) (omega arith) fits in
      inr (inl ((b, (bs, o)), same, (us, vs ++ ws, split, first, (still, (vs, ws, refl, others, last)))))
  statement_opened z w (loop f p q fs os us s ts split word opening inside) = inr (inr ((p, (q, s)), refl, (fs, os ++ us, split, word, (os, us, refl, opening, inside))))

  pub statement_shut : (z : Statement) (w : Tokens) → StatementForm dialect z w → SpellsStatement dialect z w
  statement_shut z w (inl text) = plain dialect z w text
  statement_shut z w (inr (inl text)) =
      let parts = text.2 in
      let more = parts.4.1 in
      let fits : LinksFit dialect (length text.0.1.0) = fits-as dialect (0 + length text.0.1.0) (length text.0.1.0) (omega arith) parts.4.0 in
      choice dialect text.0.0 text.0.1.0 text.0.1.1 parts.0 more.0 more.1 z w text.1 fits (parts.2 ∙ ap (λ (l : Tokens). parts.0 ++ l) more.2) parts.3 more.3 more.4
  statement_shut z w (inr (inr text)) =
      let parts = text.2 in
      loop dialect text.0.0 text.0.1.0 parts.0 parts.4.0 parts.4.1 z w (parts.2 ∙ ap (λ (l : Tokens). parts.0 ++ l) parts.4.2) parts.3 parts.4.3 (subst (λ s. SpellsLoop dialect s parts.4.1) (sym text.1) parts.4.4)

  pub statements_opened : (zs : List Statement) (w : Tokens) → SpellsStatements dialect zs w → Each (SpellsStatement dialect) zs w
  statements_opened zs w (no_statement f all ts none empty) = subst (λ l. Each (SpellsStatement dialect) l w) (sym none) empty
  statements_opened zs w (a_statement f s ss us vs all ts same split one more) =
      subst (λ l. Each (SpellsStatement dialect) l w) (sym same) (us, vs, split, one, statements_opened ss vs more)

  pub statements_shut : (zs : List Statement) (w : Tokens) → Each (SpellsStatement dialect) zs w → SpellsStatements dialect zs w
  statements_shut [] w text = no_statement dialect [] w refl text
  statements_shut (z ∷ zs) w text = a_statement dialect z zs text.0 text.1 (z ∷ zs) w refl text.2 text.3 (statements_shut zs text.1 text.4)

  pub no_statements : Sample (SpellsStatements dialect)
  no_statements = ([], [], no_statement dialect [] [] refl refl)

  pub a_block : Sample (SpellsBlock dialect)
  a_block =
      let s = both (the_sign mark.OpenBrace) (both no_statements (the_sign mark.CloseBrace)) in
      (_, s.1, block_shut s.0 s.1 s.2)

  pub a_condition : Sample (SpellsCondition dialect)
  a_condition = sample_of (λ p. p.1.0) (both (the_sign mark.OpenParenthesis) (both (a_right dialect) (the_sign mark.CloseParenthesis)))

  pub no_more_branches : (n : ℕ) → LinksFit dialect n → Sample (SpellsElse dialect n)
  no_more_branches n fits =
      let still : LinksFit dialect (n + 0) = fits-as dialect n (n + 0) (omega arith) fits in
      (([], otherwise.Nothing), [], (still, ([], [], refl, no_branch dialect [] [] refl refl, no_else dialect otherwise.Nothing [] refl refl)))

  -- a chain may have no link
  pub first_fits : LinksFit dialect 0
  first_fits = inr (lit≤ tt)

  pub block_starts : Starts (sign_shape mark.OpenBrace ∷ []) (SpellsBlock dialect)
  block_starts = as_other block_opened (built (λ p. p.1.0) (first (SpellsStatements dialect ⋅ Sign mark.CloseBrace) (sign mark.OpenBrace refl)))

  pub branch_starts : Starts (word_shape keyword.If ∷ []) (SpellsBranch dialect)
  branch_starts = as_other branch_opened (built branch_of (first (SpellsCondition dialect ⋅ SpellsBlock dialect) (word keyword.If refl)))

  pub choice_starts : Starts (word_shape keyword.If ∷ []) (SpellsChoice dialect)
  choice_starts = built _ (first _ branch_starts)

  pub for_starts : Starts (word_shape keyword.For ∷ []) (SpellsFor dialect)
  for_starts = built _ (first _ (word keyword.For refl))

  statement_starts : Starts (word_shape keyword.If ∷ word_shape keyword.For ∷ plain_shapes dialect) (SpellsStatement dialect)
  statement_starts = as_other statement_opened (either (wider (plain_starts dialect) refl) (either (wider choice_starts refl) (wider for_starts refl)))

  pub statements_listed : Listed (SpellsStatement dialect) ends_body false NoElse (BeginsWith ends_body)
  statements_listed = record {
    some = some_member statement_starts;
    starts = apart a_body_end statement_starts refl;
    ends = λ m follows. follows;
    follow = unlike a_body_end (this_word keyword.Else) refl;
    next = apart (this_word keyword.Else) statement_starts refl;
  }

  -- none has been read
  pub statements_begun : (xs : List Statement) → xs ≡ [] → (before : Tokens) → Leaves (SpellsStatements dialect) (BeginsWith ends_body) before before (λ later. xs ++ later) (Each (SpellsStatement dialect))
  statements_begun xs none before = begun (SpellsStatements dialect) (BeginsWith ends_body) before (λ later. xs ++ later) (Each (SpellsStatement dialect))
      (λ z w text. (z, ap (λ (l : List Statement). l ++ z) (sym none), statements_opened z w text))
      (λ z w text. subst (λ (l : List Statement). SpellsStatements dialect (l ++ z) w) (sym none) (statements_shut z w text))

  pub a_rest_of_else : (n : ℕ) → Sample {X = List Branch × Otherwise} (Made (λ (p : Branch × (List Branch × Otherwise)). (p.0 ∷ p.1.0, p.1.1)) (SpellsBranch dialect ⋅ SpellsElse dialect (n + 1)) ∣ Made (λ (body : List Statement). ([], otherwise.Block body)) (SpellsBlock dialect))
  a_rest_of_else n = (([], otherwise.Block a_block.0), a_block.1, inr (a_block.0, refl, a_block.2))

  pub a_loop : Sample (SpellsLoop dialect)
  a_loop =
      let s = both a_count a_block in
      (count_of s.0, s.1, loop_shut (count_of s.0) s.1 (inl (s.0, refl, s.2)))

pub close_follow : (y : Place) (w m : Tokens) → Sign mark.CloseBrace y w → Anything m → BeginsWith ends_body (w ++ m)
close_follow y w m text follows = among a_body_end (of_kind (this_sign mark.CloseBrace)) refl y w m text
