-- The canonical tokens of statements spell them.
use Rattle.std.proofs.Common.{◌≡◌, ℕ, Bool, List, [], ◌∷◌, ◌++◌, map, length, refl, sym, ap, ◌∙◌, subst, append_assoc, inl, inr, IsTrue}
use Rattle.std.specs.Prelude.{◌&&◌, ⊤}
use Rattle.std.proofs.lemmas.Bool.{leb-true, and_parts}
use Rattle.std.proofs.lemmas.List.{length-map}
use Rattle.std.specs.List.{flat_map, list_all}
use Rattle.hw_text.specs.declared.place.Place.{Place}
use Rattle.c_tree.specs.declared.dialect.Dialect.TheVariants.{Full, User}
use Rattle.c_tree.specs.Literals.{range_holds}
use Rattle.c_tree.specs.declared.dialect.Dialect.{Dialect}
use Rattle.c_tree.specs.Dialects.{is_full, has_links}
use Rattle.c_tree.specs.Unplaced.{unplaced_right, unplaced_statement, unplaced_branch}
use Rattle.c_tree.specs.declared.integer_type.IntegerType.{IntegerType}
use Rattle.c_tree.specs.declared.named.Named.{Named}
use Rattle.c_tree.specs.declared.named.SignedLiteral.{SignedLiteral}
use Rattle.c_tree.specs.declared.expression.RightSide.{RightSide}
use Rattle.c_tree.specs.declared.statement.Branch.{Branch}
use Rattle.c_tree.specs.declared.statement.Otherwise.{Otherwise}
use Rattle.c_tree.specs.declared.statement.Otherwise.TheVariants as otherwise
use Rattle.c_tree.specs.declared.statement.Statement.{Statement}
use Rattle.c_tree.specs.declared.statement.Statement.TheVariants as statement
use Rattle.c_tree.specs.declared.statement.Otherwise.TheOpen as opened
use Rattle.c_tree.specs.declared.statement.Otherwise.TheViews.{roll-Statement, roll-Branch, roll-Otherwise}
use Rattle.c_parse.specs.PlainGrammar.{SpellsCondition}
use Rattle.c_parse.specs.PrintedStatements.{block_tokens, else_tokens, statement_tokens, branch_tokens, otherwise_tokens}
use Rattle.c_parse.specs.PrintedExpressions.{right_tokens}
use Rattle.c_parse.specs.StatementGrammar.{LinksFit, count_of, SpellsStatement, SpellsLoop, SpellsStatements, SpellsBlock, SpellsElseIfs}
use Rattle.c_parse.specs.StatementGrammar as grammar
use Rattle.c_tree.specs.Dialects.{has_right, has_statement, has_branch, has_otherwise}
use Rattle.c_parse.specs.Values.{Tokens}
use Rattle.c_parse.specs.declared.counting.CountStart.{CountStart}
use Rattle.c_parse.specs.declared.counting.CountEnd.{CountEnd}
use Rattle.c_parse.specs.declared.keyword.Keyword.TheVariants as keyword
use Rattle.c_parse.specs.declared.mark.Mark.TheVariants as mark
use Rattle.c_parse.specs.declared.token.Token.{Token}
use Rattle.c_parse.specs.declared.token.Token.TheVariants as token
use Rattle.c_tree.proofs.ExpressionInduction.{OfEach}
use Rattle.c_parse.proofs.Respelled.{Respells, tokens_of, respelled-as, no-tokens, split, after, turned, built, all-parts}
use Rattle.c_parse.proofs.RespelledCalls.{right_side}
use Rattle.c_parse.proofs.RespelledWords.{sign, word}
use Rattle.c_tree.proofs.StatementInduction.{Cases, of_each_statement}
use Rattle.c_tree.proofs.UnplacedStatements.{unplaced-If, unplaced-Count, unplaced-Forever, unplaced-Branch, unplaced-Nothing, unplaced-Block}
use Rattle.c_parse.proofs.RespelledPlains.{a_count, forever_head, StatementRead, BranchRead, OtherwiseRead, statement-read, branch-read, otherwise-read, local-read, assign-read, call-read, break-read}

-- so many links, where the test allows them
links-fit : (dialect : Dialect) (n : ℕ) → IsTrue (has_links dialect n) → LinksFit dialect n
links-fit Full n allowed = inl allowed
links-fit User n allowed = inr (leb-true n 64 allowed)

module _ (dialect : Dialect) where
  statements-found : (body : List Statement) → OfEach (StatementRead dialect) body → OfEach (λ x. IsTrue (has_statement dialect x)) body → (ts : Tokens) → tokens_of ts ≡ flat_map (λ us. us) (map statement_tokens body) → (ys : List Statement) × SpellsStatements dialect ys ts × (map unplaced_statement ys ≡ map unplaced_statement body)
  statements-found [] each allowed ts e = ([], grammar.no_statement dialect [] ts refl (no-tokens ts e), refl)
  statements-found (x ∷ xs) each allowed ts e =
      let halves = split (statement_tokens x) (flat_map (λ us. us) (map statement_tokens xs)) ts e in
      let first = (each.0.read allowed.0).found halves.0 halves.3 in
      let later = statements-found xs each.1 allowed.1 halves.1 halves.4 in (
        first.0 ∷ later.0,
        grammar.a_statement dialect first.0 later.0 halves.0 halves.1 (first.0 ∷ later.0) ts refl halves.2 first.1 later.1,
        ap (λ (s : Statement). s ∷ map unplaced_statement later.0) first.2 ∙ ap (λ (l : List Statement). unplaced_statement x ∷ l) later.2,
      )

  statements-by : (body : List Statement) → OfEach (StatementRead dialect) body → OfEach (λ x. IsTrue (has_statement dialect x)) body → Respells (SpellsStatements dialect) (map unplaced_statement) (map unplaced_statement body) (flat_map (λ us. us) (map statement_tokens body))
  statements-by body each allowed = record { found = λ ts e. statements-found body each allowed ts e }

  all-map : {X : Type 0} (test : X → Bool) (xs : List X) → list_all (λ b. b) (map test xs) ≡ list_all test xs
  all-map test [] = refl
  all-map test (x ∷ xs) = ap (λ (b : Bool). test x && b) (all-map test xs)

  allowed-statements : (body : List Statement) → IsTrue (list_all (λ b. b) (map (has_statement dialect) body)) → OfEach (λ x. IsTrue (has_statement dialect x)) body
  allowed-statements body allowed = all-parts (has_statement dialect) body (subst (λ (b : Bool). IsTrue b) (all-map (has_statement dialect) body) allowed)

  abbrev BlockParts : Type 0
  BlockParts = Place × (List Statement × Place)

  block : (body : List Statement) → OfEach (StatementRead dialect) body → IsTrue (list_all (λ b. b) (map (has_statement dialect) body)) → Respells (SpellsBlock dialect) (map unplaced_statement) (map unplaced_statement body) (block_tokens (map statement_tokens body))
  block body each allowed =
      turned (λ (k : BlockParts). k.1.0)
      (λ k ts text. grammar.block dialect k.0 k.1.1 k.1.0 text.0 text.4.0 text.4.1 ts (text.2 ∙ ap (λ (l : Tokens). text.0 ++ l) text.4.2) text.3 text.4.3 text.4.4)
      (λ k same. ap (λ (q : BlockParts). q.1.0) same)
      (after (sign mark.OpenBrace) (after (statements-by body each (allowed-statements body allowed)) (sign mark.CloseBrace)))

  elses-found : (bs : List Branch) → OfEach (BranchRead dialect) bs → OfEach (λ x. IsTrue (has_branch dialect x)) bs → (ts : Tokens) → tokens_of ts ≡ flat_map else_tokens (map branch_tokens bs) → (ys : List Branch) × SpellsElseIfs dialect ys ts × (map unplaced_branch ys ≡ map unplaced_branch bs)
  elses-found [] each allowed ts e = ([], grammar.no_branch dialect [] ts refl (no-tokens ts e), refl)
  elses-found (b ∷ bs) each allowed ts e =
      let halves = split (else_tokens (branch_tokens b)) (flat_map else_tokens (map branch_tokens bs)) ts e in
      let first = (after (word keyword.Else) (each.0.read allowed.0)).found halves.0 halves.3 in
      let text = first.1 in
      let later = elses-found bs each.1 allowed.1 halves.1 halves.4 in
      let split_is : ts ≡ text.0 ++ (text.1 ++ halves.1) = halves.2 ∙ ap (λ (l : Tokens). l ++ halves.1) text.2 ∙ append_assoc text.0 text.1 halves.1 in (
        first.0.1 ∷ later.0,
        grammar.else_if dialect first.0.0 first.0.1 later.0 text.0 text.1 halves.1 (first.0.1 ∷ later.0) ts refl split_is text.3 text.4 later.1,
        ap (λ (p : Place × Branch). p.1 ∷ map unplaced_branch later.0) first.2 ∙ ap (λ (l : List Branch). unplaced_branch b ∷ l) later.2,
      )

  -- no more links than the grammar allows
  abbrev FittingElses : List Branch → Tokens → Type 0
  FittingElses bs ts = LinksFit dialect (length bs) × SpellsElseIfs dialect bs ts

  elses : (bs : List Branch) → OfEach (BranchRead dialect) bs → OfEach (λ x. IsTrue (has_branch dialect x)) bs → LinksFit dialect (length bs) → Respells FittingElses (map unplaced_branch) (map unplaced_branch bs) (flat_map else_tokens (map branch_tokens bs))
  elses bs each allowed fits = record {
    found = λ ts e.
        let p = elses-found bs each allowed ts e in
        let many : length p.0 ≡ length bs = sym (length-map p.0 unplaced_branch) ∙ ap (λ (l : List Branch). length l) p.2 ∙ length-map bs unplaced_branch in
        (p.0, (subst (LinksFit dialect) (sym many) fits, p.1), p.2);
  }

  abbrev ChoiceParts : Type 0
  ChoiceParts = Branch × (List Branch × Otherwise)

  choice-read : (first : Branch) (others : List Branch) (o : Otherwise) → (BranchRead dialect) first → OfEach (BranchRead dialect) others → (OtherwiseRead dialect) o → (StatementRead dialect) (roll-Statement (opened.If first others o))
  choice-read first others o a b c = (statement-read dialect) (opened.If first others o) (λ allowed.
      let few : Bool = has_links dialect (length (map (has_branch dialect) others)) in
      let both = and_parts (has_branch dialect first) (list_all (λ v. v) (map (has_branch dialect) others) && (has_otherwise dialect o && few)) allowed in
      let rest = and_parts (list_all (λ v. v) (map (has_branch dialect) others)) (has_otherwise dialect o && few) both.1 in
      let last = and_parts (has_otherwise dialect o) few rest.1 in
      let fits = subst (LinksFit dialect) (length-map others (has_branch dialect)) (links-fit dialect (length (map (has_branch dialect) others)) last.1) in
      let each = all-parts (has_branch dialect) others (subst (λ (v : Bool). IsTrue v) (all-map (has_branch dialect) others) rest.0) in
      respelled-as (sym (append_assoc (branch_tokens first) (flat_map else_tokens (map branch_tokens others)) (otherwise_tokens o))) refl
      (turned (λ (k : ChoiceParts). statement.If k.0 k.1.0 k.1.1)
      (λ k ts text. grammar.choice dialect k.0 k.1.0 k.1.1 text.0 text.4.0 text.4.1 (statement.If k.0 k.1.0 k.1.1) ts refl text.4.3.0 (text.2 ∙ ap (λ (l : Tokens). text.0 ++ l) text.4.2) text.3 text.4.3.1 text.4.4)
      (λ k same. unplaced-If k.0 k.1.0 k.1.1 ∙ ap (λ (q : ChoiceParts). statement.If q.0 q.1.0 q.1.1) same)
      (after (a.read both.0) (after (elses others b each fits) (c.read last.0)))))

  abbrev LoopParts : Type 0
  LoopParts = Place × (Place × Statement)

  -- "for" "(" and what stands behind
  a_loop : {z : Statement} {us : List Token} → Respells (SpellsLoop dialect) unplaced_statement z us → Respells (SpellsStatement dialect) unplaced_statement z (token.Keyword keyword.For ∷ token.Mark mark.OpenParenthesis ∷ us)
  a_loop text =
      turned (λ (k : LoopParts). k.1.1)
      (λ k ts spelled. grammar.loop dialect k.0 k.1.0 spelled.0 spelled.4.0 spelled.4.1 k.1.1 ts (spelled.2 ∙ ap (λ (l : Tokens). spelled.0 ++ l) spelled.4.2) spelled.3 spelled.4.3 spelled.4.4)
      (λ k same. ap (λ (q : LoopParts). q.1.1) same)
      (after (word keyword.For) (after (sign mark.OpenParenthesis) text))

  abbrev CountParts : Type 0
  CountParts = (CountStart × CountEnd) × List Statement

  count-read : (class : IntegerType) (x : Named) (from : SignedLiteral) (at : Place) (below : SignedLiteral) (body : List Statement) → OfEach (StatementRead dialect) body → (StatementRead dialect) (roll-Statement (opened.Count class x from at below body))
  count-read class x from at below body each = (statement-read dialect) (opened.Count class x from at below body) (λ allowed.
      let both = and_parts (range_holds from below) (list_all (λ b. b) (map (has_statement dialect) body)) allowed in
      a_loop (turned count_of (λ k ts text. grammar.count dialect k.0 k.1 text.0 text.1 (count_of k) ts refl text.2 text.3 text.4)
      (λ k same. unplaced-Count k.0.0.class k.0.0.name k.0.0.from k.0.1.place k.0.1.below k.1 ∙ ap (λ (q : CountParts). count_of q) same)
      (after (a_count class x from below) (block body each both.1))))

  abbrev ForeverParts : Type 0
  ForeverParts = ⊤ × List Statement

  forever-read : (body : List Statement) → OfEach (StatementRead dialect) body → (StatementRead dialect) (roll-Statement (opened.Forever body))
  forever-read body each = (statement-read dialect) (opened.Forever body) (λ allowed.
      let both = and_parts (is_full dialect) (list_all (λ b. b) (map (has_statement dialect) body)) allowed in
      a_loop (turned (λ (k : ForeverParts). statement.Forever k.1)
      (λ k ts text. grammar.forever dialect k.0 k.1 text.0 text.1 (statement.Forever k.1) ts both.0 refl text.2 text.3 text.4)
      (λ k same. unplaced-Forever k.1 ∙ ap (λ (q : ForeverParts). statement.Forever q.1) same)
      (after forever_head (block body each both.1))))

  abbrev BranchParts : Type 0
  BranchParts = Place × (RightSide × List Statement)

  condition : (r : RightSide) → IsTrue (has_right dialect r) → Respells (SpellsCondition dialect) unplaced_right (unplaced_right r) (token.Mark mark.OpenParenthesis ∷ right_tokens r ++ token.Mark mark.CloseParenthesis ∷ [])
  condition r allowed = built (λ p. p.1.0) (after (sign mark.OpenParenthesis) (after (right_side dialect r allowed) (sign mark.CloseParenthesis))) (λ y. refl) refl

  a_branch : (r : RightSide) (body : List Statement) → OfEach (StatementRead dialect) body → (BranchRead dialect) (roll-Branch (record { condition = r; body = body }))
  a_branch r body each = (branch-read dialect) (record { condition = r; body = body }) (λ allowed.
      let both = and_parts (has_right dialect r) (list_all (λ v. v) (map (has_statement dialect) body)) allowed in
      turned (λ (k : BranchParts). record { condition = k.1.0; body = k.1.1 })
      (λ k ts text. grammar.branch dialect k.0 k.1.0 k.1.1 text.0 text.4.0 text.4.1 (record { condition = k.1.0; body = k.1.1 }) ts refl (text.2 ∙ ap (λ (l : Tokens). text.0 ++ l) text.4.2) text.3 text.4.3 text.4.4)
      (λ k same. unplaced-Branch (record { condition = k.1.0; body = k.1.1 }) ∙ ap (λ (q : BranchParts). record { condition = q.1.0; body = q.1.1 }) same)
      (after (word keyword.If) (after (condition r both.0) (block body each both.1))))

  nothing-read : (OtherwiseRead dialect) (roll-Otherwise opened.Nothing)
  nothing-read = (otherwise-read dialect) opened.Nothing (λ allowed. record { found = λ ts e. (otherwise.Nothing, grammar.no_else dialect otherwise.Nothing ts refl (no-tokens ts e), unplaced-Nothing) })

  abbrev ElseParts : Type 0
  ElseParts = Place × List Statement

  block-read : (body : List Statement) → OfEach (StatementRead dialect) body → (OtherwiseRead dialect) (roll-Otherwise (opened.Block body))
  block-read body each = (otherwise-read dialect) (opened.Block body) (λ allowed.
      turned (λ (k : ElseParts). otherwise.Block k.1)
      (λ k ts text. grammar.an_else dialect k.0 k.1 text.0 text.1 (otherwise.Block k.1) ts refl text.2 text.3 text.4)
      (λ k same. unplaced-Block k.1 ∙ ap (λ (q : ElseParts). otherwise.Block q.1) same)
      (after (word keyword.Else) (block body each allowed)))

  cases : Cases (OtherwiseRead dialect) (StatementRead dialect) (BranchRead dialect)
  cases = record {
    local = (local-read dialect);
    assign = (assign-read dialect);
    call = (call-read dialect);
    choice = choice-read;
    count = count-read;
    forever = forever-read;
    break = (break-read dialect);
    branch = a_branch;
    nothing = nothing-read;
    block = block-read;
  }

  all-read : (body : List Statement) → OfEach (StatementRead dialect) body
  all-read [] = tt
  all-read (x ∷ xs) = (of_each_statement (OtherwiseRead dialect) (StatementRead dialect) (BranchRead dialect) cases x, all-read xs)

  flat-map : (xs : List Statement) → flat_map (λ us. us) (map statement_tokens xs) ≡ flat_map statement_tokens xs
  flat-map [] = refl
  flat-map (x ∷ xs) = ap (λ (l : List Token). statement_tokens x ++ l) (flat-map xs)

  pub statements : (body : List Statement) → IsTrue (list_all (has_statement dialect) body) → Respells (SpellsStatements dialect) (map unplaced_statement) (map unplaced_statement body) (flat_map statement_tokens body)
  statements body allowed = respelled-as (flat-map body) refl (statements-by body (all-read body) (all-parts (has_statement dialect) body allowed))
