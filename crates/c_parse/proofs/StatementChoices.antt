-- Which statement stands ahead, and what has been read of it, step by step.
use Rattle.std.proofs.Common.{◌≡◌, ◌∙◌, refl, sym, ap, subst, ℕ, ◌+◌, ◌<◌, nat_lt, Bool, true, false, ◌&&◌, ◌||◌, List, [], ◌∷◌, ◌++◌, append_assoc, append-nil, length, length-append, inl, inr, arith}
use Rattle.std.specs.Prelude.{⊤}
use Rattle.std.proofs.lemmas.Bool.{false≢true}
use Rattle.std.proofs.lemmas.Bool.Decides.{nat_tests}
use Rattle.hw_text.specs.declared.place.Place.{Place}
use Rattle.hw_text.specs.Language.{Nothing, ◌⋅◌, ◌∣◌, Made}
use Rattle.hw_text.specs.Reading.{begins, Anything, Reached, Leaves}
use Rattle.hw_text.proofs.Reading.{begun, refined, rebuilt, ended, first-begins}
use Rattle.c_tree.specs.declared.dialect.Dialect.TheVariants.{Full, User}
use Rattle.c_tree.specs.declared.dialect.Dialect.{Dialect}
use Rattle.c_tree.specs.Dialects.{is_full}
use Rattle.c_tree.specs.declared.statement.Branch.{Branch}
use Rattle.c_tree.specs.declared.statement.Otherwise.{Otherwise}
use Rattle.c_tree.specs.declared.statement.Otherwise.TheVariants as otherwise
use Rattle.c_tree.specs.declared.statement.Statement.{Statement}
use Rattle.c_tree.specs.declared.statement.Statement.TheVariants.{Forever}
use Rattle.c_parse.specs.declared.keyword.Keyword.TheVariants as keyword
use Rattle.c_parse.specs.declared.mark.Mark.TheVariants as mark
use Rattle.c_parse.specs.Values.{Tokens, is_mark, is_word}
use Rattle.c_parse.specs.ExpressionGrammar.{Sign}
use Rattle.c_parse.specs.CallGrammar.{Word}
use Rattle.c_parse.specs.PlainGrammar.{SpellsPlain, SpellsCondition}
use Rattle.c_parse.specs.CountGrammar.{SpellsCount, SpellsForeverHead}
use Rattle.c_parse.specs.StatementGrammar.{LinksFit, SpellsStatement, SpellsLoop, SpellsStatements, SpellsBlock, SpellsBranch, SpellsElseIfs, no_branch, else_if, SpellsOtherwise, no_else, an_else, SpellsElse, SpellsChoice, SpellsFor, NoElse, count_of}
use Rattle.c_parse.proofs.StatementTexts.{fits-as, first_fits, branch_of, LoopForm, StatementForm, block_opened, block_shut, branch_opened, branch_shut, loop_opened, loop_shut, statement_opened, statement_shut, block_starts, branch_starts, choice_starts, for_starts}
use Rattle.c_parse.proofs.Steps.{at_first, at_second, in_full, unmake, by_test, by_full, either_way, and_left, and_right, as_value}
use Rattle.c_parse.proofs.Shapes.{built, first, apart, among}
use Rattle.c_parse.proofs.TokenShapes.{this_sign, this_word, of_kind}
use Rattle.c_parse.proofs.PlainTexts.{plain_starts}
use Rattle.c_parse.proofs.CountTexts.{count_starts}

module _ (dialect : Dialect) (before : Tokens) where
  pub block_left : Leaves (SpellsBlock dialect) Anything before before (λ p. p.1.0) (Sign mark.OpenBrace ⋅ SpellsStatements dialect ⋅ Sign mark.CloseBrace)
  block_left = begun (SpellsBlock dialect) Anything before (λ p. p.1.0) (Sign mark.OpenBrace ⋅ SpellsStatements dialect ⋅ Sign mark.CloseBrace) (block_opened dialect) (block_shut dialect)

  pub branch_left : Leaves (SpellsBranch dialect) Anything before before branch_of (Word keyword.If ⋅ SpellsCondition dialect ⋅ SpellsBlock dialect)
  branch_left = begun (SpellsBranch dialect) Anything before branch_of (Word keyword.If ⋅ SpellsCondition dialect ⋅ SpellsBlock dialect) (branch_opened dialect) (branch_shut dialect)

  statement_left : Leaves (SpellsStatement dialect) NoElse before before (λ z. z) (StatementForm dialect)
  statement_left = begun (SpellsStatement dialect) NoElse before (λ z. z) (StatementForm dialect) (λ z w text. (z, refl, statement_opened dialect z w text)) (statement_shut dialect)

  pub choice_there : begins (is_word keyword.If) before ≡ true → Leaves (SpellsStatement dialect) NoElse before before (λ z. z) (SpellsChoice dialect)
  choice_there there = at_first (at_second statement_left (by_test (apart (this_word keyword.If) (plain_starts dialect) refl) there)) (by_test (apart (this_word keyword.If) (for_starts dialect) refl) there)

  pub for_there : begins (is_word keyword.For) before ≡ true → Leaves (SpellsStatement dialect) NoElse before before (λ z. z) (SpellsFor dialect)
  for_there there = at_second (at_second statement_left (by_test (apart (this_word keyword.For) (plain_starts dialect) refl) there)) (by_test (apart (this_word keyword.For) (choice_starts dialect) refl) there)

  pub plain_there : begins (is_word keyword.If) before ≡ false → begins (is_word keyword.For) before ≡ false → Leaves (SpellsStatement dialect) NoElse before before (λ z. z) (SpellsPlain dialect)
  plain_there no_if no_for = at_first statement_left
      (either_way (by_test (among (this_word keyword.If) (choice_starts dialect) refl) no_if) (by_test (among (this_word keyword.For) (for_starts dialect) refl) no_for))

module _ {dialect : Dialect} {before at : Tokens} {build : Statement → Statement} (so : Leaves (SpellsFor dialect) Anything before at build (SpellsLoop dialect)) where
  loop_left : Leaves (SpellsFor dialect) Anything before at build (LoopForm dialect)
  loop_left = refined (SpellsFor dialect) Anything before at build (SpellsLoop dialect) (λ z. z) (LoopForm dialect) so (loop_shut dialect) (λ z v m text follows same. (z, refl, loop_opened dialect z v text))

  pub forever_there : (is_full dialect && begins (is_mark mark.Semicolon) at) ≡ true → Leaves (SpellsFor dialect) Anything before at (λ p. build (Forever p.1)) (SpellsForeverHead ⋅ SpellsBlock dialect)
  forever_there there = unmake (in_full dialect (at_second loop_left
      (by_test (apart (this_sign mark.Semicolon) (built _ (first _ count_starts)) refl)
      (and_right (is_full dialect) (begins (is_mark mark.Semicolon) at) there)))
      (and_left (is_full dialect) (begins (is_mark mark.Semicolon) at) there))

  pub count_there : (is_full dialect && begins (is_mark mark.Semicolon) at) ≡ false → Leaves (SpellsFor dialect) Anything before at (λ p. build (count_of p)) (SpellsCount ⋅ SpellsBlock dialect)
  count_there none_there = unmake (at_first loop_left
      (by_full dialect (among (this_sign mark.Semicolon) (built _ (first _ (built _ (first _ (of_kind (this_sign mark.Semicolon)))))) refl) none_there))

-- behind an `else`, so many links having been read
abbrev pub ElseRest : Dialect → ℕ → List Branch × Otherwise → Tokens → Type 0
ElseRest dialect n =
    Made (λ p. (p.0 ∷ p.1.0, p.1.1)) (SpellsBranch dialect ⋅ SpellsElse dialect (n + 1)) ∣ Made (λ body. ([], otherwise.Block body)) (SpellsBlock dialect)

else_word : (p : Place) (w m : Tokens) → Word keyword.Else p w → begins (is_word keyword.Else) (w ++ m) ≡ true
else_word = among (this_word keyword.Else) (of_kind (this_word keyword.Else)) refl

module _ (dialect : Dialect) (n : ℕ) where
  an_else_more : LinksFit dialect n → (p : Place × (List Branch × Otherwise)) (v : Tokens) → (Word keyword.Else ⋅ ElseRest dialect n) p v → SpellsElse dialect n p.1 v
  an_else_more fits p v text = elim text.4 [
    | inl made ↦
        let parts = made.2 in
        let more = parts.4.1 in
        let still : LinksFit dialect (n + length (made.0.0 ∷ made.0.1.0)) = fits-as dialect (n + 1 + length made.0.1.0) (n + length (made.0.0 ∷ made.0.1.0)) (omega arith) parts.4.0 in
        subst (λ (y : List Branch × Otherwise). SpellsElse dialect n y v) (sym made.1) (
          still,
          (
            text.0 ++ (parts.0 ++ more.0),
            more.1,
            text.2 ∙ ap (λ (l : Tokens). text.0 ++ l) (parts.2 ∙ ap (λ (l : Tokens). parts.0 ++ l) more.2 ∙ sym (append_assoc parts.0 more.0 more.1)) ∙ sym (append_assoc text.0 (parts.0 ++ more.0) more.1),
            else_if dialect p.0 made.0.0 made.0.1.0 text.0 parts.0 more.0 (made.0.0 ∷ made.0.1.0) (text.0 ++ (parts.0 ++ more.0)) refl refl text.3 parts.3 more.3,
            more.4,
          ),
        )
    | inr made ↦
        let still : LinksFit dialect (n + 0) = fits-as dialect n (n + 0) (omega arith) fits in
        subst (λ (y : List Branch × Otherwise). SpellsElse dialect n y v) (sym made.1)
        (still, ([], v, refl, no_branch dialect [] [] refl refl, an_else dialect p.0 made.0 text.0 text.1 (otherwise.Block made.0) v refl text.2 text.3 made.2))
  ]

  else_parts : (y : List Branch × Otherwise) (us vs v m : Tokens) → LinksFit dialect (n + length y.0) → SpellsElseIfs dialect y.0 us → SpellsOtherwise dialect y.1 vs → v ≡ us ++ vs → begins (is_word keyword.Else) (v ++ m) ≡ true → NoElse m → (p : Place × (List Branch × Otherwise)) × (y ≡ p.1) × (Word keyword.Else ⋅ ElseRest dialect n) p v
  else_parts y us vs v m fits (else_if f p b bs es bb cs all ts is split word one more) last whole there follows =
      let still : LinksFit dialect (n + 1 + length bs) = fits-as dialect (n + length y.0) (n + 1 + length bs) (omega (arith, ap (λ (l : List Branch). length l) is)) fits in (
        (p, y),
        refl,
        (
          es,
          bb ++ (cs ++ vs),
          whole ∙ ap (λ (l : Tokens). l ++ vs) split ∙ append_assoc es (bb ++ cs) vs ∙ ap (λ (l : Tokens). es ++ l) (append_assoc bb cs vs),
          word,
          inl ((b, (bs, y.1)), ap (λ (l : List Branch). (l, y.1)) is, (bb, cs ++ vs, refl, one, (still, (cs, vs, refl, more, last)))),
        ),
      )
  else_parts y us vs v m fits (no_branch f all ts none empty) (an_else g p body es bb o ws is split word inside) whole there follows = (
    (p, y),
    refl,
    (
      es,
      bb,
      whole ∙ ap (λ (l : Tokens). l ++ vs) empty ∙ split,
      word,
      inr (body, ap (λ (l : List Branch). (l, y.1)) none ∙ ap (λ (l : Otherwise). ([], l)) is, inside),
    ),
  )
  else_parts y us vs v m fits (no_branch f all ts none empty) (no_else g o ws is blank) whole there follows =
      absurd (false≢true (sym follows ∙ ap (λ (l : Tokens). begins (is_word keyword.Else) (l ++ m)) (sym (whole ∙ ap (λ (l : Tokens). l ++ vs) empty ∙ blank)) ∙ there))

  no_parts : (y : List Branch × Otherwise) (us vs v m : Tokens) → SpellsElseIfs dialect y.0 us → SpellsOtherwise dialect y.1 vs → v ≡ us ++ vs → begins (is_word keyword.Else) (v ++ m) ≡ false → (u : ⊤) × (y ≡ ([], otherwise.Nothing)) × Nothing u v
  no_parts y us vs v m (else_if f p b bs es bb cs all ts is split word one more) last whole none =
      absurd (false≢true (sym none ∙ ap (λ (l : Tokens). begins (is_word keyword.Else) (l ++ m)) (whole ∙ ap (λ (l : Tokens). l ++ vs) split ∙ append_assoc es (bb ++ cs) vs) ∙ ap (begins (is_word keyword.Else)) (append_assoc es ((bb ++ cs) ++ vs) m) ∙ else_word p es (((bb ++ cs) ++ vs) ++ m) word))
  no_parts y us vs v m (no_branch f all ts empty_list empty) (an_else g p body es bb o ws is split word inside) whole none =
      absurd (false≢true (sym none ∙ ap (λ (l : Tokens). begins (is_word keyword.Else) (l ++ m)) (whole ∙ ap (λ (l : Tokens). l ++ vs) empty ∙ split) ∙ ap (begins (is_word keyword.Else)) (append_assoc es bb m) ∙ else_word p es (bb ++ m) word))
  no_parts y us vs v m (no_branch f all ts none_of empty) (no_else g o ws is blank) whole none =
      (tt, ap (λ (l : List Branch). (l, y.1)) none_of ∙ ap (λ (l : Otherwise). ([], l)) is, whole ∙ ap (λ (l : Tokens). l ++ vs) empty ∙ blank)

-- the branches that have been read, and what is left
abbrev pub so_far : List Branch → List Branch × Otherwise → List Branch × Otherwise
so_far bs p = (bs ++ p.0, p.1)

pub else_begun : (dialect : Dialect) (bs : List Branch) → bs ≡ [] → (before : Tokens) → Leaves (SpellsElse dialect 0) NoElse before before (so_far bs) (SpellsElse dialect (length bs))
else_begun dialect bs none before =
    subst (λ (l : List Branch). Leaves (SpellsElse dialect 0) NoElse before before (so_far l) (SpellsElse dialect (length l))) (sym none)
    (begun (SpellsElse dialect 0) NoElse before (so_far []) (SpellsElse dialect 0) (λ z w text. (z, refl, text)) (λ z w text. text))

pub none_fit : (dialect : Dialect) (bs : List Branch) → bs ≡ [] → LinksFit dialect (length bs)
none_fit dialect bs none = fits-as dialect 0 (length bs) (sym (ap (λ (l : List Branch). length l) none)) (first_fits dialect)

-- a link more fits where the chain goes on
pub one_fits : (dialect : Dialect) (n : ℕ) → (is_full dialect || nat_lt n 64) ≡ true → LinksFit dialect (n + 1)
one_fits Full n on = inl refl
one_fits User n on = inr (let below : n < 64 = grind (arith, nat_tests, on) in omega (arith, below))

pub more_fit : (dialect : Dialect) (bs : List Branch) (b : Branch) (new : List Branch) → new ≡ bs ++ b ∷ [] → (is_full dialect || nat_lt (length bs) 64) ≡ true → LinksFit dialect (length new)
more_fit dialect bs b new is on =
    fits-as dialect (length bs + 1) (length new) (omega (arith, ap (λ (l : List Branch). length l) is, length-append bs (b ∷ []))) (one_fits dialect (length bs) on)

-- what the test of a chain says of it
pub chain_ends : (dialect : Dialect) (bs : List Branch) (at : Tokens) {n : ℕ} {on : Bool} → n ≡ length bs → on ≡ (begins (is_word keyword.If) at && (is_full dialect || nat_lt n 64)) → on ≡ false → (begins (is_word keyword.If) at && (is_full dialect || nat_lt (length bs) 64)) ≡ false
chain_ends dialect bs at counted is ends = ap (λ (m : ℕ). begins (is_word keyword.If) at && (is_full dialect || nat_lt m 64)) (sym counted) ∙ sym is ∙ ends

pub chain_goes_on : (dialect : Dialect) (bs : List Branch) (at : Tokens) {n : ℕ} {on : Bool} → n ≡ length bs → on ≡ (begins (is_word keyword.If) at && (is_full dialect || nat_lt n 64)) → on ≡ true → (begins (is_word keyword.If) at ≡ true) × ((is_full dialect || nat_lt (length bs) 64) ≡ true)
chain_goes_on dialect bs at counted is goes =
    let both = ap (λ (m : ℕ). begins (is_word keyword.If) at && (is_full dialect || nat_lt m 64)) (sym counted) ∙ sym is ∙ goes in
    (and_left (begins (is_word keyword.If) at) (is_full dialect || nat_lt (length bs) 64) both, and_right (begins (is_word keyword.If) at) (is_full dialect || nat_lt (length bs) 64) both)

room : (dialect : Dialect) (n k : ℕ) → LinksFit dialect (n + 1 + k) → (is_full dialect || nat_lt n 64) ≡ true
room dialect n k (inl is) = ap (λ (b : Bool). b || nat_lt n 64) is
room Full n k (inr few) = refl
room User n k (inr few) = let below : n < 64 = omega (arith, few) in grind (arith, nat_tests, below)

module _ {dialect : Dialect} {before at : Tokens} (bs : List Branch) (fits : LinksFit dialect (length bs)) (so : Leaves (SpellsElse dialect 0) NoElse before at (so_far bs) (SpellsElse dialect (length bs))) where
  pub no_else_read : begins (is_word keyword.Else) at ≡ false → Reached (SpellsElse dialect 0) NoElse before at (bs, otherwise.Nothing)
  no_else_read none = as_value (ap (λ (l : List Branch). (l, otherwise.Nothing)) (sym (append-nil bs)))
      (ended (SpellsElse dialect 0) NoElse before at (λ u. so_far bs ([], otherwise.Nothing))
      (refined (SpellsElse dialect 0) NoElse before at (so_far bs) (SpellsElse dialect (length bs)) (λ (u : ⊤). ([], otherwise.Nothing)) Nothing so
      (λ u v empty. (fits-as dialect (length bs) (length bs + 0) (omega arith) fits, ([], v, refl, no_branch dialect [] [] refl refl, no_else dialect otherwise.Nothing v refl empty)))
      (λ y v m text follows same. no_parts dialect (length bs) y text.1.0 text.1.1 v m text.1.3 text.1.4 text.1.2 (first-begins (is_word keyword.Else) (v ++ m) at same ∙ none))))

  pub else_there : begins (is_word keyword.Else) at ≡ true → Leaves (SpellsElse dialect 0) NoElse before at (λ p. so_far bs p.1) (Word keyword.Else ⋅ ElseRest dialect (length bs))
  else_there there = refined (SpellsElse dialect 0) NoElse before at (so_far bs) (SpellsElse dialect (length bs)) (λ p. p.1) (Word keyword.Else ⋅ ElseRest dialect (length bs)) so (an_else_more dialect (length bs) fits)
      (λ y v m text follows same. else_parts dialect (length bs) y text.1.0 text.1.1 v m text.0 text.1.3 text.1.4 text.1.2 (first-begins (is_word keyword.Else) (v ++ m) at same ∙ there) follows)

module _ {dialect : Dialect} {before at : Tokens} (bs : List Branch) (so : Leaves (SpellsElse dialect 0) NoElse before at (so_far bs) (ElseRest dialect (length bs))) where
  -- where no `if` is ahead, or one that is a link too many, a block is read
  pub block_there : (begins (is_word keyword.If) at && (is_full dialect || nat_lt (length bs) 64)) ≡ false → Leaves (SpellsElse dialect 0) NoElse before at (λ body. so_far bs ([], otherwise.Block body)) (SpellsBlock dialect)
  block_there none = unmake (at_second so (record {
    none = λ y w m text follows same.
        let parts = text.2 in
        let if_there = among (this_word keyword.If) (first (SpellsElse dialect (length bs + 1)) (branch_starts dialect)) refl text.0 w m text.2 in
        let at_if : begins (is_word keyword.If) at ≡ true = sym (first-begins (is_word keyword.If) (w ++ m) at same) ∙ if_there in
        let on : (is_full dialect || nat_lt (length bs) 64) ≡ true = room dialect (length bs) (length text.0.1.0) parts.4.0 in
        false≢true (sym none ∙ ap (λ (b : Bool). b && (is_full dialect || nat_lt (length bs) 64)) at_if ∙ on);
  }))

  pub branch_there : begins (is_word keyword.If) at ≡ true → Leaves (SpellsElse dialect 0) NoElse before at (λ p. so_far bs (p.0 ∷ p.1.0, p.1.1)) (SpellsBranch dialect ⋅ SpellsElse dialect (length bs + 1))
  branch_there there = unmake (at_first so
      (by_test (apart (this_word keyword.If) (built _ (block_starts dialect)) refl) there))

-- one more branch has been read
pub branch_read : {dialect : Dialect} {before at : Tokens} (bs : List Branch) (b : Branch) {new : List Branch} → new ≡ bs ++ b ∷ [] → Leaves (SpellsElse dialect 0) NoElse before at (λ y. so_far bs (b ∷ y.0, y.1)) (SpellsElse dialect (length bs + 1)) → Leaves (SpellsElse dialect 0) NoElse before at (so_far new) (SpellsElse dialect (length new))
branch_read {dialect = dialect} {before = before} {at = at} bs b {new = new} is so =
    let longer : length bs + 1 ≡ length new = omega (arith, ap (λ (l : List Branch). length l) is, length-append bs (b ∷ [])) in
    rebuilt (SpellsElse dialect 0) NoElse before at (λ y. so_far bs (b ∷ y.0, y.1)) (so_far new) (SpellsElse dialect (length new))
    (λ y. ap (λ (l : List Branch). (l, y.1)) (sym (append_assoc bs (b ∷ []) y.0) ∙ ap (λ (l : List Branch). l ++ y.0) (sym is)))
    (subst (λ (n : ℕ). Leaves (SpellsElse dialect 0) NoElse before at (λ y. so_far bs (b ∷ y.0, y.1)) (SpellsElse dialect n)) longer so)
