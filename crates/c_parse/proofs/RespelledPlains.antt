-- The canonical tokens of statements without blocks, and of the heads of loops, spell them.
use Rattle.std.proofs.Common.{◌≡◌, Bool, List, [], ◌∷◌, ◌++◌, refl, sym, ap, ◌∙◌, subst, append_assoc, IsTrue}
use Rattle.std.proofs.lemmas.Bool.{and_parts}
use Rattle.c_tree.specs.declared.dialect.Dialect.{Dialect}
use Rattle.c_tree.specs.Unplaced.{origin, unplaced_named, unplaced_signed, unplaced_statement_step, unplaced_branch_step, unplaced_otherwise_step, unplaced_statement, unplaced_branch, unplaced_otherwise}
use Rattle.c_tree.specs.declared.identifier.Identifier.{Identifier}
use Rattle.c_tree.specs.declared.integer_type.IntegerType.{IntegerType}
use Rattle.c_tree.specs.declared.named.Named.{Named}
use Rattle.c_tree.specs.declared.named.SignedLiteral.{SignedLiteral}
use Rattle.c_tree.specs.declared.type_name.TypeName.{TypeName}
use Rattle.c_tree.specs.declared.expression.Call.{Call}
use Rattle.c_tree.specs.declared.expression.Lvalue.{Lvalue}
use Rattle.c_tree.specs.declared.expression.RightSide.{RightSide}
use Rattle.c_tree.specs.declared.statement.LocalValue.{LocalValue}
use Rattle.c_tree.specs.declared.statement.Branch.{Branch}
use Rattle.c_tree.specs.declared.statement.Otherwise.{Otherwise}
use Rattle.c_tree.specs.declared.statement.Statement.{Statement}
use Rattle.c_tree.specs.declared.statement.Statement.TheVariants as statement
use Rattle.c_tree.specs.declared.statement.Otherwise.TheFolds.{fold-roll-Statement, fold-roll-Branch, fold-roll-Otherwise, map-Statement, map-Branch, map-Otherwise}
use Rattle.c_tree.specs.declared.statement.Otherwise.TheOpen.{Statement-F, Branch-F, Otherwise-F}
use Rattle.c_tree.specs.declared.statement.Otherwise.TheOpen as opened
use Rattle.c_tree.specs.declared.statement.Otherwise.TheViews.{roll-Statement, roll-Branch, roll-Otherwise}
use Rattle.c_parse.specs.CountGrammar.{count_start_of, SpellsCountStart, count_end_of, SpellsCountEnd, SpellsCount, SpellsForeverHead}
use Rattle.c_parse.specs.PlainGrammar.{local_of, assign_of, SpellsPlain}
use Rattle.c_parse.specs.PrintedStatements.{signed_tokens, count_end_tokens, otherwise_tokens_step, branch_tokens_step, statement_tokens_step, statement_tokens, branch_tokens, otherwise_tokens}
use Rattle.c_parse.specs.PrintedExpressions.{integer_token, lvalue_tokens, right_tokens}
use Rattle.c_parse.specs.StatementGrammar.{SpellsStatement, SpellsBranch, SpellsOtherwise}
use Rattle.c_parse.specs.StatementGrammar as grammar
use Rattle.c_tree.specs.Dialects.{has_lvalue, has_right, has_statement_step, has_branch_step, has_otherwise_step, has_statement, has_branch, has_otherwise}
use Rattle.c_parse.specs.declared.counting.CountStart.{CountStart}
use Rattle.c_parse.specs.declared.counting.CountEnd.{CountEnd}
use Rattle.c_parse.specs.declared.keyword.Keyword.TheVariants as keyword
use Rattle.c_parse.specs.declared.mark.Mark.TheVariants as mark
use Rattle.c_parse.specs.declared.token.Token.{Token}
use Rattle.c_parse.specs.declared.token.Token.TheVariants as token
use Rattle.c_parse.proofs.Respelled.{Respells, both_bare, respelled-as, split, after, turned, built, one-way, other-way, in-full}
use Rattle.c_parse.proofs.RespelledCalls.{type_name, signed, call, right_side, local_value}
use Rattle.c_parse.proofs.RespelledExpressions.{an_lvalue}
use Rattle.c_parse.proofs.RespelledWords.{sign, word, named, again, integer}
use Rattle.c_tree.proofs.UnplacedStatements.{unplaced-Local, unplaced-Assign, unplaced-Call, unplaced-Break}

-- the heads of loops without their places
abbrev pub start_bare : CountStart → CountStart
start_bare h = record { class = h.class; name = unplaced_named h.name; from = unplaced_signed h.from }

abbrev pub end_bare : CountEnd → CountEnd
end_bare h = record { place = origin; below = unplaced_signed h.below }

abbrev start_tokens : IntegerType → Named → SignedLiteral → List Token
start_tokens class x from = integer_token class ∷ token.Name x.name ∷ token.Mark mark.Assign ∷ signed_tokens from ++ token.Mark mark.Semicolon ∷ []

count-start : (class : IntegerType) (x : Named) (from : SignedLiteral) → Respells SpellsCountStart start_bare (record { class = class; name = unplaced_named x; from = unplaced_signed from }) (start_tokens class x from)
count-start class x from =
    built count_start_of (after (integer class) (after (named x) (after (sign mark.Assign) (after (signed from) (sign mark.Semicolon))))) (λ y. refl) refl

count-end : (x : Named) (below : SignedLiteral) → Respells (SpellsCountEnd x.name) end_bare (record { place = origin; below = unplaced_signed below }) (count_end_tokens x below)
count-end x below =
    built count_end_of
    (after (again x.name) (after (sign mark.Less) (after (signed below) (after (sign mark.Semicolon) (after (again x.name) (after (sign mark.Increment) (sign mark.CloseParenthesis))))))) (λ y. refl) refl

pub a_count : (class : IntegerType) (x : Named) (from below : SignedLiteral) → Respells SpellsCount (both_bare start_bare end_bare) (record { class = class; name = unplaced_named x; from = unplaced_signed from }, record { place = origin; below = unplaced_signed below }) (start_tokens class x from ++ count_end_tokens x below)
a_count class x from below = record {
  found = λ ts e.
      let bare_start : CountStart = record { class = class; name = unplaced_named x; from = unplaced_signed from } in
      let bare_end : CountEnd = record { place = origin; below = unplaced_signed below } in
      let halves = split (start_tokens class x from) (count_end_tokens x below) ts e in
      let first = (count-start class x from).found halves.0 halves.3 in
      let last = (count-end x below).found halves.1 halves.4 in
      let name_is : first.0.name.name ≡ x.name = ap (λ (h : CountStart). h.name.name) first.2 in (
        (first.0, last.0),
        (halves.0, halves.1, halves.2, first.1, subst (λ (n : Identifier). SpellsCountEnd n last.0 halves.1) (sym name_is) last.1),
        ap (λ (h : CountStart). (h, end_bare last.0)) first.2 ∙ ap (λ (h : CountEnd). (bare_start, h)) last.2,
      );
}

pub forever_head : Respells SpellsForeverHead (λ u. u) tt (token.Mark mark.Semicolon ∷ token.Mark mark.Semicolon ∷ token.Mark mark.CloseParenthesis ∷ [])
forever_head = built (λ p. tt) (after (sign mark.Semicolon) (after (sign mark.Semicolon) (sign mark.CloseParenthesis))) (λ y. refl) refl

module _ (dialect : Dialect) where
  pub record StatementRead (x : Statement) : Type 0 where
    pub read : IsTrue (has_statement dialect x) → Respells (SpellsStatement dialect) unplaced_statement (unplaced_statement x) (statement_tokens x)

  pub record BranchRead (b : Branch) : Type 0 where
    pub read : IsTrue (has_branch dialect b) → Respells (SpellsBranch dialect) unplaced_branch (unplaced_branch b) (branch_tokens b)

  pub record OtherwiseRead (o : Otherwise) : Type 0 where
    pub read : IsTrue (has_otherwise dialect o) → Respells (SpellsOtherwise dialect) unplaced_otherwise (unplaced_otherwise o) (otherwise_tokens o)

  pub statement-read : (z : Statement-F Otherwise Statement Branch) → (IsTrue (has_statement_step dialect (map-Statement Otherwise Statement Branch Bool Bool Bool (has_otherwise dialect) (has_statement dialect) (has_branch dialect) z)) → Respells (SpellsStatement dialect) unplaced_statement (unplaced_statement_step (map-Statement Otherwise Statement Branch Otherwise Statement Branch unplaced_otherwise unplaced_statement unplaced_branch z)) (statement_tokens_step (map-Statement Otherwise Statement Branch (List Token) (List Token) (List Token) otherwise_tokens statement_tokens branch_tokens z))) → StatementRead (roll-Statement z)
  statement-read z read = record {
    read = λ allowed.
        respelled-as (sym (fold-roll-Statement (List Token) (List Token) (List Token) otherwise_tokens_step statement_tokens_step branch_tokens_step z)) (sym (fold-roll-Statement Otherwise Statement Branch unplaced_otherwise_step unplaced_statement_step unplaced_branch_step z))
        (read (subst (λ (b : Bool). IsTrue b) (fold-roll-Statement Bool Bool Bool (has_otherwise_step dialect) (has_statement_step dialect) (has_branch_step dialect) z) allowed));
  }

  pub branch-read : (z : Branch-F Otherwise Statement Branch) → (IsTrue (has_branch_step dialect (map-Branch Otherwise Statement Branch Bool Bool Bool (has_otherwise dialect) (has_statement dialect) (has_branch dialect) z)) → Respells (SpellsBranch dialect) unplaced_branch (unplaced_branch_step (map-Branch Otherwise Statement Branch Otherwise Statement Branch unplaced_otherwise unplaced_statement unplaced_branch z)) (branch_tokens_step (map-Branch Otherwise Statement Branch (List Token) (List Token) (List Token) otherwise_tokens statement_tokens branch_tokens z))) → BranchRead (roll-Branch z)
  branch-read z read = record {
    read = λ allowed.
        respelled-as (sym (fold-roll-Branch (List Token) (List Token) (List Token) otherwise_tokens_step statement_tokens_step branch_tokens_step z)) (sym (fold-roll-Branch Otherwise Statement Branch unplaced_otherwise_step unplaced_statement_step unplaced_branch_step z))
        (read (subst (λ (b : Bool). IsTrue b) (fold-roll-Branch Bool Bool Bool (has_otherwise_step dialect) (has_statement_step dialect) (has_branch_step dialect) z) allowed));
  }

  pub otherwise-read : (z : Otherwise-F Otherwise Statement Branch) → (IsTrue (has_otherwise_step dialect (map-Otherwise Otherwise Statement Branch Bool Bool Bool (has_otherwise dialect) (has_statement dialect) (has_branch dialect) z)) → Respells (SpellsOtherwise dialect) unplaced_otherwise (unplaced_otherwise_step (map-Otherwise Otherwise Statement Branch Otherwise Statement Branch unplaced_otherwise unplaced_statement unplaced_branch z)) (otherwise_tokens_step (map-Otherwise Otherwise Statement Branch (List Token) (List Token) (List Token) otherwise_tokens statement_tokens branch_tokens z))) → OtherwiseRead (roll-Otherwise z)
  otherwise-read z read = record {
    read = λ allowed.
        respelled-as (sym (fold-roll-Otherwise (List Token) (List Token) (List Token) otherwise_tokens_step statement_tokens_step branch_tokens_step z)) (sym (fold-roll-Otherwise Otherwise Statement Branch unplaced_otherwise_step unplaced_statement_step unplaced_branch_step z))
        (read (subst (λ (b : Bool). IsTrue b) (fold-roll-Otherwise Bool Bool Bool (has_otherwise_step dialect) (has_statement_step dialect) (has_branch_step dialect) z) allowed));
  }

  -- what has no block
  plain : {z : Statement} {us : List Token} → Respells (SpellsPlain dialect) unplaced_statement z us → Respells (SpellsStatement dialect) unplaced_statement z us
  plain text = turned (λ x. x) (λ x ts spelled. grammar.plain dialect x ts spelled) (λ x same. same) text

  pub local-read : (class : TypeName) (x : Named) (value : LocalValue) → StatementRead (roll-Statement (opened.Local class x value))
  local-read class x value = statement-read (opened.Local class x value) (λ allowed.
      plain (one-way (built local_of (after (type_name class) (after (named x) (after (local_value dialect value allowed) (sign mark.Semicolon)))) (λ y. unplaced-Local y.0 y.1.0 y.1.1.0) refl)))

  four-parts : (a b c d : List Token) → a ++ (b ++ (c ++ d)) ≡ a ++ b ++ c ++ d
  four-parts a b c d = simp append_assoc

  pub assign-read : (target : Lvalue) (value : RightSide) → StatementRead (roll-Statement (opened.Assign target value))
  assign-read target value = statement-read (opened.Assign target value) (λ allowed.
      let both = and_parts (has_lvalue dialect target) (has_right dialect value) allowed in
      plain (other-way (one-way
      (respelled-as (four-parts (lvalue_tokens target) (token.Mark mark.Assign ∷ []) (right_tokens value) (token.Mark mark.Semicolon ∷ [])) refl
      (built assign_of (after (an_lvalue dialect target both.0) (after (sign mark.Assign) (after (right_side dialect value both.1) (sign mark.Semicolon)))) (λ y. unplaced-Assign y.0 y.1.1.0) refl)))))

  pub call-read : (c : Call) → StatementRead (roll-Statement (opened.Call c))
  call-read c = statement-read (opened.Call c) (λ allowed.
      plain (other-way (other-way (one-way (built (λ p. statement.Call p.0) (after (call dialect c allowed) (sign mark.Semicolon)) (λ y. unplaced-Call y.0) refl)))))

  pub break-read : StatementRead (roll-Statement opened.Break)
  break-read = statement-read opened.Break (λ allowed.
      plain (other-way (other-way (other-way (in-full dialect allowed (built (λ p. statement.Break) (after (word keyword.Break) (sign mark.Semicolon)) (λ y. unplaced-Break) refl))))))
