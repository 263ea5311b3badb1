-- The canonical tokens of parts, lvalues and expressions spell them.
use Rattle.std.proofs.Common.{◌≡◌, Bool, List, [], ◌∷◌, ◌++◌, map, inl, inr, refl, sym, ap, ◌∙◌, subst, append_assoc, IsTrue}
use Rattle.std.specs.Prelude.{◌&&◌}
use Rattle.std.specs.List.{flat_map, list_all}
use Rattle.hw_text.specs.declared.place.Place.{Place}
use Rattle.std.proofs.lemmas.Bool.{and_parts}
use Rattle.c_tree.specs.declared.dialect.Dialect.{Dialect}
use Rattle.c_tree.specs.declared.named.Named.{Named}
use Rattle.c_tree.specs.declared.print_expression.Position.TheVariants.{Whole}
use Rattle.c_tree.specs.declared.expression.Base.{Base}
use Rattle.c_tree.specs.declared.expression.Base.TheVariants as base
use Rattle.c_tree.specs.declared.expression.Selector.{Selector}
use Rattle.c_tree.specs.declared.expression.Selector.TheVariants as selector
use Rattle.c_tree.specs.declared.expression.Lvalue.{Lvalue}
use Rattle.c_tree.specs.declared.expression.Expression.{Expression}
use Rattle.c_tree.specs.declared.expression.Expression.TheFolds.{fold-roll-Selector, fold-roll-Lvalue, map-Selector}
use Rattle.c_tree.specs.declared.expression.Expression.TheOpen.{Selector-F, Lvalue-F}
use Rattle.c_tree.specs.declared.expression.Expression.TheOpen as opened
use Rattle.c_tree.specs.declared.expression.Expression.TheViews.{roll-Selector, roll-Lvalue}
use Rattle.c_tree.specs.Unplaced.{unplaced_base, unplaced_step, unplaced_part_step, unplaced_lvalue_step, unplaced_expression, unplaced_part, unplaced_lvalue}
use Rattle.c_parse.specs.ExpressionGrammar.{pointed, member, SpellsBase, SpellsLvalue, SpellsParts, SpellsWhole}
use Rattle.c_parse.specs.ExpressionGrammar as grammar
use Rattle.c_parse.specs.PartGrammar.{member_part, index_part, SpellsPart}
use Rattle.c_parse.specs.PrintedExpressions.{Written, base_tokens, expression_tokens_step, selector_tokens_step, lvalue_tokens_step, expression_tokens, selector_tokens, lvalue_tokens}
use Rattle.c_tree.specs.Dialects.{has_base, has_step, has_part_step, has_lvalue_step, has_expression, has_part, has_lvalue}
use Rattle.c_parse.specs.Values.{Tokens}
use Rattle.c_parse.specs.declared.mark.Mark.TheVariants as mark
use Rattle.c_parse.specs.declared.token.Token.{Token}
use Rattle.c_tree.proofs.ExpressionInduction.{OfEach, Cases, of_each_expression, of_each_lvalue}
use Rattle.c_parse.proofs.Respelled.{Respells, respelled-as, no-tokens, split, after, turned, built, one-way, other-way, in-full, all-parts}
use Rattle.c_parse.proofs.RespelledWords.{sign, named}
use Rattle.c_tree.proofs.UnplacedForms.{unplaced-Member, unplaced-Index, unplaced-Lvalue}
use Rattle.c_parse.proofs.RespelledForms.{ExpressionRead, PartRead, LvalueRead, number-read, truth-read, value-read, unary-read, cast-read}
use Rattle.c_parse.proofs.RespelledOperations.{binary-read}

abbrev IndexParts : Type 0
IndexParts = Place × (Expression × Place)

module _ (dialect : Dialect) where
  part-read : (z : Selector-F Expression Selector Lvalue) → (IsTrue (has_part_step dialect (map-Selector Expression Selector Lvalue Bool Bool Bool (has_expression dialect) (has_part dialect) (has_lvalue dialect) z)) → Respells (SpellsPart dialect) unplaced_part (unplaced_part_step (map-Selector Expression Selector Lvalue Expression Selector Lvalue unplaced_expression unplaced_part unplaced_lvalue z)) (selector_tokens_step (map-Selector Expression Selector Lvalue Written (List Token) (List Token) expression_tokens selector_tokens lvalue_tokens z))) → (PartRead dialect) (roll-Selector z)
  part-read z read = record {
    read = λ allowed.
        respelled-as (sym (fold-roll-Selector Written (List Token) (List Token) expression_tokens_step selector_tokens_step lvalue_tokens_step z)) (sym (fold-roll-Selector Expression Selector Lvalue unplaced_step unplaced_part_step unplaced_lvalue_step z))
        (read (subst (λ (b : Bool). IsTrue b) (fold-roll-Selector Bool Bool Bool (has_step dialect) (has_part_step dialect) (has_lvalue_step dialect) z) allowed));
  }

  member-read : (x : Named) → (PartRead dialect) (roll-Selector (opened.Member x))
  member-read x = part-read (opened.Member x) (λ allowed.
      one-way (turned member_part (λ k ts text. (k, refl, text)) (λ k same. unplaced-Member k.1 ∙ ap (λ (q : Place × Named). selector.Member q.1) same)
      (after (sign mark.Dot) (named x))))

  index-read : (x : Expression) → (ExpressionRead dialect) x → (PartRead dialect) (roll-Selector (opened.Index x))
  index-read x inner = part-read (opened.Index x) (λ allowed.
      other-way (turned index_part (λ k ts text. (k, refl, text)) (λ k same. unplaced-Index k.1.0 ∙ ap (λ (q : IndexParts). selector.Index q.1.0) same)
      (after (sign mark.OpenBracket) (after ((inner.read allowed).at Whole) (sign mark.CloseBracket)))))

  -- one part more
  more-parts : (x : Selector) (xs : List Selector) (us vs ts : Tokens) → ts ≡ us ++ vs → SpellsPart dialect x us → SpellsParts dialect xs vs → SpellsParts dialect (x ∷ xs) ts
  more-parts x xs us vs ts is (inl p) more =
      let text = p.2 in
      grammar.a_member dialect p.0.0 p.0.1 xs text.0 text.1 vs (x ∷ xs) ts (ap (λ (s : Selector). s ∷ xs) p.1)
      (is ∙ ap (λ (l : Tokens). l ++ vs) text.2 ∙ append_assoc text.0 text.1 vs) text.3 text.4 more
  more-parts x xs us vs ts is (inr p) more =
      let text = p.2 in
      let inner = text.4 in
      grammar.an_index dialect p.0.0 p.0.1.1 p.0.1.0 xs text.0 inner.0 inner.1 vs (x ∷ xs) ts (ap (λ (s : Selector). s ∷ xs) p.1)
      (is ∙ ap (λ (l : Tokens). l ++ vs) text.2 ∙ append_assoc text.0 text.1 vs ∙
      ap (λ (l : Tokens). text.0 ++ l) (ap (λ (l : Tokens). l ++ vs) inner.2 ∙ append_assoc inner.0 inner.1 vs)) text.3 inner.3 inner.4 more

  parts-found : (ps : List Selector) → OfEach (PartRead dialect) ps → OfEach (λ s. IsTrue (has_part dialect s)) ps → (ts : Tokens) → map (λ t. t.token) ts ≡ flat_map (λ us. us) (map selector_tokens ps) → (ys : List Selector) × SpellsParts dialect ys ts × (map unplaced_part ys ≡ map unplaced_part ps)
  parts-found [] each allowed ts e = ([], grammar.no_part dialect [] ts refl (no-tokens ts e), refl)
  parts-found (p ∷ ps) each allowed ts e =
      let halves = split (selector_tokens p) (flat_map (λ us. us) (map selector_tokens ps)) ts e in
      let first = (each.0.read allowed.0).found halves.0 halves.3 in
      let later = parts-found ps each.1 allowed.1 halves.1 halves.4 in (
        first.0 ∷ later.0,
        more-parts first.0 later.0 halves.0 halves.1 ts halves.2 first.1 later.1,
        ap (λ (s : Selector). s ∷ map unplaced_part later.0) first.2 ∙ ap (λ (l : List Selector). unplaced_part p ∷ l) later.2,
      )

  parts : (ps : List Selector) → OfEach (PartRead dialect) ps → OfEach (λ s. IsTrue (has_part dialect s)) ps → Respells (SpellsParts dialect) (map unplaced_part) (map unplaced_part ps) (flat_map (λ us. us) (map selector_tokens ps))
  parts ps each allowed = record { found = λ ts e. parts-found ps each allowed ts e }

  base-read : (b : Base) → IsTrue (has_base dialect b) → Respells (SpellsBase dialect) unplaced_base (unplaced_base b) (base_tokens b)
  base-read (base.Variable x) allowed = one-way (built base.Variable (named x) (λ y. refl) refl)
  base-read (base.Pointed at x) allowed =
      other-way (one-way (in-full dialect allowed
      (built pointed (after (sign mark.OpenParenthesis) (after (sign mark.Star) (after (named x) (sign mark.CloseParenthesis)))) (λ y. refl) refl)))
  base-read (base.Member x m) allowed =
      other-way (other-way (in-full dialect allowed (built member (after (named x) (after (sign mark.Arrow) (named m))) (λ y. refl) refl)))

  all-map : {X : Type 0} (test : X → Bool) (xs : List X) → list_all (λ b. b) (map test xs) ≡ list_all test xs
  all-map test [] = refl
  all-map test (x ∷ xs) = ap (λ (b : Bool). test x && b) (all-map test xs)

  lvalue-read : (b : Base) (ps : List Selector) → OfEach (PartRead dialect) ps → (LvalueRead dialect) (roll-Lvalue (record { base = b; parts = ps }))
  lvalue-read b ps each = record {
    read = λ allowed.
        let z : Lvalue-F Expression Selector Lvalue = record { base = b; parts = ps } in
        let both = and_parts (has_base dialect b) (list_all (λ v. v) (map (has_part dialect) ps))
        (subst (λ (v : Bool). IsTrue v) (fold-roll-Lvalue Bool Bool Bool (has_step dialect) (has_part_step dialect) (has_lvalue_step dialect) z) allowed) in
        let inner = all-parts (has_part dialect) ps (subst (λ (v : Bool). IsTrue v) (all-map (has_part dialect) ps) both.1) in
        respelled-as (sym (fold-roll-Lvalue Written (List Token) (List Token) expression_tokens_step selector_tokens_step lvalue_tokens_step z)) (sym (fold-roll-Lvalue Expression Selector Lvalue unplaced_step unplaced_part_step unplaced_lvalue_step z))
        (turned (λ (k : Base × List Selector). record { base = k.0; parts = k.1 }) (λ k ts text. grammar.lvalue dialect k.0 k.1 text.0 text.1 (record { base = k.0; parts = k.1 }) ts refl text.2 text.3 text.4)
        (λ k same. unplaced-Lvalue (record { base = k.0; parts = k.1 }) ∙ ap (λ (q : Base × List Selector). record { base = q.0; parts = q.1 }) same)
        (after (base-read b both.0) (parts ps each inner)));
  }

  cases : Cases (ExpressionRead dialect) (PartRead dialect) (LvalueRead dialect)
  cases = record {
    number = (number-read dialect);
    truth = (truth-read dialect);
    value = (value-read dialect);
    unary = (unary-read dialect);
    cast = (cast-read dialect);
    binary = (binary-read dialect);
    member = member-read;
    index = index-read;
    lvalue = lvalue-read;
  }

  pub whole : (x : Expression) → IsTrue (has_expression dialect x) → Respells (SpellsWhole dialect) unplaced_expression (unplaced_expression x) (expression_tokens x Whole)
  whole x allowed = ((of_each_expression (ExpressionRead dialect) (PartRead dialect) (LvalueRead dialect) cases x).read allowed).at Whole

  pub an_lvalue : (l : Lvalue) → IsTrue (has_lvalue dialect l) → Respells (SpellsLvalue dialect) unplaced_lvalue (unplaced_lvalue l) (lvalue_tokens l)
  an_lvalue l allowed = (of_each_lvalue (ExpressionRead dialect) (PartRead dialect) (LvalueRead dialect) cases l).read allowed
