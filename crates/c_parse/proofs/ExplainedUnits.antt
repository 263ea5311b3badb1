-- What stands behind each token of a unit behind which an expression may begin.
use Rattle.std.proofs.Common.{◌∙◌, refl, sym, ap, subst, List, [], ◌∷◌, ◌++◌, append_assoc, append-nil, Bool, true, false, Option, Some, None, inl, inr, arith}
use Rattle.std.specs.Prelude.{◌⊎◌, is_some}
use Rattle.std.proofs.lemmas.Bool.{false≢true}
use Rattle.hw_text.specs.Language.{Each, ◌⋅◌}
use Rattle.hw_text.specs.declared.place.Place.{Place}
use Rattle.c_tree.specs.declared.dialect.Dialect.TheVariants.{User}
use Rattle.c_tree.specs.declared.type_name.TypeName.{TypeName}
use Rattle.c_tree.specs.declared.item.Item.{Item}
use Rattle.c_tree.specs.declared.unit.Unit.{Unit as CUnit}
use Rattle.c_parse.specs.declared.headings.Heading.{Heading}
use Rattle.c_parse.specs.declared.keyword.Keyword.TheVariants as keyword
use Rattle.c_parse.specs.declared.mark.Mark.TheVariants as mark
use Rattle.c_parse.specs.Values.{Tokens}
use Rattle.c_parse.specs.ExpressionGrammar.{Sign}
use Rattle.c_parse.specs.CallGrammar.{Word, SpellsRightSide}
use Rattle.c_parse.specs.StatementGrammar.{SpellsStatements}
use Rattle.c_parse.specs.UnitGrammar.{Body, SpellsBody, SpellsParameters, FunctionBehind, VariableBehind, ItemBehind, SpellsItem, SpellsUnit}
use Rattle.c_parse.specs.Outermost.{InRightSide, InStatements, InReturned, InBody, InFunction, InItem, InUnit}
use Rattle.c_parse.specs.Standing.{◌▸◌, ◌◂◌}
use Rattle.c_parse.proofs.Explained.{Ended, IsExplained, Explained, in-turn, ends-soon}
use Rattle.c_parse.proofs.ExplainedCalls.{right-explained}
use Rattle.c_parse.proofs.ExplainedStatements.{statements-explained}
use Rattle.c_parse.proofs.ExplainedVariables.{heading-explained, parameters-end, parameters-explained, variable-explained}
use Rattle.c_parse.proofs.LeafTokens.{led-explained, return-led, sign-unled, sign-explained, sign-ended}
use Rattle.c_parse.proofs.Within.{IsThere, Within, behind-tokens, behind, before, one-way, other-way, in-first, in-later}

body-explained : (returns : Bool) (v : Body) (b ts a : Tokens) → SpellsBody User returns v ts → Within (InBody returns) b a → Explained b ts a
body-explained true v b ts a (p, is, (ss, m, split, text, (rs, n, next, word, (vs, k, third, right, (es, cs, last, end, closing))))) within =
    let returned = Word keyword.Return ⋅ SpellsRightSide User ⋅ Sign mark.Semicolon ⋅ Sign mark.CloseBrace in
    let ending = Sign mark.Semicolon ⋅ Sign mark.CloseBrace in
    let in_text = before InStatements returned b a (one-way (InStatements ◂ returned) (SpellsStatements User ▸ InReturned ◂ ending) b a within) p.1 m (rs, n, next, word, (vs, k, third, right, (es, cs, last, end, closing))) in
    let in_rest = behind (SpellsStatements User) (InReturned ◂ ending) b a (other-way (InStatements ◂ returned) (SpellsStatements User ▸ InReturned ◂ ending) b a within) p.0 ss text in
    let in_returned = before InReturned ending (b ++ ss) a in_rest p.1.1.1 k (es, cs, last, end, closing) in
    let ended : Ended (k ++ a) = subst (λ (l : Tokens). Ended (l ++ a)) (sym last) (subst Ended (sym (append_assoc es cs a)) (sign-ended mark.Semicolon p.1.1.1.0 es end refl (cs ++ a))) in
    let inner =
    right-explained p.1.1.0 ((b ++ ss) ++ rs) vs (k ++ a) right (behind (Word keyword.Return) InRightSide (b ++ ss) (k ++ a) in_returned p.1.0 rs word)
    (return-led p.1.0 rs (b ++ ss) word) ended in
    in-turn ss m ts b a split (statements-explained p.0 b ss (m ++ a) text in_text)
    (in-turn rs n m (b ++ ss) a next
    (led-explained word.0 rs (b ++ ss) (n ++ a) word.1 (subst (IsExplained ((b ++ ss) ++ rs)) (sym (ap (λ (l : Tokens). l ++ a) third ∙ append_assoc vs k a)) inner.0))
    (in-turn vs k n ((b ++ ss) ++ rs) a third inner.1
    (in-turn es cs k (((b ++ ss) ++ rs) ++ vs) a last (sign-unled mark.Semicolon p.1.1.1.0 es end refl (((b ++ ss) ++ rs) ++ vs) (cs ++ a))
    (sign-unled mark.CloseBrace p.1.1.1.1 cs closing refl ((((b ++ ss) ++ rs) ++ vs) ++ es) a))))
body-explained false v b ts a (p, is, (ss, cs, split, text, closing)) within =
    in-turn ss cs ts b a split (statements-explained p.0 b ss (cs ++ a) text (before InStatements (Sign mark.CloseBrace) b a within p.1 cs closing))
    (sign-unled mark.CloseBrace p.1 cs closing refl (b ++ ss) a)

function-explained : (h : Heading) (i : Item) (b ts a : Tokens) → FunctionBehind User h i ts → Within (InFunction (is_some h.class)) b a → Explained b ts a
function-explained h i b ts a (p, is, (os, m, split, opening, (ps, n, next, parameters, (cs, es, last, closing, inl (wrong, more))))) within = absurd (false≢true wrong)
function-explained h i b ts a (p, is, (os, m, split, opening, (ps, n, next, parameters, (cs, es, last, closing, inr (q, so, (bs, vs, inner, brace, body)))))) within =
    let returns = is_some h.class in
    let in_opened = behind (Sign mark.OpenParenthesis) (SpellsParameters User ▸ Sign mark.CloseParenthesis ▸ Sign mark.OpenBrace ▸ InBody returns) b a within p.0 os opening in
    let in_closing = behind (SpellsParameters User) (Sign mark.CloseParenthesis ▸ Sign mark.OpenBrace ▸ InBody returns) (b ++ os) a in_opened p.1.0 ps parameters in
    let in_brace = behind (Sign mark.CloseParenthesis) (Sign mark.OpenBrace ▸ InBody returns) ((b ++ os) ++ ps) a in_closing p.1.1.0 cs closing in
    let in_body = behind (Sign mark.OpenBrace) (InBody returns) (((b ++ os) ++ ps) ++ cs) a in_brace q.0 bs brace in
    let ended : Ended (n ++ a) = subst (λ (l : Tokens). Ended (l ++ a)) (sym last) (subst Ended (sym (append_assoc cs es a)) (sign-ended mark.CloseParenthesis p.1.1.0 cs closing refl (es ++ a))) in
    in-turn os m ts b a split
    (sign-explained mark.OpenParenthesis p.0 os opening b (m ++ a)
    (subst (IsExplained (b ++ os)) (sym (ap (λ (l : Tokens). l ++ a) next ∙ append_assoc ps n a)) (ends-soon 3 (b ++ os) (ps ++ (n ++ a)) (parameters-end p.1.0 ps (n ++ a) parameters ended) (omega arith))))
    (in-turn ps n m (b ++ os) a next (parameters-explained p.1.0 (b ++ os) ps (n ++ a) parameters ended)
    (in-turn cs es n ((b ++ os) ++ ps) a last (sign-unled mark.CloseParenthesis p.1.1.0 cs closing refl ((b ++ os) ++ ps) (es ++ a))
    (in-turn bs vs es (((b ++ os) ++ ps) ++ cs) a inner (sign-unled mark.OpenBrace q.0 bs brace refl (((b ++ os) ++ ps) ++ cs) (vs ++ a))
    (body-explained returns q.1 ((((b ++ os) ++ ps) ++ cs) ++ bs) vs a body in_body))))

-- behind a heading stands the rest of a variable or of a function
chosen : (h : Heading) (o : Option TypeName) (i : Item) (ts : Tokens) → ItemBehind User h o i ts → ((c : TypeName) × VariableBehind h.is_static c h.name i ts) ⊎ FunctionBehind User h i ts
chosen h None i ts text = inr text
chosen h (Some c) i ts (inl variable) = inl (c, variable)
chosen h (Some c) i ts (inr function) = inr function

item-explained : (i : Item) (b ts a : Tokens) → SpellsItem User i ts → Within InItem b a → Explained b ts a
item-explained i b ts a (inl (wrong, more)) within = absurd (false≢true wrong)
item-explained i b ts a (inr (inl (wrong, more))) within = absurd (false≢true wrong)
item-explained i b ts a (inr (inr (inl (wrong, more)))) within = absurd (false≢true wrong)
item-explained i b ts a (inr (inr (inr (h, us, vs, split, heading, rest)))) within =
    in-turn us vs ts b a split (heading-explained h b us (vs ++ a) heading)
    (elim (chosen h h.class i vs rest) [
      | inl variable ↦ variable-explained h.is_static variable.0 h.name i (b ++ us) vs a variable.1
      | inr function ↦
          function-explained h i (b ++ us) vs a function
          (behind-tokens InItem (InFunction (is_some h.class)) b us a within (λ xs es ys there. (h, us, xs, refl, heading, there)))
    ])

items-explained : (is : List Item) (b ts a : Tokens) → Each (SpellsItem User) is ts → Within (Each (SpellsItem User) ▸ InItem ◂ Each (SpellsItem User)) b a → Explained b ts a
items-explained [] b ts a none within = subst (λ (l : Tokens). Explained b l a) (sym none) tt
items-explained (i ∷ is) b ts a (us, vs, split, first, rest) within =
    in-turn us vs ts b a split (item-explained i b us (vs ++ a) first (in-first (SpellsItem User) InItem b a within is vs rest))
    (items-explained is (b ++ us) vs a rest (in-later (SpellsItem User) InItem b a within i us first))

in-unit : Within InUnit [] []
unfolding IsThere
in-unit us es vs there = subst (InUnit us es) (sym (append-nil vs)) there

pub unit-explained : (end : Place) (u : CUnit) (ts : Tokens) → SpellsUnit User end u ts → Explained [] ts []
unit-explained end u ts text = items-explained u.items [] ts [] text.0 in-unit
