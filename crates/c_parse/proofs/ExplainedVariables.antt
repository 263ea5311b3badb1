-- What stands behind the tokens of a heading, of parameters and of a variable of a unit behind which an expression may begin.
use Rattle.std.proofs.Common.{◌≡◌, ◌∙◌, refl, sym, ap, subst, List, [], ◌∷◌, ◌++◌, append_assoc, append-nil, Bool, Option, Some, None, inl, inr, arith}
use Rattle.std.proofs.lemmas.Bool.{false≢true}
use Rattle.hw_text.specs.Language.{Each, Made, Maybe, ◌⋅◌}
use Rattle.hw_text.specs.declared.place.Place.{Place}
use Rattle.c_tree.specs.declared.dialect.Dialect.TheVariants.{User}
use Rattle.c_tree.specs.declared.named.Named.{Named}
use Rattle.c_tree.specs.declared.named.Literal.{Literal}
use Rattle.c_tree.specs.declared.type_name.TypeName.{TypeName}
use Rattle.c_tree.specs.declared.item.InitialValue.{InitialValue}
use Rattle.c_tree.specs.declared.item.Item.{Item}
use Rattle.c_tree.specs.declared.item.Parameter.{Parameter}
use Rattle.c_parse.specs.declared.headings.Heading.{Heading}
use Rattle.c_parse.specs.declared.keyword.Keyword.TheVariants as keyword
use Rattle.c_parse.specs.declared.mark.Mark.TheVariants as mark
use Rattle.c_parse.specs.Values.{Tokens}
use Rattle.c_parse.specs.ExpressionGrammar.{Sign}
use Rattle.c_parse.specs.CallGrammar.{BehindComma}
use Rattle.c_parse.specs.TypedefGrammar.{SpellsLength}
use Rattle.c_parse.specs.UnitGrammar.{SpellsInitial, SpellsParameter, SpellsParameters, SpellsStatic, SpellsResult, SpellsHeading, VariableBehind}
use Rattle.c_parse.proofs.Explained.{Ended, EndsWithin, IsExplained, Explained, in-turn, end-here, end-behind, ends-soon}
use Rattle.c_parse.proofs.ExplainedCalls.{later-ended}
use Rattle.c_parse.proofs.ExplainedCounts.{signed-closed, signed-explained}
use Rattle.c_parse.proofs.ExplainedLocals.{zeros-end, zeros-explained}
use Rattle.c_parse.proofs.LeafTokens.{IsLeaf, leaf-closed, leaf-length, leaf-explained, sign-unled, sign-explained, sign-ended, name-leaf, literal-leaf, truth-leaf, type-leaf, word-leaf}

none-explained : (b ts a : Tokens) → ts ≡ [] → Explained b ts a
none-explained b ts a none = subst (λ (l : Tokens). Explained b l a) (sym none) tt

-- one token, and what ends behind it
leaf-end : (ts a : Tokens) → IsLeaf ts → Ended a → EndsWithin 2 (ts ++ a)
leaf-end ts a leaf ended = end-behind ts [] ts a 1 1 (sym (append-nil ts)) (leaf-closed ts leaf) (leaf-length ts leaf) (end-here a ended)

static-explained : (s : Bool) (b ts a : Tokens) → SpellsStatic s ts → Explained b ts a
static-explained s b ts a (inl (p, is, word)) = leaf-explained ts b a (word-leaf keyword.Static refl p ts word)
static-explained s b ts a (inr (p, is, none)) = none-explained b ts a none

result-leaf : (o : Option TypeName) (ts : Tokens) → SpellsResult o ts → IsLeaf ts
result-leaf o ts (inl (p, is, word)) = word-leaf keyword.Void refl p ts word
result-leaf o ts (inr (c, is, class)) = type-leaf c ts class

pub heading-explained : (h : Heading) (b ts a : Tokens) → SpellsHeading h ts → Explained b ts a
heading-explained h b ts a (p, is, (us, m, split, static, (rs, ns, next, result, name))) =
    in-turn us m ts b a split (static-explained p.0 b us (m ++ a) static)
    (in-turn rs ns m (b ++ us) a next (leaf-explained rs (b ++ us) (ns ++ a) (result-leaf p.1.0 rs result))
    (leaf-explained ns ((b ++ us) ++ rs) a (name-leaf p.1.1 ns name)))

parameter-ends : (x : Parameter) (ts a : Tokens) → SpellsParameter User x ts → Ended a → EndsWithin 3 (ts ++ a)
parameter-ends x ts a (inl (p, is, (us, vs, split, class, name))) ended =
    let first = type-leaf p.0 us class in
    end-behind us vs ts a 1 2 split (leaf-closed us first) (leaf-length us first) (leaf-end vs a (name-leaf p.1 vs name) ended)
parameter-ends x ts a (inr (wrong, more)) ended = absurd (false≢true wrong)

parameter-explained : (x : Parameter) (b ts a : Tokens) → SpellsParameter User x ts → Explained b ts a
parameter-explained x b ts a (inl (p, is, (us, vs, split, class, name))) =
    in-turn us vs ts b a split (leaf-explained us b (vs ++ a) (type-leaf p.0 us class)) (leaf-explained vs (b ++ us) a (name-leaf p.1 vs name))
parameter-explained x b ts a (inr (wrong, more)) = absurd (false≢true wrong)

later-parameters : (xs : List Parameter) (b ts a : Tokens) → Each (BehindComma (SpellsParameter User)) xs ts → Ended a → Explained b ts a
later-parameters [] b ts a none ended = none-explained b ts a none
later-parameters (x ∷ xs) b ts a (us, vs, split, (p, is, (cs, ws, next, comma, parameter)), rest) ended =
    in-turn us vs ts b a split
    (in-turn cs ws us b (vs ++ a) next
    (sign-explained mark.Comma p.0 cs comma b (ws ++ (vs ++ a))
    (ends-soon 3 (b ++ cs) (ws ++ (vs ++ a)) (parameter-ends p.1 ws (vs ++ a) parameter (later-ended (SpellsParameter User) xs vs a rest ended)) (omega arith)))
    (parameter-explained p.1 (b ++ cs) ws (vs ++ a) parameter))
    (later-parameters xs (b ++ us) vs a rest ended)

pub parameters-end : (xs : List Parameter) (ts a : Tokens) → SpellsParameters User xs ts → Ended a → EndsWithin 3 (ts ++ a)
parameters-end xs ts a (inl (p, is, word)) ended =
    let leaf = word-leaf keyword.Void refl p ts word in
    end-behind ts [] ts a 1 2 (sym (append-nil ts)) (leaf-closed ts leaf) (leaf-length ts leaf) (later-end (end-here a ended))
  where
    later-end : EndsWithin 1 a → EndsWithin 2 a
    later-end soon = (soon.0, soon.1, soon.2, soon.3, omega (arith, soon.4))
parameters-end xs ts a (inr (p, is, (us, vs, split, first, rest))) ended =
    subst (EndsWithin 3) (sym (ap (λ (l : Tokens). l ++ a) split ∙ append_assoc us vs a))
    (parameter-ends p.0 us (vs ++ a) first (later-ended (SpellsParameter User) p.1 vs a rest ended))

pub parameters-explained : (xs : List Parameter) (b ts a : Tokens) → SpellsParameters User xs ts → Ended a → Explained b ts a
parameters-explained xs b ts a (inl (p, is, word)) ended = leaf-explained ts b a (word-leaf keyword.Void refl p ts word)
parameters-explained xs b ts a (inr (p, is, (us, vs, split, first, rest))) ended =
    in-turn us vs ts b a split (parameter-explained p.0 b us (vs ++ a) first) (later-parameters p.1 (b ++ us) vs a rest ended)

length-explained : (o : Option Literal) (b ts a : Tokens) → SpellsLength o ts → Explained b ts a
length-explained None b ts a none = none-explained b ts a none
length-explained (Some l) b ts a (p, is, (os, m, split, opening, (ls, cs, next, size, closing))) =
    let leaf = literal-leaf p.1.0 ls size in
    in-turn os m ts b a split
    (sign-explained mark.OpenBracket p.0 os opening b (m ++ a)
    (ends-soon 2 (b ++ os) (m ++ a)
    (end-behind ls cs m a 1 1 next (leaf-closed ls leaf) (leaf-length ls leaf) (end-here (cs ++ a) (sign-ended mark.CloseBracket p.1.1 cs closing refl a))) (omega arith)))
    (in-turn ls cs m (b ++ os) a next (leaf-explained ls (b ++ os) (cs ++ a) leaf) (sign-unled mark.CloseBracket p.1.1 cs closing refl ((b ++ os) ++ ls) a))

initial-explained : (x : InitialValue) (b ts a : Tokens) → SpellsInitial x ts → Ended a → IsExplained b (ts ++ a) × Explained b ts a
initial-explained x b ts a (inl (u, is, zeros)) ended = (ends-soon 4 b (ts ++ a) (zeros-end u ts a zeros ended) (omega arith), zeros-explained u b ts a zeros)
initial-explained x b ts a (inr (inl (p, is, truth))) ended =
    let leaf = truth-leaf p ts truth in (ends-soon 2 b (ts ++ a) (leaf-end ts a leaf ended) (omega arith), leaf-explained ts b a leaf)
initial-explained x b ts a (inr (inr (inl (n, is, name)))) ended =
    let leaf = name-leaf n ts name in (ends-soon 2 b (ts ++ a) (leaf-end ts a leaf ended) (omega arith), leaf-explained ts b a leaf)
initial-explained x b ts a (inr (inr (inr (s, is, signed)))) ended =
    let closed = signed-closed s ts signed in
    (ends-soon 3 b (ts ++ a) (end-behind ts [] ts a 2 1 (sym (append-nil ts)) closed.0 closed.1 (end-here a ended)) (omega arith), signed-explained s ts b a signed)

initialised-explained : (o : Option InitialValue) (b ts a : Tokens) → Maybe (Made (λ (p : Place × InitialValue). p.1) (Sign mark.Assign ⋅ SpellsInitial)) o ts → Ended a → Explained b ts a
initialised-explained None b ts a none ended = none-explained b ts a none
initialised-explained (Some x) b ts a (p, is, (es, vs, split, assign, initial)) ended =
    let inner = initial-explained p.1 (b ++ es) vs a initial ended in
    in-turn es vs ts b a split (sign-explained mark.Assign p.0 es assign b (vs ++ a) inner.0) inner.1

pub variable-explained : (s : Bool) (c : TypeName) (n : Named) (i : Item) (b ts a : Tokens) → VariableBehind s c n i ts → Explained b ts a
variable-explained s c n i b ts a (p, is, (ls, m, split, size, (vs, es, next, initial, end))) =
    in-turn ls m ts b a split (length-explained p.0 b ls (m ++ a) size)
    (in-turn vs es m (b ++ ls) a next (initialised-explained p.1.0 (b ++ ls) vs (es ++ a) initial (sign-ended mark.Semicolon p.1.1 es end refl a))
    (sign-unled mark.Semicolon p.1.1 es end refl ((b ++ ls) ++ vs) a))
