-- What stands behind the tokens of a local variable behind which an expression may begin.
use Rattle.std.proofs.Common.{◌∙◌, refl, sym, ap, subst, ℕ, ◌≤◌, [], ◌++◌, length, inl, inr, append_assoc, append-nil, arith, length-append}
use Rattle.std.specs.Prelude.{⊤}
use Rattle.c_tree.specs.declared.dialect.Dialect.TheVariants.{User}
use Rattle.c_tree.specs.declared.statement.LocalValue.{LocalValue}
use Rattle.c_tree.specs.declared.statement.Statement.{Statement}
use Rattle.c_parse.specs.declared.mark.Mark.TheVariants as mark
use Rattle.c_parse.specs.Values.{Tokens}
use Rattle.c_parse.specs.ExpressionGrammar.{Sign, Name}
use Rattle.c_parse.specs.CallGrammar.{SpellsType}
use Rattle.c_parse.specs.PlainGrammar.{SpellsZeros, SpellsZeroArray, SpellsGiven, SpellsLocalValue, SpellsLocal}
use Rattle.c_parse.specs.Outermost.{InRightSide, InGiven, InLocal}
use Rattle.c_parse.specs.Standing.{◌▸◌, ◌◂◌}
use Rattle.c_parse.proofs.Enclosed.{Closed, moved}
use Rattle.c_parse.proofs.EnclosedTexts.{bracketed, braces}
use Rattle.c_parse.proofs.Explained.{Led, Ended, EndsWithin, IsExplained, Explained, in-turn, end-here, end-behind, ends-soon}
use Rattle.c_parse.proofs.ExplainedCalls.{right-explained}
use Rattle.c_parse.proofs.LeafTokens.{leaf-closed, leaf-length, leaf-explained, sign-unled, sign-explained, sign-led, sign-ended, name-leaf, literal-leaf, zero-leaf, type-leaf}
use Rattle.c_parse.proofs.Within.{Within, behind, before}

zeros-closed : (u : ⊤) (ts : Tokens) → SpellsZeros u ts → Closed ts × (length ts ≤ 3)
zeros-closed u ts (p, is, (os, more, split, opening, (zs, cs, next, zero, closing))) =
    let leaf = zero-leaf p.1.0 zs zero in
    let open_one = ap {B = ℕ} (λ (l : Tokens). length l) opening.1 in
    let close_one = ap {B = ℕ} (λ (l : Tokens). length l) closing.1 in
    let all = split ∙ ap (λ (l : Tokens). os ++ l) next in (
      moved ts (os ++ (zs ++ cs)) all (bracketed mark.OpenBrace mark.CloseBrace braces p.0 p.1.1 os zs cs opening (leaf-closed zs leaf) closing),
      omega (arith, ap {B = ℕ} (λ (l : Tokens). length l) all, length-append os (zs ++ cs), length-append zs cs, open_one, close_one, leaf-length zs leaf),
    )

pub zeros-explained : (u : ⊤) (b ts a : Tokens) → SpellsZeros u ts → Explained b ts a
zeros-explained u b ts a (p, is, (os, more, split, opening, (zs, cs, next, zero, closing))) =
    in-turn os more ts b a split (sign-unled mark.OpenBrace p.0 os opening refl b (more ++ a))
    (in-turn zs cs more (b ++ os) a next (leaf-explained zs (b ++ os) (cs ++ a) (zero-leaf p.1.0 zs zero))
    (sign-unled mark.CloseBrace p.1.1 cs closing refl ((b ++ os) ++ zs) a))

-- zeros, and what ends behind them
pub zeros-end : (u : ⊤) (ts a : Tokens) → SpellsZeros u ts → Ended a → EndsWithin 4 (ts ++ a)
zeros-end u ts a zeros ended =
    let closed = zeros-closed u ts zeros in
    end-behind ts [] ts a 3 1 (sym (append-nil ts)) closed.0 closed.1 (end-here a ended)

given-explained : (v : LocalValue) (b ts a : Tokens) → SpellsGiven User v ts → Within InRightSide b a → Led b → Ended a → IsExplained b (ts ++ a) × Explained b ts a
given-explained v b ts a (inl (u, is, zeros)) within led ended = (ends-soon 4 b (ts ++ a) (zeros-end u ts a zeros ended) (omega arith), zeros-explained u b ts a zeros)
given-explained v b ts a (inr (x, is, right)) within led ended = right-explained x b ts a right within led ended

zero-array-explained : (v : LocalValue) (b ts a : Tokens) → SpellsZeroArray v ts → Ended a → Explained b ts a
zero-array-explained v b ts a (p, is, (os, m, split, opening, (ls, n, next, size, (cs, k, third, closing, (es, zs, last, assign, zeros))))) ended =
    let leaf = literal-leaf p.1.0 ls size in
    let before_zeros = ((b ++ os) ++ ls) ++ cs in
    let ends_length : Ended (n ++ a) = subst (λ (l : Tokens). Ended (l ++ a)) (sym third) (subst Ended (sym (append_assoc cs k a)) (sign-ended mark.CloseBracket p.1.1.0 cs closing refl (k ++ a))) in
    in-turn os m ts b a split
    (sign-explained mark.OpenBracket p.0 os opening b (m ++ a)
    (ends-soon 2 (b ++ os) (m ++ a)
    (end-behind ls n m a 1 1 next (leaf-closed ls leaf) (leaf-length ls leaf) (end-here (n ++ a) ends_length)) (omega arith)))
    (in-turn ls n m (b ++ os) a next (leaf-explained ls (b ++ os) (n ++ a) leaf)
    (in-turn cs k n ((b ++ os) ++ ls) a third (sign-unled mark.CloseBracket p.1.1.0 cs closing refl ((b ++ os) ++ ls) (k ++ a))
    (in-turn es zs k before_zeros a last
    (sign-explained mark.Assign p.1.1.1.0 es assign before_zeros (zs ++ a) (ends-soon 4 (before_zeros ++ es) (zs ++ a) (zeros-end p.1.1.1.1 zs a zeros ended) (omega arith)))
    (zeros-explained p.1.1.1.1 (before_zeros ++ es) zs a zeros))))

local-value-explained : (v : LocalValue) (b ts a : Tokens) → SpellsLocalValue User v ts → Within InGiven b a → Ended a → Explained b ts a
local-value-explained v b ts a (inl array) within ended = zero-array-explained v b ts a array ended
local-value-explained v b ts a (inr (p, is, (es, gs, split, assign, given))) within ended =
    let inner = given-explained p.1 (b ++ es) gs a given (behind (Sign mark.Assign) InRightSide b a within p.0 es assign) (sign-led mark.Assign p.0 es assign refl b) ended in
    in-turn es gs ts b a split (sign-explained mark.Assign p.0 es assign b (gs ++ a) inner.0) inner.1

pub local-explained : (s : Statement) (b ts a : Tokens) → SpellsLocal User s ts → Within InLocal b a → Explained b ts a
local-explained s b ts a (p, is, (cs, m, split, class, (ns, n, next, name, (vs, es, last, value, end)))) within =
    let named = behind SpellsType (Name ▸ InGiven ◂ Sign mark.Semicolon) b a within p.0 cs class in
    let given = behind Name (InGiven ◂ Sign mark.Semicolon) (b ++ cs) a named p.1.0 ns name in
    in-turn cs m ts b a split (leaf-explained cs b (m ++ a) (type-leaf p.0 cs class))
    (in-turn ns n m (b ++ cs) a next (leaf-explained ns (b ++ cs) (n ++ a) (name-leaf p.1.0 ns name))
    (in-turn vs es n ((b ++ cs) ++ ns) a last
    (local-value-explained p.1.1.0 ((b ++ cs) ++ ns) vs (es ++ a) value
    (before InGiven (Sign mark.Semicolon) ((b ++ cs) ++ ns) a given p.1.1.1 es end) (sign-ended mark.Semicolon p.1.1.1 es end refl a))
    (sign-unled mark.Semicolon p.1.1.1 es end refl (((b ++ cs) ++ ns) ++ vs) a)))
