-- What stands behind the tokens of a call and of a right side behind which an expression may begin.
use Rattle.std.proofs.Common.{◌∙◌, refl, sym, ap, subst, List, [], ◌∷◌, ◌++◌, inl, inr, append_assoc, append-nil, arith}
use Rattle.hw_text.specs.Language.{Each}
use Rattle.c_tree.specs.declared.dialect.Dialect.TheVariants.{User}
use Rattle.c_tree.specs.declared.expression.Argument.{Argument}
use Rattle.c_tree.specs.declared.expression.Call.{Call}
use Rattle.c_tree.specs.declared.expression.Expression.{Expression}
use Rattle.c_tree.specs.declared.expression.RightSide.{RightSide}
use Rattle.c_parse.specs.declared.mark.Mark.TheVariants as mark
use Rattle.c_parse.specs.Values.{Tokens}
use Rattle.c_parse.specs.ExpressionGrammar.{Sign, Name, SpellsWhole}
use Rattle.c_parse.specs.CallGrammar.{BehindComma, Separated, SpellsArgument, SpellsCall, SpellsRightSide}
use Rattle.c_parse.specs.Outermost.{InLaterArgument, InArguments, InCall, InRightSide}
use Rattle.c_parse.specs.Standing.{All, ◌▸◌, ◌◂◌}
use Rattle.c_parse.proofs.CallBegins.{call-begins}
use Rattle.c_parse.proofs.Explained.{Led, Ended, IsExplained, Explained, in-turn, expression-explained, end-here, end-behind, ends-soon}
use Rattle.c_parse.proofs.LeafTokens.{leaf-closed, leaf-length, leaf-explained, sign-leaf, sign-unled, sign-explained, sign-led, sign-ended, name-leaf}
use Rattle.c_parse.proofs.Within.{Within, behind, before, one-way, other-way, all-there, in-first, in-later}

-- an expression that is all there is
pub whole-explained : (b ts a : Tokens) → ((x : Expression) × SpellsWhole User x ts) → Within (All (SpellsWhole User)) b a → Led b → Ended a → IsExplained b (ts ++ a) × Explained b ts a
whole-explained b ts a text within led ended =
    expression-explained b ts a text.0 led ended text.1 (all-there (SpellsWhole User) b a within text.0 ts text.1)

argument-explained : (x : Argument) (b ts a : Tokens) → SpellsArgument User x ts → Within (All (SpellsWhole User)) b a → Led b → Ended a → IsExplained b (ts ++ a) × Explained b ts a
argument-explained x b ts a (inl (p, is, (us, vs, split, sign, name))) within led ended =
    let mark_leaf = sign-leaf mark.Ampersand p.0 us sign (refl, refl, refl) refl in
    let leaf = name-leaf p.1 vs name in (
      ends-soon 3 b (ts ++ a)
          (end-behind us vs ts a 1 2 split (leaf-closed us mark_leaf) (leaf-length us mark_leaf)
          (end-behind vs [] vs a 1 1 (sym (append-nil vs)) (leaf-closed vs leaf) (leaf-length vs leaf) (end-here a ended)))
          (omega arith),
      in-turn us vs ts b a split (leaf-explained us b (vs ++ a) mark_leaf) (leaf-explained vs (b ++ us) a leaf),
    )
argument-explained x b ts a (inr (e, is, text)) within led ended = whole-explained b ts a (e, text) within led ended

later-argument-explained : (x : Argument) (b ts a : Tokens) → BehindComma (SpellsArgument User) x ts → Within InLaterArgument b a → Ended a → Explained b ts a
later-argument-explained x b ts a (p, is, (us, vs, split, comma, argument)) within ended =
    let inner = argument-explained p.1 (b ++ us) vs a argument (behind (Sign mark.Comma) (All (SpellsWhole User)) b a within p.0 us comma) (sign-led mark.Comma p.0 us comma refl b) ended in
    in-turn us vs ts b a split (sign-explained mark.Comma p.0 us comma b (vs ++ a) inner.0) inner.1

-- what ends a list, or the comma before one of its members
pub later-ended : {X : Type 0} (A : X → Tokens → Type 0) (xs : List X) (ts a : Tokens) → Each (BehindComma A) xs ts → Ended a → Ended (ts ++ a)
later-ended A [] ts a none ended = subst (λ (l : Tokens). Ended (l ++ a)) (sym none) ended
later-ended A (x ∷ xs) ts a (us, vs, split, (p, is, (cs, ws, next, comma, member)), rest) ended =
    subst (λ (l : Tokens). Ended (l ++ a)) (sym (split ∙ ap (λ (l : Tokens). l ++ vs) next ∙ append_assoc cs ws vs))
    (subst Ended (sym (append_assoc cs (ws ++ vs) a)) (sign-ended mark.Comma p.0 cs comma refl ((ws ++ vs) ++ a)))

later-explained : (xs : List Argument) (b ts a : Tokens) → Each (BehindComma (SpellsArgument User)) xs ts → Within (Each (BehindComma (SpellsArgument User)) ▸ InLaterArgument ◂ Each (BehindComma (SpellsArgument User))) b a → Ended a → Explained b ts a
later-explained [] b ts a none within ended = subst (λ (l : Tokens). Explained b l a) (sym none) tt
later-explained (x ∷ xs) b ts a (us, vs, split, first, rest) within ended =
    in-turn us vs ts b a split
    (later-argument-explained x b us (vs ++ a) first (in-first (BehindComma (SpellsArgument User)) InLaterArgument b a within xs vs rest) (later-ended (SpellsArgument User) xs vs a rest ended))
    (later-explained xs (b ++ us) vs a rest (in-later (BehindComma (SpellsArgument User)) InLaterArgument b a within x us first) ended)

arguments-explained : (xs : List Argument) (b ts a : Tokens) → Separated (SpellsArgument User) xs ts → Within InArguments b a → Led b → Ended a → IsExplained b (ts ++ a) × Explained b ts a
arguments-explained [] b ts a none within led ended = (
  subst (λ (l : Tokens). IsExplained b (l ++ a)) (sym none) (ends-soon 1 b a (end-here a ended) (omega arith)),
  subst (λ (l : Tokens). Explained b l a) (sym none) tt,
)
arguments-explained (x ∷ xs) b ts a (us, vs, split, first, rest) within led ended =
    let others = Each (BehindComma (SpellsArgument User)) in
    let inner =
    argument-explained x b us (vs ++ a) first
    (before (All (SpellsWhole User)) others b a (one-way (All (SpellsWhole User) ◂ others) (SpellsArgument User ▸ others ▸ InLaterArgument ◂ others) b a within) xs vs rest)
    led (later-ended (SpellsArgument User) xs vs a rest ended) in (
      subst (IsExplained b) (sym (ap (λ (l : Tokens). l ++ a) split ∙ append_assoc us vs a)) inner.0,
      in-turn us vs ts b a split inner.1
          (later-explained xs (b ++ us) vs a rest
          (behind (SpellsArgument User) (others ▸ InLaterArgument ◂ others) b a (other-way (All (SpellsWhole User) ◂ others) (SpellsArgument User ▸ others ▸ InLaterArgument ◂ others) b a within) x us first)
          ended),
    )

pub call-explained : (c : Call) (b ts a : Tokens) → SpellsCall User c ts → Within InCall b a → Explained b ts a
call-explained c b ts a (p, is, (ns, more, split, name, (os, last, next, opening, (ws, cs, end, arguments, closing)))) within =
    let open_within = behind Name (Sign mark.OpenParenthesis ▸ InArguments ◂ Sign mark.CloseParenthesis) b a within p.0 ns name in
    let inner_within = behind (Sign mark.OpenParenthesis) (InArguments ◂ Sign mark.CloseParenthesis) (b ++ ns) a open_within p.1.0 os opening in
    let inner =
    arguments-explained p.1.1.0 ((b ++ ns) ++ os) ws (cs ++ a) arguments
    (before InArguments (Sign mark.CloseParenthesis) ((b ++ ns) ++ os) a inner_within p.1.1.1 cs closing)
    (sign-led mark.OpenParenthesis p.1.0 os opening refl (b ++ ns)) (sign-ended mark.CloseParenthesis p.1.1.1 cs closing refl a) in
    in-turn ns more ts b a split (leaf-explained ns b (more ++ a) (name-leaf p.0 ns name))
    (in-turn os last more (b ++ ns) a next
    (sign-explained mark.OpenParenthesis p.1.0 os opening (b ++ ns) (last ++ a) (subst (IsExplained ((b ++ ns) ++ os)) (sym (ap (λ (l : Tokens). l ++ a) end ∙ append_assoc ws cs a)) inner.0))
    (in-turn ws cs last ((b ++ ns) ++ os) a end inner.1 (sign-unled mark.CloseParenthesis p.1.1.1 cs closing refl (((b ++ ns) ++ os) ++ ws) a)))

pub right-explained : (x : RightSide) (b ts a : Tokens) → SpellsRightSide User x ts → Within InRightSide b a → Led b → Ended a → IsExplained b (ts ++ a) × Explained b ts a
right-explained x b ts a (inl (c, is, call)) within led ended = (
  inr (inl (call-begins User c ts a call)),
  call-explained c b ts a call (one-way InCall (All (SpellsWhole User)) b a within),
)
right-explained x b ts a (inr (e, is, text)) within led ended = whole-explained b ts a (e, text) (other-way InCall (All (SpellsWhole User)) b a within) led ended
