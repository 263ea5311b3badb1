-- What stands behind the tokens of a statement without blocks, and of a condition, behind which an expression may begin.
use Rattle.std.proofs.Common.{◌∙◌, refl, sym, ap, subst, ◌++◌, inl, inr, append_assoc}
use Rattle.std.proofs.lemmas.Bool.{false≢true}
use Rattle.c_tree.specs.declared.dialect.Dialect.TheVariants.{User}
use Rattle.c_tree.specs.declared.expression.RightSide.{RightSide}
use Rattle.c_tree.specs.declared.statement.Statement.{Statement}
use Rattle.c_parse.specs.declared.mark.Mark.TheVariants as mark
use Rattle.c_parse.specs.Values.{Tokens}
use Rattle.c_parse.specs.ExpressionGrammar.{Sign}
use Rattle.c_parse.specs.PlainGrammar.{SpellsPlain, SpellsCondition}
use Rattle.c_parse.specs.Outermost.{InCall, InRightSide, InLocal, InAssignment, InPlain, InCondition}
use Rattle.c_parse.specs.Standing.{◌◂◌, ◌∥◌}
use Rattle.c_parse.proofs.Explained.{IsExplained, Explained, in-turn}
use Rattle.c_parse.proofs.ExplainedAssignments.{assignment-explained}
use Rattle.c_parse.proofs.ExplainedCalls.{call-explained, right-explained}
use Rattle.c_parse.proofs.ExplainedLocals.{local-explained}
use Rattle.c_parse.proofs.LeafTokens.{sign-unled, sign-explained, sign-led, sign-ended}
use Rattle.c_parse.proofs.Within.{Within, behind, before, one-way, other-way}

abbrev InCallAlone : Tokens → Tokens → Tokens → Type 0
InCallAlone = InCall ◂ Sign mark.Semicolon

-- in a plain statement that is no local variable
abbrev InLater : Tokens → Tokens → Tokens → Type 0
InLater = InAssignment ∥ InCallAlone

pub plain-explained : (s : Statement) (b ts a : Tokens) → SpellsPlain User s ts → Within InPlain b a → Explained b ts a
plain-explained s b ts a (inl text) within = local-explained s b ts a text (one-way InLocal InLater b a within)
plain-explained s b ts a (inr (inl text)) within = assignment-explained s b ts a text (one-way InAssignment InCallAlone b a (other-way InLocal InLater b a within))
plain-explained s b ts a (inr (inr (inl (p, is, (cs, es, split, call, end))))) within =
    let alone = other-way InAssignment InCallAlone b a (other-way InLocal InLater b a within) in
    in-turn cs es ts b a split (call-explained p.0 b cs (es ++ a) call (before InCall (Sign mark.Semicolon) b a alone p.1 es end))
    (sign-unled mark.Semicolon p.1 es end refl (b ++ cs) a)
plain-explained s b ts a (inr (inr (inr (wrong, more)))) within = absurd (false≢true wrong)

pub condition-explained : (x : RightSide) (b ts a : Tokens) → SpellsCondition User x ts → Within InCondition b a → Explained b ts a
condition-explained x b ts a (p, is, (os, m, split, opening, (rs, cs, next, right, closing))) within =
    let opened = behind (Sign mark.OpenParenthesis) (InRightSide ◂ Sign mark.CloseParenthesis) b a within p.0 os opening in
    let inner =
    right-explained p.1.0 (b ++ os) rs (cs ++ a) right (before InRightSide (Sign mark.CloseParenthesis) (b ++ os) a opened p.1.1 cs closing)
    (sign-led mark.OpenParenthesis p.0 os opening refl b) (sign-ended mark.CloseParenthesis p.1.1 cs closing refl a) in
    in-turn os m ts b a split
    (sign-explained mark.OpenParenthesis p.0 os opening b (m ++ a) (subst (IsExplained (b ++ os)) (sym (ap (λ (l : Tokens). l ++ a) next ∙ append_assoc rs cs a)) inner.0))
    (in-turn rs cs m (b ++ os) a next inner.1 (sign-unled mark.CloseParenthesis p.1.1 cs closing refl ((b ++ os) ++ rs) a))
