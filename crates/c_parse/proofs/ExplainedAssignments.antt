-- What stands behind the tokens of an lvalue and of an assignment behind which an expression may begin.
use Rattle.std.proofs.Common.{◌≡◌, ◌∙◌, refl, sym, ap, subst, List, [], ◌∷◌, ◌++◌, inl, inr, append_assoc}
use Rattle.std.proofs.lemmas.Bool.{false≢true}
use Rattle.hw_text.specs.Language.{◌⋅◌}
use Rattle.hw_text.specs.declared.place.Place.{Place}
use Rattle.c_tree.specs.declared.dialect.Dialect.TheVariants.{User}
use Rattle.c_tree.specs.declared.expression.Base.{Base}
use Rattle.c_tree.specs.declared.expression.Lvalue.{Lvalue}
use Rattle.c_tree.specs.declared.expression.RightSide.{RightSide}
use Rattle.c_tree.specs.declared.expression.Selector.{Selector}
use Rattle.c_tree.specs.declared.expression.Selector.TheVariants as selector
use Rattle.c_tree.specs.declared.statement.Statement.{Statement}
use Rattle.c_parse.specs.declared.mark.Mark.TheVariants as mark
use Rattle.c_parse.specs.Values.{Tokens}
use Rattle.c_parse.specs.ExpressionGrammar.{Sign, SpellsBase, SpellsParts, SpellsLvalue, SpellsWhole, no_part, a_member, an_index, lvalue}
use Rattle.c_parse.specs.CallGrammar.{SpellsRightSide}
use Rattle.c_parse.specs.PlainGrammar.{SpellsAssignment}
use Rattle.c_parse.specs.Outermost.{InRightSide, InIndex, InParts, InGiven, InAssignment}
use Rattle.c_parse.specs.Standing.{All, ◌▸◌, ◌◂◌}
use Rattle.c_parse.proofs.Explained.{IsExplained, Explained, in-turn}
use Rattle.c_parse.proofs.ExplainedCalls.{whole-explained, right-explained}
use Rattle.c_parse.proofs.LeafTokens.{IsLeaf, leaf-explained, sign-leaf, sign-unled, sign-explained, sign-led, sign-ended, name-leaf}
use Rattle.c_parse.proofs.Within.{Within, behind-tokens, before-tokens, behind, before, one-way, other-way}

-- the parts of an lvalue
in-this-part : (ps : List Selector) (b w a : Tokens) → Within InParts b a → SpellsParts User ps w → Within InIndex b (w ++ a)
in-this-part ps b w a within rest =
    before-tokens InParts InIndex b w a within (λ us es vs there. ([], [], us, refl, no_part User [] [] refl refl, (ps, vs, w, refl, there, rest)))

pub parts-explained : (ps : List Selector) (b ts a : Tokens) → SpellsParts User ps ts → Within InParts b a → Explained b ts a
parts-explained ps b ts a (no_part f all ws is none) within = subst (λ (l : Tokens). Explained b l a) (sym none) tt
parts-explained ps b ts a (a_member f p x qs ds ns us all ws is split dot name rest) within =
    let later : Within InParts ((b ++ ds) ++ ns) a =
    subst (λ (l : Tokens). Within InParts l a) (sym (append_assoc b ds ns))
    (behind-tokens InParts InParts b (ds ++ ns) a within
    (λ us es vs there. (
      selector.Member x ∷ there.0,
      (ds ++ ns) ++ there.1,
      there.2,
      ap (λ (l : Tokens). (ds ++ ns) ++ l) there.3 ∙ sym (append_assoc (ds ++ ns) there.1 there.2),
      a_member User p x there.0 ds ns there.1 (selector.Member x ∷ there.0) ((ds ++ ns) ++ there.1) refl (append_assoc ds ns there.1) dot name there.4,
      there.5,
    ))) in
    in-turn ds (ns ++ us) ts b a split (leaf-explained ds b ((ns ++ us) ++ a) (sign-leaf mark.Dot p ds dot (refl, refl, refl) refl))
    (in-turn ns us (ns ++ us) (b ++ ds) a refl (leaf-explained ns (b ++ ds) (us ++ a) (name-leaf x ns name)) (parts-explained qs ((b ++ ds) ++ ns) us a rest later))
parts-explained ps b ts a (an_index f p q x rs os us cs vs all ws is split opening index closing rest) within =
    let part = os ++ (us ++ cs) in
    let later : Within InParts (((b ++ os) ++ us) ++ cs) a =
    subst (λ (l : Tokens). Within InParts l a) (sym (ap (λ (l : Tokens). l ++ cs) (append_assoc b os us) ∙ append_assoc b (os ++ us) cs ∙ ap (λ (l : Tokens). b ++ l) (append_assoc os us cs)))
    (behind-tokens InParts InParts b part a within
    (λ us' es vs' there. (
      selector.Index x ∷ there.0,
      part ++ there.1,
      there.2,
      ap (λ (l : Tokens). part ++ l) there.3 ∙ sym (append_assoc part there.1 there.2),
      an_index User p q x there.0 os us cs there.1 (selector.Index x ∷ there.0) (part ++ there.1) refl (append_assoc os (us ++ cs) there.1 ∙ ap (λ (l : Tokens). os ++ l) (append_assoc us cs there.1)) opening index closing there.4,
      there.5,
    ))) in
    let here = in-this-part rs b vs a within rest in
    let index_within = before (All (SpellsWhole User)) (Sign mark.CloseBracket) (b ++ os) (vs ++ a) (behind (Sign mark.OpenBracket) (All (SpellsWhole User) ◂ Sign mark.CloseBracket) b (vs ++ a) here p os opening) q cs closing in
    let inner =
    whole-explained (b ++ os) us (cs ++ (vs ++ a)) (x, index) index_within
    (sign-led mark.OpenBracket p os opening refl b) (sign-ended mark.CloseBracket q cs closing refl (vs ++ a)) in
    let behind_index : (us ++ (cs ++ vs)) ++ a ≡ us ++ (cs ++ (vs ++ a)) = append_assoc us (cs ++ vs) a ∙ ap (λ (l : Tokens). us ++ l) (append_assoc cs vs a) in
    in-turn os (us ++ (cs ++ vs)) ts b a split
    (sign-explained mark.OpenBracket p os opening b ((us ++ (cs ++ vs)) ++ a) (subst (IsExplained (b ++ os)) (sym behind_index) inner.0))
    (in-turn us (cs ++ vs) (us ++ (cs ++ vs)) (b ++ os) a refl (subst (Explained (b ++ os) us) (sym (append_assoc cs vs a)) inner.1)
    (in-turn cs vs (cs ++ vs) ((b ++ os) ++ us) a refl (sign-unled mark.CloseBracket q cs closing refl ((b ++ os) ++ us) (vs ++ a))
    (parts-explained rs (((b ++ os) ++ us) ++ cs) vs a rest later)))

base-leaf : (x : Base) (ts : Tokens) → SpellsBase User x ts → IsLeaf ts
base-leaf x ts (inl (y, is, name)) = name-leaf y ts name
base-leaf x ts (inr (inl (wrong, more))) = absurd (false≢true wrong)
base-leaf x ts (inr (inr (wrong, more))) = absurd (false≢true wrong)

target-explained : (l : Lvalue) (b ts a : Tokens) → SpellsLvalue User l ts → Within (SpellsBase User ▸ InParts) b a → Explained b ts a
target-explained l b ts a (lvalue f base ps us vs k ws is split first rest) within =
    in-turn us vs ts b a split (leaf-explained us b (vs ++ a) (base-leaf base us first))
    (parts-explained ps (b ++ us) vs a rest (behind (SpellsBase User) InParts b a within base us first))

-- "=" rhs ";", behind what is assigned
abbrev pub Assigned : Place × (RightSide × Place) → Tokens → Type 0
Assigned = Sign mark.Assign ⋅ SpellsRightSide User ⋅ Sign mark.Semicolon

pub assignment-explained : (s : Statement) (b ts a : Tokens) → SpellsAssignment User s ts → Within InAssignment b a → Explained b ts a
assignment-explained s b ts a (p, is, (ls, m, split, target, (es, n, next, assign, (rs, cs, last, right, end)))) within =
    let left = SpellsBase User ▸ InParts ◂ Assigned in
    let right_way = SpellsLvalue User ▸ InGiven ◂ Sign mark.Semicolon in
    let left_within =
    before-tokens left (SpellsBase User ▸ InParts) b m a (one-way left right_way b a within)
    (λ us xs vs there. (there.0, there.1, there.2, there.3, there.4, (p.1, vs, m, refl, there.5, (es, n, next, assign, (rs, cs, last, right, end))))) in
    let given = behind (SpellsLvalue User) (InGiven ◂ Sign mark.Semicolon) b a (other-way left right_way b a within) p.0 ls target in
    let given_right : Within InGiven (b ++ ls) (cs ++ a) = before InGiven (Sign mark.Semicolon) (b ++ ls) a given p.1.1.1 cs end in
    let inner =
    right-explained p.1.1.0 ((b ++ ls) ++ es) rs (cs ++ a) right (behind (Sign mark.Assign) InRightSide (b ++ ls) (cs ++ a) given_right p.1.0 es assign)
    (sign-led mark.Assign p.1.0 es assign refl (b ++ ls)) (sign-ended mark.Semicolon p.1.1.1 cs end refl a) in
    in-turn ls m ts b a split (target-explained p.0 b ls (m ++ a) target left_within)
    (in-turn es n m (b ++ ls) a next
    (sign-explained mark.Assign p.1.0 es assign (b ++ ls) (n ++ a) (subst (IsExplained ((b ++ ls) ++ es)) (sym (ap (λ (l : Tokens). l ++ a) last ∙ append_assoc rs cs a)) inner.0))
    (in-turn rs cs n ((b ++ ls) ++ es) a last inner.1 (sign-unled mark.Semicolon p.1.1.1 cs end refl (((b ++ ls) ++ es) ++ rs) a)))
