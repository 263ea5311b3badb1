-- What stands behind the tokens of the head of a loop behind which an expression may begin.
use Rattle.std.proofs.Common.{◌∙◌, refl, sym, ap, subst, ℕ, ◌≤◌, ◌++◌, length, inl, inr, append_assoc, arith, length-append}
use Rattle.c_tree.specs.declared.identifier.Identifier.{Identifier}
use Rattle.c_tree.specs.declared.named.SignedLiteral.{SignedLiteral}
use Rattle.c_parse.specs.declared.counting.CountStart.{CountStart}
use Rattle.c_parse.specs.declared.counting.CountEnd.{CountEnd}
use Rattle.c_parse.specs.declared.mark.Mark.TheVariants as mark
use Rattle.c_parse.specs.Values.{Tokens, mark_of}
use Rattle.c_parse.specs.CallGrammar.{SpellsSigned}
use Rattle.c_parse.specs.CountGrammar.{SpellsCountStart, SpellsCountEnd, SpellsCount}
use Rattle.c_parse.proofs.Enclosed.{Closed, closed-append, moved, sign-closed}
use Rattle.c_parse.proofs.Explained.{EndsWithin, Explained, in-turn, end-here, end-behind, ends-soon}
use Rattle.c_parse.proofs.LeafTokens.{leaf-closed, leaf-length, one-length, leaf-explained, sign-leaf, sign-unled, sign-explained, sign-ended, name-leaf, again-leaf, literal-leaf, integer-leaf}

module _ (x : SignedLiteral) (ts : Tokens) where
  pub signed-closed : SpellsSigned x ts → Closed ts × (length ts ≤ 2)
  signed-closed (inl (l, is, literal)) =
      let leaf = literal-leaf l ts literal in (leaf-closed ts leaf, omega (arith, leaf-length ts leaf))
  signed-closed (inr (p, is, (us, vs, split, minus, literal))) =
      let first = sign-leaf mark.Minus p.0 us minus (refl, refl, refl) refl in
      let second = literal-leaf p.1 vs literal in (
        moved ts (us ++ vs) split (closed-append us vs (leaf-closed us first) (leaf-closed vs second)),
        omega (arith, ap {B = ℕ} (λ (l : Tokens). length l) split, length-append us vs, leaf-length us first, leaf-length vs second),
      )

  pub signed-explained : (b a : Tokens) → SpellsSigned x ts → Explained b ts a
  signed-explained b a (inl (l, is, literal)) = leaf-explained ts b a (literal-leaf l ts literal)
  signed-explained b a (inr (p, is, (us, vs, split, minus, literal))) =
      in-turn us vs ts b a split (leaf-explained us b (vs ++ a) (sign-leaf mark.Minus p.0 us minus (refl, refl, refl) refl))
      (leaf-explained vs (b ++ us) a (literal-leaf p.1 vs literal))

start-ends : (c : CountStart) (ts a : Tokens) → SpellsCountStart c ts → EndsWithin 6 (ts ++ a)
start-ends c ts a (p, is, (is', m, split, class, (ns, n, next, name, (es, k, third, assign, (ls, cs, last, literal, end))))) =
    let class_leaf = integer-leaf p.0 is' class in
    let leaf = name-leaf p.1.0 ns name in
    let signed = signed-closed p.1.1.1.0 ls literal in
    end-behind is' m ts a 1 5 split (leaf-closed is' class_leaf) (leaf-length is' class_leaf)
    (end-behind ns n m a 1 4 next (leaf-closed ns leaf) (leaf-length ns leaf)
    (end-behind es k n a 1 3 third (sign-closed mark.Assign (refl, refl, refl) p.1.1.0 es assign) (one-length (mark_of mark.Assign) p.1.1.0 es assign)
    (end-behind ls cs k a 2 1 last signed.0 signed.1 (end-here (cs ++ a) (sign-ended mark.Semicolon p.1.1.1.1 cs end refl a)))))

start-explained : (c : CountStart) (b ts a : Tokens) → SpellsCountStart c ts → Explained b ts a
start-explained c b ts a (p, is, (is', m, split, class, (ns, n, next, name, (es, k, third, assign, (ls, cs, last, literal, end))))) =
    let signed = signed-closed p.1.1.1.0 ls literal in
    in-turn is' m ts b a split (leaf-explained is' b (m ++ a) (integer-leaf p.0 is' class))
    (in-turn ns n m (b ++ is') a next (leaf-explained ns (b ++ is') (n ++ a) (name-leaf p.1.0 ns name))
    (in-turn es k n ((b ++ is') ++ ns) a third
    (sign-explained mark.Assign p.1.1.0 es assign ((b ++ is') ++ ns) (k ++ a)
    (ends-soon 3 (((b ++ is') ++ ns) ++ es) (k ++ a) (end-behind ls cs k a 2 1 last signed.0 signed.1 (end-here (cs ++ a) (sign-ended mark.Semicolon p.1.1.1.1 cs end refl a))) (omega arith)))
    (in-turn ls cs k (((b ++ is') ++ ns) ++ es) a last (signed-explained p.1.1.1.0 ls (((b ++ is') ++ ns) ++ es) (cs ++ a) literal)
    (sign-unled mark.Semicolon p.1.1.1.1 cs end refl ((((b ++ is') ++ ns) ++ es) ++ ls) a))))

end-explained : (x : Identifier) (c : CountEnd) (b ts a : Tokens) → SpellsCountEnd x c ts → Explained b ts a
end-explained x c b ts a (p, is, (ns, m1, s1, name, (ls, m2, s2, less, (ds, m3, s3, literal, (es, m4, s4, end, (vs, m5, s5, again, (us, cs, s6, increment, closing))))))) =
    in-turn ns m1 ts b a s1 (leaf-explained ns b (m1 ++ a) (again-leaf x p.0 ns name))
    (in-turn ls m2 m1 (b ++ ns) a s2 (leaf-explained ls (b ++ ns) (m2 ++ a) (sign-leaf mark.Less p.1.0 ls less (refl, refl, refl) refl))
    (in-turn ds m3 m2 ((b ++ ns) ++ ls) a s3 (signed-explained p.1.1.0 ds ((b ++ ns) ++ ls) (m3 ++ a) literal)
    (in-turn es m4 m3 (((b ++ ns) ++ ls) ++ ds) a s4 (sign-unled mark.Semicolon p.1.1.1.0 es end refl (((b ++ ns) ++ ls) ++ ds) (m4 ++ a))
    (in-turn vs m5 m4 ((((b ++ ns) ++ ls) ++ ds) ++ es) a s5 (leaf-explained vs ((((b ++ ns) ++ ls) ++ ds) ++ es) (m5 ++ a) (again-leaf x p.1.1.1.1.0 vs again))
    (in-turn us cs m5 (((((b ++ ns) ++ ls) ++ ds) ++ es) ++ vs) a s6
    (leaf-explained us (((((b ++ ns) ++ ls) ++ ds) ++ es) ++ vs) (cs ++ a) (sign-leaf mark.Increment p.1.1.1.1.1.0 us increment (refl, refl, refl) refl))
    (sign-unled mark.CloseParenthesis p.1.1.1.1.1.1 cs closing refl ((((((b ++ ns) ++ ls) ++ ds) ++ es) ++ vs) ++ us) a))))))

-- what begins behind the parenthesis of the head
pub count-ends : (h : CountStart × CountEnd) (ts a : Tokens) → SpellsCount h ts → EndsWithin 6 (ts ++ a)
count-ends h ts a (us, vs, split, first, second) =
    subst (EndsWithin 6) (sym (ap (λ (l : Tokens). l ++ a) split ∙ append_assoc us vs a)) (start-ends h.0 us (vs ++ a) first)

pub count-explained : (h : CountStart × CountEnd) (b ts a : Tokens) → SpellsCount h ts → Explained b ts a
count-explained h b ts a (us, vs, split, first, second) =
    in-turn us vs ts b a split (start-explained h.0 b us (vs ++ a) first) (end-explained h.0.name.name h.1 (b ++ us) vs a second)
