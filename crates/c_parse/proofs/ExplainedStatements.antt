-- What stands behind the tokens of a statement behind which an expression may begin.
use Rattle.std.proofs.Common.{◌≡◌, ◌∙◌, refl, sym, ap, subst, List, ◌++◌, append_assoc, arith}
use Rattle.std.proofs.lemmas.Bool.{false≢true}
use Rattle.hw_text.specs.declared.place.Place.{Place}
use Rattle.c_tree.specs.declared.dialect.Dialect.TheVariants.{User}
use Rattle.c_tree.specs.declared.statement.Branch.{Branch}
use Rattle.c_tree.specs.declared.statement.Otherwise.{Otherwise}
use Rattle.c_tree.specs.declared.statement.Statement.{Statement}
use Rattle.c_parse.specs.declared.keyword.Keyword.TheVariants as keyword
use Rattle.c_parse.specs.declared.mark.Mark.TheVariants as mark
use Rattle.c_parse.specs.Values.{Tokens}
use Rattle.c_parse.specs.CallGrammar.{Word}
use Rattle.c_parse.specs.StatementGrammar.{SpellsStatement, SpellsStatements, SpellsBlock, SpellsBranch, SpellsElseIfs, SpellsOtherwise, plain, choice, loop, count, forever, no_statement, a_statement, block, branch, no_branch, else_if, no_else, an_else}
use Rattle.c_parse.specs.Outermost.{InStatement, InStatements, InBlock, InBranch, InElseIfs, InCondition, in_plain, in_first_branch, in_later_branch, in_else, in_loop, in_first, in_later, in_block, in_condition, in_body, in_first_link, in_later_link}
use Rattle.c_parse.proofs.Explained.{EndsWithin, Explained, in-turn, ends-soon}
use Rattle.c_parse.proofs.ExplainedCounts.{count-ends, count-explained}
use Rattle.c_parse.proofs.ExplainedPlains.{plain-explained, condition-explained}
use Rattle.c_parse.proofs.LeafTokens.{leaf-explained, sign-unled, sign-explained, word-leaf}
use Rattle.c_parse.proofs.Within.{Within, behind-tokens, before-tokens, around-tokens, regrouped}

grouped : (b us vs ws : Tokens) → b ++ (us ++ (vs ++ ws)) ≡ ((b ++ us) ++ vs) ++ ws
grouped b us vs ws = sym (append_assoc (b ++ us) vs ws ∙ append_assoc b us (vs ++ ws))

mutual
  pub statement-explained : (s : Statement) (b ts a : Tokens) → SpellsStatement User s ts → Within InStatement b a → Explained b ts a
  statement-explained s b ts a (plain f s' ts' text) within = plain-explained s b ts a text (λ us es vs there. within us es vs (in_plain us es vs there))
  statement-explained s b ts a (choice f first links o us vs ws s' ts' is fits split first_text links_text otherwise_text) within =
      let first_within =
      before-tokens InStatement InBranch b (vs ++ ws) a within
      (λ xs es ys there. in_first_branch links o xs es ys vs ws (ys ++ (vs ++ ws)) refl there links_text otherwise_text) in
      let links_within =
      around-tokens InStatement InElseIfs b us ws a within
      (λ xs es ys there. in_later_branch first o us xs (us ++ xs) es ys ws (ys ++ ws) refl refl first_text there otherwise_text) in
      in-turn us (vs ++ ws) ts b a split (branch-explained first b us ((vs ++ ws) ++ a) first_text first_within)
      (in-turn vs ws (vs ++ ws) (b ++ us) a refl (links-explained links (b ++ us) vs (ws ++ a) links_text links_within)
      (otherwise-explained o ((b ++ us) ++ vs) ws a otherwise_text
      (λ p os word. subst (λ (l : Tokens). Within InBlock l a) (grouped b us vs os)
      (behind-tokens InStatement InBlock b (us ++ (vs ++ os)) a within
      (λ xs es ys there. in_else first links p us vs os xs ((us ++ (vs ++ os)) ++ xs) es ys (regrouped us vs os xs) first_text links_text word there)))))
  statement-explained s b ts a (loop f p q fs os us s' ts' split word opening (count g h body hs vs t us' is next head block_text)) within =
      let body_within =
      subst (λ (l : Tokens). Within InBlock l a) (grouped b fs os hs)
      (behind-tokens InStatement InBlock b (fs ++ (os ++ hs)) a within
      (λ xs es ys there. in_loop p q h fs os hs xs ((fs ++ (os ++ hs)) ++ xs) es ys (regrouped fs os hs xs) word opening head there)) in
      in-turn fs (os ++ us) ts b a split (leaf-explained fs b ((os ++ us) ++ a) (word-leaf keyword.For refl p fs word))
      (in-turn os us (os ++ us) (b ++ fs) a refl
      (sign-explained mark.OpenParenthesis q os opening (b ++ fs) (us ++ a)
      (ends-soon 6 ((b ++ fs) ++ os) (us ++ a) (subst (EndsWithin 6) (sym (ap (λ (l : Tokens). l ++ a) next ∙ append_assoc hs vs a)) (count-ends h hs (vs ++ a) head)) (omega arith)))
      (in-turn hs vs us ((b ++ fs) ++ os) a next (count-explained h ((b ++ fs) ++ os) hs (vs ++ a) head)
      (block-explained body (((b ++ fs) ++ os) ++ hs) vs a block_text body_within)))
  statement-explained s b ts a (loop f p q fs os us s' ts' split word opening (forever g u body hs vs t us' wrong is next head block_text)) within = absurd (false≢true wrong)

  pub statements-explained : (ss : List Statement) (b ts a : Tokens) → SpellsStatements User ss ts → Within InStatements b a → Explained b ts a
  statements-explained ss b ts a (no_statement f all ts' is none) within = subst (λ (l : Tokens). Explained b l a) (sym none) tt
  statements-explained ss b ts a (a_statement f s rest us vs all ts' is split first later) within =
      in-turn us vs ts b a split
      (statement-explained s b us (vs ++ a) first
      (before-tokens InStatements InStatement b vs a within (λ xs es ys there. in_first rest xs es ys vs (ys ++ vs) refl there later)))
      (statements-explained rest (b ++ us) vs a later
      (behind-tokens InStatements InStatements b us a within (λ xs es ys there. in_later s us xs (us ++ xs) es ys refl first there)))

  block-explained : (ss : List Statement) (b ts a : Tokens) → SpellsBlock User ss ts → Within InBlock b a → Explained b ts a
  block-explained ss b ts a (block f p q ss' os us cs ts' split opening text closing) within =
      in-turn os (us ++ cs) ts b a split (sign-unled mark.OpenBrace p os opening refl b ((us ++ cs) ++ a))
      (in-turn us cs (us ++ cs) (b ++ os) a refl
      (statements-explained ss (b ++ os) us (cs ++ a) text
      (around-tokens InBlock InStatements b os cs a within (λ xs es ys there. in_block p q os xs (os ++ xs) es ys cs (ys ++ cs) refl refl opening there closing)))
      (sign-unled mark.CloseBrace q cs closing refl ((b ++ os) ++ us) a))

  branch-explained : (x : Branch) (b ts a : Tokens) → SpellsBranch User x ts → Within InBranch b a → Explained b ts a
  branch-explained x b ts a (branch f p c body is us vs x' ts' same split word condition block_text) within =
      in-turn is (us ++ vs) ts b a split (leaf-explained is b ((us ++ vs) ++ a) (word-leaf keyword.If refl p is word))
      (in-turn us vs (us ++ vs) (b ++ is) a refl
      (condition-explained c (b ++ is) us (vs ++ a) condition
      (around-tokens InBranch InCondition b is vs a within (λ xs es ys there. in_condition p body is xs (is ++ xs) es ys vs (ys ++ vs) refl refl word there block_text)))
      (block-explained body ((b ++ is) ++ us) vs a block_text
      (subst (λ (l : Tokens). Within InBlock l a) (sym (append_assoc b is us))
      (behind-tokens InBranch InBlock b (is ++ us) a within
      (λ xs es ys there. in_body p c is us xs ((is ++ us) ++ xs) es ys (append_assoc is us xs) word condition there)))))

  links-explained : (bs : List Branch) (b ts a : Tokens) → SpellsElseIfs User bs ts → Within InElseIfs b a → Explained b ts a
  links-explained bs b ts a (no_branch f all ts' is none) within = subst (λ (l : Tokens). Explained b l a) (sym none) tt
  links-explained bs b ts a (else_if f p x rest os us vs all ts' is split word first later) within =
      in-turn os (us ++ vs) ts b a split (leaf-explained os b ((us ++ vs) ++ a) (word-leaf keyword.Else refl p os word))
      (in-turn us vs (us ++ vs) (b ++ os) a refl
      (branch-explained x (b ++ os) us (vs ++ a) first
      (around-tokens InElseIfs InBranch b os vs a within (λ xs es ys there. in_first_link p rest os xs (os ++ xs) es ys vs (ys ++ vs) refl refl word there later)))
      (links-explained rest ((b ++ os) ++ us) vs a later
      (subst (λ (l : Tokens). Within InElseIfs l a) (sym (append_assoc b os us))
      (behind-tokens InElseIfs InElseIfs b (os ++ us) a within
      (λ xs es ys there. in_later_link p x os us xs ((os ++ us) ++ xs) es ys (append_assoc os us xs) word first there)))))

  otherwise-explained : (o : Otherwise) (b ts a : Tokens) → SpellsOtherwise User o ts → ((p : Place) (os : Tokens) → Word keyword.Else p os → Within InBlock (b ++ os) a) → Explained b ts a
  otherwise-explained o b ts a (no_else f o' ts' is none) within = subst (λ (l : Tokens). Explained b l a) (sym none) tt
  otherwise-explained o b ts a (an_else f p body os us o' ts' is split word text) within =
      in-turn os us ts b a split (leaf-explained os b (us ++ a) (word-leaf keyword.Else refl p os word))
      (block-explained body (b ++ os) us a text (within p os word))
