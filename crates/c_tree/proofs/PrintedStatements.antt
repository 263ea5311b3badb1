-- What is printed of statements with blocks.
use Rattle.std.proofs.Common.{◌≡◌, ℕ, List, ◌++◌, map, Result, Ok, Err, sym, ap, ◌∙◌, append_assoc}
use Rattle.std.specs.Prelude.{OnOk}
use Rattle.hw_text.specs.declared.no_memory.NoMemory.{NoMemory}
use Rattle.hw_text.specs.declared.place.Place.{Place}
use Rattle.c_tree.specs.Statements.{Lines, block_text, count_text, forever_text, otherwise_step, statement_step, branch_step, statement_text}
use Rattle.c_tree.specs.declared.integer_type.IntegerType.{IntegerType}
use Rattle.c_tree.specs.declared.named.Named.{Named}
use Rattle.c_tree.specs.declared.named.SignedLiteral.{SignedLiteral}
use Rattle.c_tree.specs.declared.statement.Otherwise.TheFolds.{fold-roll-Statement}
use Rattle.c_tree.specs.declared.statement.Otherwise.TheOpen as opened
use Rattle.c_tree.specs.declared.statement.Statement.{Statement}
use Rattle.c_tree.specs.declared.statement.Statement.TheVariants as statement

on-ok : (r : Result (Unit {0}) NoMemory) (P Q : Type 0) → (P → Q) → OnOk r P → OnOk r Q
on-ok (Ok u) P Q make p = make p
on-ok (Err e) P Q make p = p

text-of : (x : Statement) (margin head : List ℕ) (body rows : List Statement) (old mid new : List ℕ) → statement_text x margin ≡ head ++ block_text (map statement_text body) margin → mid ≡ old ++ head → rows ≡ body → new ≡ mid ++ block_text (map statement_text rows) margin → new ≡ old ++ statement_text x margin
text-of x margin head body rows old mid new is begun same ended =
    ended ∙ ap (λ (bs : List Statement). mid ++ block_text (map statement_text bs) margin) same ∙
    ap (λ (l : List ℕ). l ++ block_text (map statement_text body) margin) begun ∙
    append_assoc old head (block_text (map statement_text body) margin) ∙ ap (λ (l : List ℕ). old ++ l) (sym is)

-- a head and a block make the text of a loop
pub count-printed : (r : Result (Unit {0}) NoMemory) (x : Statement) (class : IntegerType) (n : Named) (from : SignedLiteral) (at : Place) (below : SignedLiteral) (body rows : List Statement) (margin old mid new : List ℕ) → x ≡ statement.Count class n from at below body → mid ≡ old ++ count_text class n from below → rows ≡ body → OnOk r (new ≡ mid ++ block_text (map statement_text rows) margin) → OnOk r (new ≡ old ++ statement_text x margin)
count-printed r x class n from at below body rows margin old mid new is begun same ended =
    let text_is : statement_text x margin ≡ count_text class n from below ++ block_text (map statement_text body) margin =
    ap (λ (s : Statement). statement_text s margin) (is ∙ sym (statement.rolls-Count class n from at below body)) ∙
    ap (λ (t : Lines). t margin) (fold-roll-Statement Lines Lines Lines otherwise_step statement_step branch_step (opened.Count class n from at below body)) in
    on-ok r (new ≡ mid ++ block_text (map statement_text rows) margin) (new ≡ old ++ statement_text x margin)
    (λ e. text-of x margin (count_text class n from below) body rows old mid new text_is begun same e) ended

pub forever-printed : (r : Result (Unit {0}) NoMemory) (x : Statement) (body rows : List Statement) (margin old mid new : List ℕ) → x ≡ statement.Forever body → mid ≡ old ++ forever_text → rows ≡ body → OnOk r (new ≡ mid ++ block_text (map statement_text rows) margin) → OnOk r (new ≡ old ++ statement_text x margin)
forever-printed r x body rows margin old mid new is begun same ended =
    let text_is : statement_text x margin ≡ forever_text ++ block_text (map statement_text body) margin =
    ap (λ (s : Statement). statement_text s margin) (is ∙ sym (statement.rolls-Forever body)) ∙
    ap (λ (t : Lines). t margin) (fold-roll-Statement Lines Lines Lines otherwise_step statement_step branch_step (opened.Forever body)) in
    on-ok r (new ≡ mid ++ block_text (map statement_text rows) margin) (new ≡ old ++ statement_text x margin)
    (λ e. text-of x margin forever_text body rows old mid new text_is begun same e) ended
