use Rattle.std.proofs.Common.{◌∙◌, refl, sym, subst, ℕ, ◌-◌, length, List}
use Rattle.hw_text.specs.declared.placed.Placed.{Placed}
use Rattle.hw_text.specs.Reading.{Reached, Stuck, Reads}
use Rattle.hw_text.specs.declared.read_fault.ReadFault.{ReadFault}
use Rattle.std.proofs.Common.{Err}
use Rattle.c_parse.specs.declared.token.Token.{Token}
use Rattle.hw_text.specs.Reading.{TheEnd}
use Rattle.c_parse.specs.UnitGrammar.{SpellsUnit}
use Rattle.hw_text.specs.WholeLists.{GoesNoFurther}
use Rattle.hw_text.proofs.WholeLists.{all-read, read-further, stuck-further}
use Rattle.c_parse.proofs.whole.read_whole.Goals as goal

pub returns-then-left-eq0 : goal.returns-then-left-eq0
returns-then-left-eq0 c =
    let A = SpellsUnit c.args.dialect c.args.end in
    let F = TheEnd in
    let so = subst (λ (ts : List (Placed Token)). Reached A F ts c.unit.new.tokens c.in-Ok.value) c.new-cursor.ensures c.in-Ok.ensures in
    all-read A F refl c.args.tokens.now c.unit.new.tokens c.in-Ok.value (sym c.left.ensures ∙ c.if-left-eq0.true) so

pub returns-else-left-eq0 : goal.returns-else-left-eq0
returns-else-left-eq0 c =
    let A = SpellsUnit c.args.dialect c.args.end in
    let F = TheEnd in
    let ts = c.args.tokens.now in
    let so = subst (λ (l : List (Placed Token)). Reached A F l c.unit.new.tokens c.in-Ok.value) c.new-cursor.ensures c.in-Ok.ensures in
    subst (λ (n : ℕ). GoesNoFurther A ts (length ts - n)) (sym c.left-else-left-eq0.ensures)
    (read-further A F refl ts c.unit.new.tokens c.in-Ok.value (λ none. c.if-left-eq0.false (c.left.ensures ∙ none)) so)

pub returns-in-Err-Syntax : goal.returns-in-Err-Syntax
returns-in-Err-Syntax c =
    let A = SpellsUnit c.args.dialect c.args.end in
    let F = TheEnd in
    let ts = c.args.tokens.now in
    let stuck = subst (λ (e : ReadFault). Reads A F c.new-cursor.result c.unit.new.tokens (Err e)) c.in-Err-Syntax.field-0-is c.in-Err-Syntax.ensures in
    let so = subst (λ (l : List (Placed Token)). Stuck A F l c.unit.new.tokens) c.new-cursor.ensures stuck in
    subst (λ (n : ℕ). GoesNoFurther A ts (length ts - n)) (sym c.left-in-Err-Syntax.ensures)
    (stuck-further A F refl ts c.unit.new.tokens so)
