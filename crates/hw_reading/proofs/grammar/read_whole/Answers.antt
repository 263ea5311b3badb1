use Rattle.std.proofs.Common.{refl, sym, subst, ◌∙◌, ℕ, ◌-◌, length, List}
use Rattle.std.proofs.Common.{Err}
use Rattle.hw_text.specs.declared.placed.Placed.{Placed}
use Rattle.hw_text.specs.declared.read_fault.ReadFault.{ReadFault}
use Rattle.hw_text.specs.Reading.{Reached, Stuck, Reads, TheEnd}
use Rattle.hw_text.specs.WholeLists.{GoesNoFurther}
use Rattle.hw_text.proofs.WholeLists.{all-read, read-further, stuck-further}
use Rattle.hw_reading.proofs.grammar.read_whole.Goals as goal

pub returns-then-left-eq0 : goal.returns-then-left-eq0
returns-then-left-eq0 g c =
    let A = g.G.Grammar.spells c.args.grammar.now in
    let so = subst (λ (ts : List (Placed _)). Reached A TheEnd ts c.read.new.tokens c.in-Ok.value) c.new-cursor.ensures c.in-Ok.ensures in
    all-read A TheEnd refl c.args.tokens.now c.read.new.tokens c.in-Ok.value (sym c.left.ensures ∙ c.if-left-eq0.true) so

pub returns-else-left-eq0 : goal.returns-else-left-eq0
returns-else-left-eq0 g c =
    let A = g.G.Grammar.spells c.args.grammar.now in
    let ts = c.args.tokens.now in
    let so = subst (λ (l : List (Placed _)). Reached A TheEnd l c.read.new.tokens c.in-Ok.value) c.new-cursor.ensures c.in-Ok.ensures in
    subst (λ (n : ℕ). GoesNoFurther A ts (length ts - n)) (sym c.left-else-left-eq0.ensures)
    (read-further A TheEnd refl ts c.read.new.tokens c.in-Ok.value (λ none. c.if-left-eq0.false (c.left.ensures ∙ none)) so)

pub returns-in-Err-Syntax : goal.returns-in-Err-Syntax
returns-in-Err-Syntax g c =
    let A = g.G.Grammar.spells c.args.grammar.now in
    let ts = c.args.tokens.now in
    let stuck = subst (λ (e : ReadFault). Reads A TheEnd c.new-cursor.result c.read.new.tokens (Err e)) c.in-Err-Syntax.field-0-is c.in-Err-Syntax.ensures in
    let so = subst (λ (l : List (Placed _)). Stuck A TheEnd l c.read.new.tokens) c.new-cursor.ensures stuck in
    subst (λ (n : ℕ). GoesNoFurther A ts (length ts - n)) (sym c.left-in-Err-Syntax.ensures)
    (stuck-further A TheEnd refl ts c.read.new.tokens so)
