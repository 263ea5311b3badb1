use Rattle.std.proofs.Common.{arith}
use Rattle.std.proofs.lemmas.Grind.{common_steps}
use Rattle.hamr_cli.proofs.TraceValues.{value-split}
use Rattle.hamr_cli.proofs.trace.values.read_value.Goals as goal

pub returns-in_default-clause-only : goal.returns-in_default-clause-only
returns-in_default-clause-only c = λ value more h m e.
    let v = value-split value _ _ _ more h c.split_word.ensures.word c.split_word.ensures.ended m c.split_word.ensures.whole e in
    let none = c.in_default.ensures.only v.number v.bits v.text in
    cc

pub returns-clause-only : goal.returns-clause-only
returns-clause-only c = λ value more h m e.
    let v = value-split value _ _ _ more h c.split_word.ensures.word c.split_word.ensures.ended m c.split_word.ensures.whole e in
    let some = c.in-Some.ensures.only v.number v.bits v.text in
    (grind (arith, common_steps, some, v.is), v.back)
