use Rattle.std.proofs.Common.{◌∙◌, ◌++◌, sym, ap, arith}
use Rattle.trace_text.proofs.Works.{left-one}
use Rattle.trace_text.proofs.pieces.pieces_of.Goals as goal

pub loop-step-preserved : goal.loop-step-preserved
loop-step-preserved c = record {
  listed = λ all are. c.in_ok-list_next.ensures.listed all are
      ∙ (ap (λ p. c.loop-step.pieces ++ p) (sym (left-one c.args.types.now all c.pop.new.self c.loop-step.left c.in-Some.work c.in-Some.ensures)) ∙ c.loop-step.invariant.listed all are);
  many = omega (arith, c.loop-step.invariant.many, c.in_ok-list_next.ensures.longer);
}
