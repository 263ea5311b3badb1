use Rattle.std.proofs.Common.{ℕ, ◌+◌, [], ◌∷◌, refl, ap, ◌∙◌, arith, length-append}
use Rattle.aadl_typing.proofs.Beginning.{at_rest, ends_more, ends_all}
use Rattle.aadl_typing.proofs.ends.ends_of.Goals as goal

pub loop-start-init : goal.loop-start-init
loop-start-init c = record {
  rest = rw (c.in_ok-open_marks.ensures, c.new.ensures.items) (at_rest c.args.nexts.now);
  many = rw c.new-ends.ensures refl;
  each = λ n below. absurd (omega arith);
}

pub loop-start-preserved : goal.loop-start-preserved
loop-start-preserved c = record {
  rest = c.in_ok-end.ensures.rest;
  many = rw c.in_ok-push.ensures.ok (length-append c.loop-start.ends (c.in_ok-end.field-0 ∷ []) ∙ ap (λ (n : ℕ). n + 1) c.loop-start.invariant.many);
  each = rw c.in_ok-push.ensures.ok (ends_more c.args.nexts.now c.loop-start.ends c.in_ok-end.field-0 c.loop-start.start c.loop-start.invariant.many c.loop-start.invariant.each c.in_ok-end.ensures.end);
}

pub returns : goal.returns
returns c =
    ends_all c.args.nexts.now c.loop-start.ends c.loop-start.start c.loop-start.invariant.many c.loop-start.invariant.each c.loop-start-test.false
