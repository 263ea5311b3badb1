use Rattle.std.proofs.Common.{◌≡◌, ℕ, List, Some, slice_get, refl, subst}
use Rattle.arch_model.specs.declared.id.PortId.{PortId}
use Rattle.rts_rules.specs.ThreadRules.{GoesOn}
use Rattle.rts_rules.proofs.thread.Thread.receives_next.Goals as goal

pub returns-then-is_at : goal.returns-then-is_at
returns-then-is_at c = (
  (λ goes. record {
    next = record {
      number = c.in-Receiving.number;
      phase = c.in-Receiving.is;
      next = subst (λ (order : List PortId). slice_get order c.in-Receiving.number ≡ Some c.args.port) c.rows.ensures (c.if-is_at.ensures.0 refl);
    };
    arrived = c.goes_on.ensures.0 goes;
  }),
  (λ receive.
      let same : receive.next.number ≡ c.in-Receiving.number = cc (receive.next.phase, c.in-Receiving.is) in
      c.goes_on.ensures.1 (subst (λ (number : ℕ). GoesOn c.args.role c.args.self.now number) same receive.arrived)),
)
