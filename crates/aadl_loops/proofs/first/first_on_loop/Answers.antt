use Rattle.std.proofs.Common.{ℕ, inl, inr, below_more, length, arith}
use Rattle.std.proofs.lemmas.Bool.{cases_lt, iff_false}
use Rattle.aadl_loops.specs.Loops.{IsOnLoop}
use Rattle.aadl_loops.proofs.Ways.{no_loop_past}
use Rattle.aadl_loops.proofs.first.first_on_loop.Goals as goal

pub loop-row-preserved : goal.loop-row-preserved
loop-row-preserved c =
    below_more (λ (k : ℕ). IsOnLoop c.args.edges.now k → ⊥) c.loop-row.row c.loop-row.invariant (iff_false c.in_ok-is_on_loop.ensures c.if-branch.false)

pub returns : goal.returns
returns c = λ n loop. elim (cases_lt n (length c.args.edges.now)) [
  | inl inside ↦ c.loop-row.invariant n (omega arith) loop
  | inr past ↦ no_loop_past c.args.edges.now n past loop
]
