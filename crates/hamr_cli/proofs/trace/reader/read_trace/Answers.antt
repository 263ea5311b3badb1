use Rattle.std.proofs.Common.{length, sym, ap, subst, inl, inr, arith}
use Rattle.hamr_cli.specs.Trace.{NoLineBegins}
use Rattle.hamr_cli.specs.TraceFault.{IsMemory}
use Rattle.hamr_cli.proofs.TraceLines.{reads-line, trace-end, bad-end, none-begins-end}
use Rattle.hamr_cli.proofs.trace.reader.read_trace.Goals as goal

pub loop-rest-preserved : goal.loop-rest-preserved
loop-rest-preserved c =
    let line = c.in-Ok in
    reads-line c.args.arch.now _ _ _ line.line _ _ c.loop-rest.invariant line.ensures.fits line.ensures.found line.ensures.only c.in_ok-push-in-Ok.ensures.ok

pub returns-in-Err-BadLine-clause-only : goal.returns-in-Err-BadLine-clause-only
returns-in-Err-BadLine-clause-only c = λ lines trace.
    let none : NoLineBegins c.args.arch.now c.loop-rest.rest.now = λ line more fits e.
    subst IsMemory c.in-Err-BadLine.field-0-is (c.in-Err-BadLine.ensures.only line more fits e) in
    let end = trace-end c.args.arch.now _ _ _ c.loop-rest.invariant none lines trace in
    omega (arith, c.loop-rest-test.true, ap length end.1)

pub returns-in-Err-BadLine-clause-bad_only : goal.returns-in-Err-BadLine-clause-bad_only
returns-in-Err-BadLine-clause-bad_only c = λ number first.
    let none : NoLineBegins c.args.arch.now c.loop-rest.rest.now = λ line more fits e.
    subst IsMemory c.in-Err-BadLine.field-0-is (c.in-Err-BadLine.ensures.only line more fits e) in
    elim first [
      | inl above ↦ absurd (omega (arith, above.0, c.if-bytes-gt-LIMIT.false))
      | inr bad ↦ omega (arith, (bad-end c.args.arch.now _ _ _ c.loop-rest.invariant none number bad.1).0, c.len.ensures)
    ]

pub returns-clause-only : goal.returns-clause-only
returns-clause-only c = λ lines trace.
    let none = none-begins-end c.args.arch.now c.loop-rest.rest.now c.loop-rest-test.false in
    sym (trace-end c.args.arch.now _ _ _ c.loop-rest.invariant none lines trace).0
