use Rattle.std.proofs.Common.{◌≡◌, ◌+◌, drop}
use Rattle.gumbo_parse.specs.Refusals.{span}
use Rattle.gumbo_parse.proofs.refusals.span.Given as goal

abbrev pub invariant-loop-placed : goal.invariant-loop-placed
invariant-loop-placed l = record {
  counted : l.count ≡ l.placed-index;
  same : l.count + span (drop l.placed-index l.tokens) ≡ span l.tokens;
}
