use Rattle.std.proofs.Common.{◌≡◌, ◌+◌, false, cond}
use Rattle.aadl_typing.specs.Marked.{IsSound, AreDone, flawless_count}
use Rattle.aadl_typing.proofs.flaws.flaws_of.Given as goal

abbrev pub invariant-loop-open : goal.invariant-loop-open
invariant-loop-open l = record {
  sound : IsSound l.rows l.flaws.items;
  done : l.open ≡ false → AreDone l.rows l.flaws.items;
}

abbrev pub decreases-loop-open : goal.decreases-loop-open
decreases-loop-open l = flawless_count l.flaws.items + cond l.open 1 0
