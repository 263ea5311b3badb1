use Rattle.std.proofs.Common.{◌≡◌, ℕ, ◌<◌, length, get_or}
use Rattle.aadl_typing.specs.Walks.{IsFirstEnd}
use Rattle.aadl_typing.specs.Marks.{IsAtRest}
use Rattle.aadl_typing.proofs.ends.ends_of.Given as goal

abbrev pub invariant-loop-start : goal.invariant-loop-start
invariant-loop-start l = record {
  rest : IsAtRest l.nexts l.walk.marks.items l.walk.path.items;
  many : length l.ends ≡ l.start;
  each : (n : ℕ) → n < l.start → IsFirstEnd l.nexts n (get_or l.ends n n);
}
