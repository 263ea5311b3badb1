use Rattle.std.proofs.Common.{◌≡◌, ◌≤◌, ◌<◌, ℕ, take, None}
use Rattle.aadl_parse.specs.Flaws.{open_behind, flaw_at}
use Rattle.aadl_parse.proofs.flaw.first_flawed.Given as goal

abbrev pub invariant-loop-index : goal.invariant-loop-index
invariant-loop-index l = record {
  counted : l.depth ≡ open_behind 0 (take l.index l.tokens);
  shallow : l.depth ≤ 64;
  sound : (k : ℕ) → k < l.index → flaw_at l.tokens k ≡ None;
}
