use Rattle.std.proofs.Common.{◌≡◌, ◌≤◌, ◌<◌, ℕ, take, None}
use Rattle.gumbo_parse.specs.declared.flaw.Spot.TheVariants.{Outside}
use Rattle.gumbo_parse.specs.Flaws.{open_behind, spot_after, length_in, flaw_at}
use Rattle.gumbo_parse.proofs.flaw.first_flawed.Given as goal

abbrev pub invariant-loop-index : goal.invariant-loop-index
invariant-loop-index l = record {
  counted : l.depth ≡ open_behind 0 (take l.index l.tokens);
  stands : l.spot ≡ spot_after Outside (take l.index l.tokens);
  shallow : l.depth ≤ 64;
  short : length_in l.spot ≤ 500;
  sound : (k : ℕ) → k < l.index → flaw_at l.tokens k ≡ None;
}
