use Rattle.std.proofs.Common.{◌≡◌, ◌<◌, ℕ, take, None}
use Rattle.std.specs.Prelude.{count_by}
use Rattle.c_parse.specs.Flaws.{flaw_at}
use Rattle.c_parse.specs.Nesting.{opens, closes}
use Rattle.c_parse.proofs.flaws.first_flawed.Given as goal

abbrev pub invariant-loop-index : goal.invariant-loop-index
invariant-loop-index l = record {
  opened : l.brackets.opened ≡ count_by (λ t. opens t.token) (take l.index l.tokens);
  closed : l.brackets.closed ≡ count_by (λ t. closes t.token) (take l.index l.tokens);
  sound : (k : ℕ) → k < l.index → flaw_at l.dialect l.tokens k ≡ None;
}
