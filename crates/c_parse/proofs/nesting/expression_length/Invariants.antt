use Rattle.std.proofs.Common.{◌≡◌, ◌+◌, take, drop}
use Rattle.std.specs.Prelude.{count_by}
use Rattle.c_parse.specs.Nesting.{opens, closes, expression_length}
use Rattle.c_parse.proofs.Prefixes.{left}
use Rattle.c_parse.proofs.nesting.expression_length.Given as goal

abbrev pub invariant-loop-index : goal.invariant-loop-index
invariant-loop-index l = record {
  opened : l.brackets.opened ≡ count_by (λ t. opens t.token) (take l.index l.tokens);
  closed : l.brackets.closed ≡ count_by (λ t. closes t.token) (take l.index l.tokens);
  same : l.index + left (take l.index l.tokens) (drop l.index l.tokens) ≡ expression_length l.tokens;
}
