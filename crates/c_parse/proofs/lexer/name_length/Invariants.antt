use Rattle.std.proofs.Common.{◌≡◌, ◌+◌, length}
use Rattle.c_parse.specs.Tokens.{name_length}
use Rattle.c_parse.proofs.lexer.name_length.Given as goal

abbrev pub invariant-loop-first : goal.invariant-loop-first
invariant-loop-first l = record {
  same : l.count + name_length l.rest ≡ name_length l.bytes;
  within : l.count + length l.rest ≡ length l.bytes;
}

abbrev pub decreases-loop-first : goal.decreases-loop-first
decreases-loop-first l = length l.rest
