use Rattle.std.proofs.Common.{◌≡◌, ◌++◌, take, drop}
use Rattle.std.specs.List.{flat_map}
use Rattle.gumbo_parse.specs.Allowed.{AreAllowed}
use Rattle.gumbo_parse.specs.Annex.{clause_text}
use Rattle.gumbo_parse.specs.ContractTokens.{clause_tokens}
use Rattle.gumbo_parse.proofs.annex.print_clauses.Given as goal

abbrev pub invariant-loop-clause : goal.invariant-loop-clause
invariant-loop-clause l = record {
  text : l.out ++ flat_map clause_text (drop l.clause-index l.clauses) ≡ l.initial.out ++ flat_map clause_text l.clauses;
  allowed : AreAllowed (flat_map clause_tokens (take l.clause-index l.clauses));
}
