use Rattle.std.proofs.Common.{◌≡◌, ◌++◌, take, drop}
use Rattle.std.specs.List.{flat_map}
use Rattle.gumbo_parse.specs.Allowed.{AreAllowed}
use Rattle.gumbo_parse.specs.Classes.{behind_colons}
use Rattle.gumbo_parse.specs.ContractTokens.{step_tokens}
use Rattle.gumbo_parse.proofs.print_class.print_path.Given as goal

abbrev pub invariant-loop-name : goal.invariant-loop-name
invariant-loop-name l = record {
  text : l.out ++ flat_map behind_colons (drop l.name-index l.names) ≡ l.initial.out ++ flat_map behind_colons l.names;
  allowed : AreAllowed (flat_map step_tokens (take l.name-index l.names));
}
