use Rattle.std.proofs.Common.{◌≡◌, ◌++◌, take, drop}
use Rattle.std.specs.List.{flat_map}
use Rattle.gumbo_parse.specs.Allowed.{AreAllowed}
use Rattle.gumbo_parse.specs.Classes.{variable_text}
use Rattle.gumbo_parse.specs.ContractTokens.{variable_tokens}
use Rattle.gumbo_parse.proofs.print_class.print_variables.Given as goal

abbrev pub invariant-loop-variable : goal.invariant-loop-variable
invariant-loop-variable l = record {
  text : l.out ++ flat_map variable_text (drop l.variable-index l.variables) ≡ l.initial.out ++ flat_map variable_text l.variables;
  allowed : AreAllowed (flat_map variable_tokens (take l.variable-index l.variables));
}
