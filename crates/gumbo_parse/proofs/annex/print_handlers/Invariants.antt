use Rattle.std.proofs.Common.{◌≡◌, ◌++◌, take, drop}
use Rattle.std.specs.List.{flat_map}
use Rattle.gumbo_parse.specs.Allowed.{AreAllowed}
use Rattle.gumbo_parse.specs.Annex.{handler_text}
use Rattle.gumbo_parse.specs.ContractTokens.{handler_tokens}
use Rattle.gumbo_parse.proofs.annex.print_handlers.Given as goal

abbrev pub invariant-loop-handler : goal.invariant-loop-handler
invariant-loop-handler l = record {
  text : l.out ++ flat_map handler_text (drop l.handler-index l.handlers) ≡ l.initial.out ++ flat_map handler_text l.handlers;
  allowed : AreAllowed (flat_map handler_tokens (take l.handler-index l.handlers));
}
