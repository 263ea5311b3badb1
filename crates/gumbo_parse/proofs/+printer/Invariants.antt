use Rattle.std.proofs.Common.{◌≡◌, ◌++◌, map, take, drop}
use Rattle.std.specs.List.{flat_map}
use Rattle.gumbo_parse.specs.Allowed.{AreAllowed}
use Rattle.gumbo_parse.specs.ExpressionTokens.{selector_tokens}
use Rattle.gumbo_parse.specs.Printing.{selector_text}
use Rattle.gumbo_parse.proofs.+printer.Given as goal

abbrev pub invariant-print::print_parts-loop-part : goal.invariant-print::print_parts-loop-part
invariant-print::print_parts-loop-part l = record {
  text : l.out ++ flat_map (λ t. t) (map selector_text (drop l.part-index l.parts)) ≡ l.fn.out ++ flat_map (λ t. t) (map selector_text l.parts);
  allowed : AreAllowed (flat_map (λ ts. ts) (map selector_tokens (take l.part-index l.parts)));
}
