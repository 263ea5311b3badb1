use Rattle.std.proofs.Common.{take}
use Rattle.std.specs.List.{All}
use Rattle.flow_paths.specs.Search.{StaysWithin}
use Rattle.flow_paths.proofs.senders.missing.Given as goal

abbrev pub invariant-loop-link : goal.invariant-loop-link
invariant-loop-link l = All (StaysWithin l.arch l.set) (take l.link-index l.link-items)
