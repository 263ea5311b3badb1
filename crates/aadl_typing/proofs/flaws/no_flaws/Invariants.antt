use Rattle.std.proofs.Common.{◌≡◌, ◌++◌, drop}
use Rattle.aadl_typing.specs.Marked.{no_flaws}
use Rattle.aadl_typing.proofs.flaws.no_flaws.Given as goal

abbrev pub invariant-loop-row : goal.invariant-loop-row
invariant-loop-row l = l.flaws.items ++ no_flaws (drop l._row-index l.rows) ≡ no_flaws l.rows
