use Rattle.std.proofs.Common.{◌≡◌, drop}
use Rattle.std.specs.List.{list_any}
use Rattle.aadl_typing.specs.Flaws.{flaw_at}
use Rattle.aadl_typing.proofs.flaws.any_flaw.Given as goal

abbrev pub invariant-loop-row : goal.invariant-loop-row
invariant-loop-row l = list_any (flaw_at l.flaws) (drop l.row-index l.rows) ≡ list_any (flaw_at l.flaws) l.rows
