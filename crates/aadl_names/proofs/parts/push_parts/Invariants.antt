use Rattle.std.proofs.Common.{◌≡◌, ◌++◌, drop}
use Rattle.aadl_names.specs.TableRows.{part_rows}
use Rattle.aadl_names.proofs.parts.push_parts.Given as goal

abbrev pub invariant-loop-number : goal.invariant-loop-number
invariant-loop-number g l = l.rows ++ part_rows l.owner l.category l.number (drop l.number l.parts) ≡ l.fn.rows ++ part_rows l.owner l.category 0 l.parts
