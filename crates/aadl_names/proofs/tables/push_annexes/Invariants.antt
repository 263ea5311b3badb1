use Rattle.std.proofs.Common.{◌≡◌, ◌++◌, map, drop, Some}
use Rattle.aadl_names.specs.TableRows.{annex_row}
use Rattle.aadl_names.proofs.tables.push_annexes.Given as goal

abbrev pub invariant-loop-annex : goal.invariant-loop-annex
invariant-loop-annex l = l.rows ++ map (annex_row (Some l.holder)) (drop l.annex-index l.annexes) ≡ l.fn.rows ++ map (annex_row (Some l.holder)) l.annexes
