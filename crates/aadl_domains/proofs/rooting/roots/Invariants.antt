use Rattle.std.proofs.Common.{◌≡◌, ◌++◌, drop}
use Rattle.aadl_domains.specs.Roots.{roots_from, roots_of}
use Rattle.aadl_domains.proofs.rooting.roots.Given as goal

abbrev pub invariant-loop-row : goal.invariant-loop-row
invariant-loop-row l = l.roots ++ roots_from l.tables l.resolved l.row (drop l.row l.tables.implementations) ≡ roots_of l.tables l.resolved
