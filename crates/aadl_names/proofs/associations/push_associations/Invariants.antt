use Rattle.std.proofs.Common.{◌≡◌, ◌++◌, map, drop}
use Rattle.aadl_names.specs.TableRows.{association_row}
use Rattle.aadl_names.proofs.associations.push_associations.Given as goal

abbrev pub invariant-loop-association : goal.invariant-loop-association
invariant-loop-association l = l.rows ++ map (association_row l.holder) (drop l.association-index l.associations) ≡ l.fn.rows ++ map (association_row l.holder) l.associations
