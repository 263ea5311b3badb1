use Rattle.std.proofs.Common.{◌≡◌, drop}
use Rattle.aadl_names.specs.TableRows.{tables_of}
use Rattle.aadl_names.proofs.Walked.{walked}
use Rattle.aadl_names.proofs.walk.declared.Given as goal

abbrev pub invariant-loop-declaration : goal.invariant-loop-declaration
invariant-loop-declaration l = walked l.tables (drop l.declaration-index l.model.declarations) ≡ tables_of l.model
