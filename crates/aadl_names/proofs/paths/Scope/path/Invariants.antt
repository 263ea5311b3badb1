use Rattle.std.proofs.Common.{◌≡◌, drop}
use Rattle.aadl_names.specs.Meanings.{path_from, path_row}
use Rattle.aadl_names.proofs.paths.Scope.path.Given as goal

abbrev pub invariant-loop-next : goal.invariant-loop-next
invariant-loop-next l =
    path_from l.self.references.now l.self.resolved.now l.self.tables.now l.within l.last (drop l.next-index l.path.others)
    ≡ path_row l.self.references.now l.self.resolved.now l.self.tables.now l.fn.from l.path
