-- the files that are left decide what the name has
use Rattle.std.proofs.Common.{◌≡◌, drop}
use Rattle.hw_io.specs.MemStore.{held_in}
use Rattle.hw_io.proofs.mem_store.MemStore.held.Given as goal

abbrev pub invariant-loop-file : goal.invariant-loop-file
invariant-loop-file l = held_in (drop l.file-index l.file-items) l.name ≡ held_in l.file-items l.name
