-- what was taken so far stands in the bytes, within the limit
use Rattle.std.proofs.Common.{◌≤◌, length}
use Rattle.std.specs.Io.KnownBytes.{Consumes}
use Rattle.hw_io.specs.FileReading.{limit}
use Rattle.hw_io.proofs.reading.read_whole.Given as goal

abbrev pub invariant-loop : goal.invariant-loop
invariant-loop g l = record {
  taken : Consumes (g.F.Read.remaining l.fn.source) (g.F.Read.remaining l.source) l.bytes;
  within : length l.bytes ≤ limit;
}
