-- interrupted reads take nothing
use Rattle.std.specs.Io.KnownBytes.{Keeps}
use Rattle.hw_io.proofs.reading.read_some.Given as goal

abbrev pub invariant-loop : goal.invariant-loop
invariant-loop g l = Keeps (g.F.Read.remaining l.fn.source) (g.F.Read.remaining l.source)
