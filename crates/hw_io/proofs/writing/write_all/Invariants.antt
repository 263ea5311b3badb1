-- what went out so far is the front of the bytes
use Rattle.std.proofs.Common.{◌-◌, ◌≤◌, length, take}
use Rattle.hw_io.specs.Written.{Appends}
use Rattle.hw_io.proofs.writing.write_all.Given as goal

abbrev pub invariant-loop-done : goal.invariant-loop-done
invariant-loop-done g l = record {
  within : l.done ≤ length l.bytes;
  written : Appends (g.O.Sink.means l.fn.sink).written (g.O.Sink.means l.sink).written (take l.done l.bytes);
  counted : (g.O.Sink.means l.fn.sink).faults ≤ (g.O.Sink.means l.sink).faults;
}

abbrev pub decreases-loop-done : goal.decreases-loop-done
decreases-loop-done g l = length l.bytes - l.done
