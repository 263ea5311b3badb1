-- A sink in memory: when its writes fail, and what each leaves (this project's own).
use Rattle.std.specs.Prelude.{◌≡◌, ◌≢◌, ◌⊎◌, ◌≤◌, ◌-◌, ℕ, min, List, [], ◌++◌, length, take, Option, Some, None, Result, Ok, Err}
use Rattle.hw_io.specs.Count.{one_more}
use Rattle.hw_io.specs.declared.faults.SinkFault.{SinkFault}

pub record SinkState : Type 0 where
  pub bytes : List ℕ
  -- how many bytes there is room for, those that were written among them
  pub cap : ℕ
  -- how many writes there were
  pub writes : ℕ
  -- the number of the write that fails
  pub failing_write : Option ℕ
  pub faults : ℕ

-- nothing is written, and no write fails while there is room
abbrev pub empty_sink : ℕ → SinkState
empty_sink cap = record { bytes = []; cap = cap; writes = 0; failing_write = None; faults = 0 }

-- how many bytes of a piece find room
abbrev pub fitting : SinkState → List ℕ → ℕ
fitting s piece = min (s.cap - length s.bytes) (length piece)

-- a write fails at its number, and where a piece that has bytes finds no room at all
abbrev pub Fails : SinkState → List ℕ → Type 0
Fails s piece = (s.failing_write ≡ Some s.writes) ⊎ ((s.cap ≤ length s.bytes) × (piece ≢ []))

-- what a write leaves
abbrev pub after_write : SinkState → List ℕ → Result ℕ SinkFault → SinkState
after_write s piece (Ok n) = record s { bytes = s.bytes ++ take n piece; writes = one_more s.writes }
after_write s piece (Err fault) = record s { writes = one_more s.writes; faults = one_more s.faults }
