-- What a store and a sink mean: all that contracts know of one (this project's own).
use Rattle.std.specs.Prelude.{ℕ, Bool, List, Option}
use Rattle.hw_io.specs.Count.{HasRisen}

pub record StoreMeaning : Type 0 where
  -- whether contracts see what is held
  pub tells : Bool
  -- the bytes of a name, where there are any
  pub held : List ℕ → Option (List ℕ)
  -- how often reads of a name have failed
  pub read_faults : List ℕ → ℕ
  -- how often writes of a name have failed
  pub write_faults : List ℕ → ℕ
  -- how often a read of a name found nothing there
  pub absences : List ℕ → ℕ

pub record SinkMeaning : Type 0 where
  -- the bytes that were written, where contracts see them
  pub written : Option (List ℕ)
  -- how often writes have failed
  pub faults : ℕ

-- a read of the name failed between these two
abbrev pub ReadFailed : StoreMeaning → StoreMeaning → List ℕ → Type 0
ReadFailed old new name = HasRisen (old.read_faults name) (new.read_faults name)

-- a write of the name failed between these two
abbrev pub WriteFailed : StoreMeaning → StoreMeaning → List ℕ → Type 0
WriteFailed old new name = HasRisen (old.write_faults name) (new.write_faults name)

-- a read found nothing at the name between these two
abbrev pub FoundNothing : StoreMeaning → StoreMeaning → List ℕ → Type 0
FoundNothing old new name = HasRisen (old.absences name) (new.absences name)

-- a write to the sink failed between these two
abbrev pub SinkFailed : SinkMeaning → SinkMeaning → Type 0
SinkFailed old new = HasRisen old.faults new.faults
