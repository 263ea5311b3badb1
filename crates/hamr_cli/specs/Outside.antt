-- The outside of a call at one moment: the store and the sink that it was lent.
use Rattle.hw_io.specs.Meaning.{StoreMeaning, SinkMeaning}

pub record Outside : Type 0 where
  pub store : StoreMeaning
  pub sink : SinkMeaning

abbrev pub outside : StoreMeaning → SinkMeaning → Outside
outside store sink = record { store = store; sink = sink }
