-- What one of two parts stands for.
pub data Choice (X Y : Type 0) : Type 0 where
  First : X → Choice X Y
  Second : Y → Choice X Y
