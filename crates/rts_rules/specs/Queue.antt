-- The queue of an in port: what waits there, what a release does to it, and what a receive takes.
use Rattle.std.specs.Prelude.{ℕ, ℤ, Bool, ◌-◌, List, [], ◌∷◌, ◌++◌, length, take, drop, if◌then◌else◌}

-- the items that wait at a port, the oldest first; how many may wait (Queue_Size), whether a receive takes all of them or
-- one, and whether a link ends at the port
pub record Queue : Type 0 where
  pub room : ℕ
  pub whole : Bool
  pub linked : Bool
  pub items : List (List ℤ)

-- the last n members
abbrev pub newest : {X : Type 0} → ℕ → List X → List X
newest n xs = drop (length xs - n) xs

-- one item more; what there is no room for leaves at the front
abbrev pub appended : Queue → List ℤ → Queue
appended queue value = record queue { items = newest queue.room (queue.items ++ value ∷ []) }

-- what a receive takes
abbrev pub offered : Queue → List (List ℤ)
offered queue = if queue.whole then queue.items else take 1 queue.items

-- what it leaves
abbrev pub taken : Queue → Queue
taken queue = record queue { items = if queue.whole then [] else drop 1 queue.items }
