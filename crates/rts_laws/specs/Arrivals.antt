-- What arrived at a port, and what left it.
use Rattle.std.specs.Prelude.{◌≡◌, ℤ, true, List, [], ◌∷◌, ◌++◌}
use Rattle.rts_rules.specs.Queue.{Queue}
use Rattle.rts_laws.specs.Parts.{AtPort, Arrives, Leaves}

-- the values that arrived, in their order
abbrev pub arrived : List AtPort → List (List ℤ)
arrived [] = []
arrived (Arrives value ∷ later) = value ∷ arrived later
arrived (Leaves items ∷ later) = arrived later

-- of what arrived some is gone, then come the items that leave, and what is newer; where a receive takes all, nothing is
pub record LeaveInOrder (queue : Queue) (before : List AtPort) (items : List (List ℤ)) : Type 0 where
  pub gone : List (List ℤ)
  pub newer : List (List ℤ)
  pub all : arrived before ≡ gone ++ (items ++ newer)
  pub newest : queue.whole ≡ true → newer ≡ []
