-- Parts of which there is one at least (this project's own).
use Rattle.std.specs.Prelude.{List, ◌∷◌}
use Rattle.hw_text.specs.Language.{◌⋅◌, Each, Made}

abbrev pub all_of : {X : Type 0} → X × List X → List X
all_of p = p.0 ∷ p.1

-- x { x }
abbrev pub SomeOf : {T X : Type 0} → (X → List T → Type 0) → List X → List T → Type 0
SomeOf A = Made all_of (A ⋅ Each A)
