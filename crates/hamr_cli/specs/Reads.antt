-- What a command reads: which file behind which others, each of which was accepted (this project's own; README).
use Rattle.std.specs.Prelude.{◌≡◌, ◌⊎◌, ℕ, true, List, [], ◌∷◌, Option}
use Rattle.aadl_tree.specs.declared.package.Package.{Package}
use Rattle.hw_io.specs.Meaning.{StoreMeaning}
use Rattle.hamr_cli.specs.Command.{Command, judge, tidy}
use Rattle.hamr_cli.specs.ModelFile.{HoldsPackage}
use Rattle.hamr_cli.specs.Package.{IsThin}

-- the words of the command name the file
abbrev pub Names : Command → List ℕ → Type 0
Names (judge model trace) file = (file ≡ model) ⊎ (file ≡ trace)
Names (tidy model) file = file ≡ model

-- nothing is read before the file
abbrev pub IsFirst : List ℕ → List (List ℕ) → List ℕ → Type 0
IsFirst first before file = (before ≡ []) × (file ≡ first)

-- the file holds a model by which traces are judged
pub record HoldsThin (held : List ℕ → Option (List ℕ)) (model : List ℕ) : Type 0 where
  pub tree : Package
  pub is_model : HoldsPackage held model tree
  pub is_thin : IsThin tree

-- the trace is read behind the model, where that is one to judge by
pub record IsTraceNext (held : List ℕ → Option (List ℕ)) (model trace : List ℕ) (before : List (List ℕ)) (file : List ℕ) : Type 0 where
  pub behind : before ≡ model ∷ []
  pub is_trace : file ≡ trace
  pub thin : HoldsThin held model

-- behind these files, each of which is accepted, the command reads this one
abbrev pub ReadsNext : (List ℕ → Option (List ℕ)) → Command → List (List ℕ) → List ℕ → Type 0
ReadsNext held (judge model trace) before file = IsFirst model before file ⊎ IsTraceNext held model trace before file
ReadsNext held (tidy model) before file = IsFirst model before file

-- the command comes to read the file
abbrev pub Reads : (List ℕ → Option (List ℕ)) → Command → List ℕ → Type 0
Reads held command file = (before : List (List ℕ)) × ReadsNext held command before file

-- it was the file's turn, as far as the store tells
pub record IsTurnOf (store : StoreMeaning) (command : Command) (file : List ℕ) : Type 0 where
  pub named : Names command file
  pub reads : store.tells ≡ true → Reads store.held command file

-- the store tells what the output of the command rests on, or the command reads nothing
abbrev pub TellsInput : StoreMeaning → Command → Type 0
TellsInput store command = (store.tells ≡ true) ⊎ ((file : List ℕ) → Names command file → ⊥)
