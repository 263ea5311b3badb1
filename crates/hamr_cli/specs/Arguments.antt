-- Which words the arguments of the process are (this project's own).
use Rattle.std.specs.Prelude.{◌≡◌, ◌≢◌, ◌⊎◌, ℕ, List, [], map, drop, Result, Ok, Err}
use Rattle.std.specs.String.{string_bytes}
use Rattle.std.specs.Iterator.{Drains}
use Rattle.std.specs.Vec.Iter.{into_iter_steps}
use Rattle.std.specs.IoError.{error_kind}
use Rattle.std.specs.declared.string.String.{String}
use Rattle.std.specs.declared.vec.IntoIter.{IntoIter}
use Rattle.std.specs.declared.io.Error.{Error}
use Rattle.std.specs.declared.io.ErrorKind.TheVariants.{OutOfMemory}
use Rattle.hamr_cli.specs.declared.status.Status.{Status}
use Rattle.hamr_cli.specs.Answer.{IsAnswer, IsSilent}
use Rattle.hamr_cli.specs.Outside.{Outside}

-- all arguments but the first, which is the program's name
abbrev pub AreBehindTheName : {Y Z : Type 0} → IntoIter (String Y) Z → List (List ℕ) → Type 0
AreBehindTheName {Y} {Z} args words = (texts : List (String Y)) × Drains (into_iter_steps {X = String Y} {Z = Z}) args texts × (words ≡ map string_bytes (drop 1 texts))

-- none where they can't be had, unless for want of memory
abbrev pub AreWords : {Y Z : Type 0} → Result (IntoIter (String Y) Z) Error → List (List ℕ) → Type 0
AreWords (Ok args) words = AreBehindTheName args words
AreWords (Err error) words = (error_kind error ≢ OutOfMemory) × (words ≡ [])

-- the answer to the words
pub record AnswersWords {Y Z : Type 0} (args : Result (IntoIter (String Y) Z) Error) (before after : Outside) (answer : Status) : Type 0 where
  pub words : List (List ℕ)
  pub are_words : AreWords args words
  pub answers : IsAnswer words before after answer

abbrev pub AnswersArguments : {Y Z : Type 0} → Result (IntoIter (String Y) Z) Error → Outside → Outside → Status → Type 0
AnswersArguments args before after answer = AnswersWords args before after answer ⊎ IsSilent before after answer
