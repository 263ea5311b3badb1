-- The files that a command writes, and what a store holds once some of them are written (this project's own).
use Rattle.std.specs.Prelude.{◌≡◌, ◌≢◌, ℕ, ◌<◌, ◌≤◌, List, Some, slice_get, true}
use Rattle.hw_io.specs.Meaning.{StoreMeaning}

-- a name and the bytes that it is given
pub record File : Type 0 where
  pub name : List ℕ
  pub bytes : List ℕ

-- so many files are written, the next may hold anything, and all other names are as they were
pub record HasWritten (before after : StoreMeaning) (files : List File) (done : ℕ) : Type 0 where
  pub written : after.tells ≡ true → (place : ℕ) (file : File) → slice_get files place ≡ Some file → place < done → after.held file.name ≡ Some file.bytes
  pub others : (name : List ℕ) → ((place : ℕ) (file : File) → slice_get files place ≡ Some file → place ≤ done → file.name ≢ name) → after.held name ≡ before.held name

-- each name holds what it held
abbrev pub HoldsTheSame : StoreMeaning → StoreMeaning → Type 0
HoldsTheSame before after = (name : List ℕ) → after.held name ≡ before.held name
