-- What is known of an open file that was read, where contracts see its bytes (this project's own).
use Rattle.std.specs.Prelude.{◌≡◌, ◌<◌, ◌≤◌, ℕ, List, length, Option, IfSome, Result, Ok, Err, ⊤}
use Rattle.hw_io.specs.declared.file_fault.FileFault.{FileFault}
use Rattle.hw_io.specs.declared.file_fault.FileFault.TheVariants as fault

-- how many bytes are read at most: 128 MiB
abbrev pub limit : ℕ
limit = 134217728

-- all of its bytes are read, if they are within the limit; it is told too long where it goes past that; and it is not told absent
abbrev pub ReadsWhole : Option (List ℕ) → Result (List ℕ) FileFault → Type 0
ReadsWhole held (Ok bytes) = IfSome held (λ all. bytes ≡ all) × (length bytes ≤ limit)
ReadsWhole held (Err fault.Absent) = ⊥
ReadsWhole held (Err fault.Failed) = ⊤
ReadsWhole held (Err fault.TooLong) = IfSome held (λ all. limit < length all)
ReadsWhole held (Err fault.NoMemory) = ⊤
