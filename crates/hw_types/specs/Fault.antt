-- Facts by the cause of a type without a layout.
use Rattle.std.specs.Prelude.{ℕ}
use Rattle.hw_types.specs.declared.fault.TypeFault.{TypeFault}
use Rattle.hw_types.specs.declared.fault.TypeFault.TheVariants as fault

-- the fact holds of the number that is told
abbrev pub IfTooWide : (ℕ → Type 0) → TypeFault → Type 0
IfTooWide P (fault.TooWide count) = P count
IfTooWide P fault.NoMemory = Unit {0}
