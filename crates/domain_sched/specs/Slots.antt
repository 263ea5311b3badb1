-- The slots of a frame: one for each domain, in their order, of its upper execution time (this project's own).
use Rattle.std.specs.Prelude.{ℕ, ◌+◌, List, [], ◌∷◌}
use Rattle.std.specs.List.{sum_by}
use Rattle.arch_model.specs.declared.parts.ArchParts.{ArchParts}
use Rattle.arch_model.specs.declared.pd.Pd.{Pd}
use Rattle.domain_sched.specs.declared.slot.Slot.{Slot}

-- the domains being numbered from `place` on
abbrev pub slots_from : ℕ → List Pd → List Slot
slots_from place [] = []
slots_from place (pd ∷ pds) = record { pd = record { 0 = place }; length = pd.upper } ∷ slots_from (place + 1) pds

abbrev pub slots_of : List Pd → List Slot
slots_of pds = slots_from 0 pds

-- what all domains need of a frame, in picoseconds
abbrev pub need_of : ArchParts → ℕ
need_of arch = sum_by (λ pd. pd.upper) arch.pds
