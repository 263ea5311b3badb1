-- Which architectures have a schedule, and what is told of the others (this project's own).
use Rattle.std.specs.Prelude.{◌≡◌, ◌≢◌, ◌⊎◌, ℕ, pos, ◌<◌, ◌≤◌, ◌%◌, [], Some}
use Rattle.std.specs.List.{slice_get}
use Rattle.hw_text.specs.declared.code.Code.TheVariants as code
use Rattle.hw_text.specs.declared.refusal.Refusal.{Refusal}
use Rattle.hw_text.specs.Places.{IsBefore}
use Rattle.arch_model.specs.declared.origin.Origin.{Origin}
use Rattle.arch_model.specs.declared.parts.ArchParts.{ArchParts}
use Rattle.arch_model.specs.declared.pd.Pd.{Pd}
use Rattle.arch_model.specs.declared.role.Role.TheVariants.{Periodic}
use Rattle.domain_sched.specs.Slots.{need_of}

-- a frame has room for all domains
abbrev pub Fits : ArchParts → Type 0
Fits arch = need_of arch ≤ arch.frame

-- a thread is dispatched in each period, and that is no multiple of the frame period
pub record IsUneven (frame : ℕ) (pd : Pd) : Type 0 where
  pub periodic : pd.role ≡ Periodic
  pub uneven : pd.period % frame ≢ 0

-- the domain at this place has such a period, and comes from here
pub record IsUnevenAt (arch : ArchParts) (place : ℕ) (origin : Origin) : Type 0 where
  pub pd : Pd
  pub is_pd : slice_get arch.pds place ≡ Some pd
  pub is_origin : slice_get arch.origins place ≡ Some origin
  pub is_uneven : IsUneven arch.frame pd

abbrev pub AreEven : ArchParts → Type 0
AreEven arch = (place : ℕ) (origin : Origin) → IsUnevenAt arch place origin → ⊥

-- and no thread type that stands earlier in the text has one
pub record IsFirstUneven (arch : ArchParts) (origin : Origin) : Type 0 where
  pub place : ℕ
  pub is_uneven : IsUnevenAt arch place origin
  pub first : (other : ℕ) (earlier : Origin) → IsUnevenAt arch other earlier → IsBefore earlier.at origin.at → ⊥

-- the domains need more than a frame has
abbrev pub overfull : ℕ → ℕ → Refusal
overfull need have = record { code = code.ModelOverfull; place = record { line = 1; column = 1 }; word = []; low = pos need; high = pos have; length = pos 0 }

abbrev pub not_multiple : Origin → Refusal
not_multiple origin = record { code = code.ModelPeriodNotMultiple; place = origin.at; word = origin.thread; low = pos 0; high = pos 0; length = pos 0 }

pub record IsOverfull (arch : ArchParts) (r : Refusal) : Type 0 where
  pub over : arch.frame < need_of arch
  pub told : r ≡ overfull (need_of arch) arch.frame

pub record IsNotMultiple (arch : ArchParts) (r : Refusal) : Type 0 where
  pub fits : Fits arch
  pub origin : Origin
  pub first : IsFirstUneven arch origin
  pub told : r ≡ not_multiple origin

-- the one refusal of an architecture without a schedule
abbrev pub IsRefusedFor : ArchParts → Refusal → Type 0
IsRefusedFor arch r = IsOverfull arch r ⊎ IsNotMultiple arch r
