-- What the search for periods finds among the first domains. No clause of a public function cites this.
use Rattle.std.specs.Prelude.{ℕ, ◌<◌, Option, Some, None}
use Rattle.hw_text.specs.Places.{IsBefore}
use Rattle.arch_model.specs.declared.origin.Origin.{Origin}
use Rattle.arch_model.specs.declared.parts.ArchParts.{ArchParts}
use Rattle.domain_sched.specs.Schedule.{IsUnevenAt}

-- no period of these domains is uneven
abbrev pub AreEvenAmong : ArchParts → ℕ → Type 0
AreEvenAmong arch many = (place : ℕ) (origin : Origin) → place < many → IsUnevenAt arch place origin → ⊥

-- the first in the text, of these domains
pub record IsFirstAmong (arch : ArchParts) (many : ℕ) (origin : Origin) : Type 0 where
  pub place : ℕ
  pub is_uneven : IsUnevenAt arch place origin
  pub first : (other : ℕ) (earlier : Origin) → other < many → IsUnevenAt arch other earlier → IsBefore earlier.at origin.at → ⊥
