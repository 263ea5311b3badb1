-- Refusals by kind (this project's own).
use Rattle.std.specs.Prelude.{ℕ, pos, List, []}
use Rattle.hw_text.specs.declared.code.Code.{Code}
use Rattle.hw_text.specs.declared.place.Place.{Place}
use Rattle.hw_text.specs.declared.refusal.Refusal.{Refusal}

-- of a place, with a word
abbrev pub named : Code → Place → List ℕ → Refusal
named what at told = record { code = what; place = at; word = told; low = pos 0; high = pos 0; length = pos 0 }

-- of a place alone
abbrev pub plain : Code → Place → Refusal
plain what at = named what at []

-- what there is more of than is allowed, how much, and how much is allowed
abbrev pub limit : Code → List ℕ → Place → ℕ → ℕ → Refusal
limit what kind at counted allowed =
    record { code = what; place = at; word = kind; low = pos counted; high = pos allowed; length = pos 0 }
