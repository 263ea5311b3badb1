-- Refusals by the rows of tables, and which of them is told (this project's own).
use Rattle.std.specs.Prelude.{ℕ, Bool, ◌&&◌, ◌||◌, ◌==◌, nat_lt, pos, codes, is_some, List, [], ◌∷◌, ◌++◌, Option, Some, None, if◌then◌else◌, filter_map}
use Rattle.hw_text.specs.declared.code.Code.{Code}
use Rattle.hw_text.specs.declared.code.Code.TheVariants as code
use Rattle.hw_text.specs.declared.place.Place.{Place}
use Rattle.hw_text.specs.declared.refusal.Refusal.{Refusal}
use Rattle.aadl_names.specs.Keys.{Key, place_of}

abbrev pub named : Code → Place → List ℕ → Refusal
named cause place word = record { code = cause; place = place; word = word; low = pos 0; high = pos 0; length = pos 0 }

abbrev pub is_before : Place → Place → Bool
is_before at other = nat_lt at.line other.line || (at.line == other.line && nat_lt at.column other.column)

-- the earlier of two; at one place the known one
abbrev pub earlier : Option Refusal → Option Refusal → Option Refusal
earlier None found = found
earlier (Some known) None = Some known
earlier (Some known) (Some found) = if is_before found.place known.place then Some found else Some known

-- the earliest of these and of the known one; at one place the first
abbrev pub earliest_from : Option Refusal → List Refusal → Option Refusal
earliest_from known [] = known
earliest_from known (r ∷ rs) = earliest_from (earlier known (Some r)) rs

-- the refusals of the rows that do not pass a test
abbrev pub offences : {R : Type 0} → (R → Option Refusal) → List R → List Refusal
offences test rows = filter_map test rows

-- the second part of a name behind a dot, where there is one
abbrev pub dotted : List ℕ → List ℕ
dotted [] = []
dotted (b ∷ bs) = codes "." ++ b ∷ bs

-- `t`, or `t.i`
abbrev pub key_text : Key → List ℕ
key_text k = k.first ++ dotted k.second

-- the refusals of the rows whose key an earlier row has, behind rows of these keys
abbrev pub repeats_from : {R : Type 0} → (R → Key) → (R → Place) → List Key → List R → List Refusal
repeats_from key place seen [] = []
repeats_from key place seen (row ∷ rows) =
    (if is_some (place_of seen (key row)) then named code.ModelDuplicate (place row) (key_text (key row)) ∷ [] else []) ++
    repeats_from key place (seen ++ key row ∷ []) rows
