-- The names and literals that bytes spell (docs/formats/c.md).
use Rattle.std.specs.Prelude.{◌≡◌, ℕ, Bool, true, false, List, codes, Option, Some, None, refl}
use Rattle.c_tree.specs.Names.{is_identifier}
use Rattle.c_tree.specs.Numerals.{is_numeral}
use Rattle.c_tree.specs.declared.identifier.Identifier.{Identifier}
use Rattle.c_tree.specs.declared.numeral.Numeral.{Numeral}

-- such a name, where the test says that the bytes are one
abbrev pub identifier_by : (n : List ℕ) (b : Bool) → is_identifier n ≡ b → Option Identifier
identifier_by n true is = Some (record { bytes = n; spelled = is })
identifier_by n false is = None

abbrev pub identifier_of : List ℕ → Option Identifier
identifier_of n = identifier_by n (is_identifier n) refl

-- such a literal, where the test says that the bytes are one
abbrev pub numeral_by : (n : List ℕ) (b : Bool) → is_numeral n ≡ b → Option Numeral
numeral_by n true is = Some (record { bytes = n; spelled = is })
numeral_by n false is = None

abbrev pub numeral_of : List ℕ → Option Numeral
numeral_of n = numeral_by n (is_numeral n) refl

pub zero_is_numeral : is_numeral (codes "0") ≡ true
unfolding is_numeral
zero_is_numeral = refl

-- the literal `0`
abbrev pub zero : Numeral
zero = record { bytes = codes "0"; spelled = zero_is_numeral }
