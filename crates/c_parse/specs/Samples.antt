-- A name, of which samples of texts are made.
use Rattle.std.specs.Prelude.{◌≡◌, true, codes, refl}
use Rattle.hw_types.specs.CWords.{is_c_word}
use Rattle.c_tree.specs.Names.{is_identifier}
use Rattle.c_tree.specs.declared.identifier.Identifier.{Identifier}

pub a_is_name : is_identifier (codes "a") ≡ true
unfolding is_identifier is_c_word
a_is_name = refl

abbrev pub letter_a : Identifier
letter_a = record { bytes = codes "a"; spelled = a_is_name }
