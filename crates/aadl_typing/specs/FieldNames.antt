-- Fields of data that are named as words of C (this project's own; the words: ISO/IEC 9899:2011, 6.4.1).
use Rattle.std.specs.Prelude.{Bool, ◌&&◌, if◌then◌else◌, List, Option, Some, None}
use Rattle.hw_text.specs.declared.code.Code.TheVariants as code
use Rattle.hw_text.specs.declared.refusal.Refusal.{Refusal}
use Rattle.hw_types.specs.CWords.{is_c_word}
use Rattle.aadl_tree.specs.declared.subcomponent.Subcomponent.{Subcomponent}
use Rattle.aadl_names.specs.declared.parts.PartRow.{PartRow}
use Rattle.aadl_names.specs.declared.tables.Tables.{Tables}
use Rattle.aadl_names.specs.Offences.{named, offences}
use Rattle.aadl_types.specs.DataRows.{is_data}

-- a subcomponent of a data implementation, which is named as a word of C
abbrev pub is_c_word_field : PartRow Subcomponent → Bool
is_c_word_field row = is_data row.category && is_c_word row.part.name.name

abbrev pub c_word_offence : PartRow Subcomponent → Option Refusal
c_word_offence row = if is_c_word_field row then Some (named code.ModelCKeyword row.part.name.place row.part.name.name) else None

-- the refusals of all such fields
abbrev pub c_word_offences : Tables → List Refusal
c_word_offences t = offences c_word_offence t.subcomponents
