-- A text of each section.
use Rattle.std.proofs.Common.{List}
use Rattle.gumbo_parse.specs.declared.class.Variable.{Variable}
use Rattle.gumbo_parse.specs.declared.contract.Clause.{Clause}
use Rattle.gumbo_parse.specs.declared.mark.Mark.TheVariants as mark
use Rattle.hw_reading.specs.Lists.{all_of, SomeOf}
use Rattle.gumbo_parse.specs.Annex.{SpellsClause}
use Rattle.gumbo_parse.specs.Classes.{SpellsVariable, variable_of}
use Rattle.gumbo_parse.specs.Values.{Tokens}
use Rattle.hw_reading.proofs.Choices.{no_members}
use Rattle.gumbo_parse.proofs.ClassForms.{a_class}
use Rattle.gumbo_parse.proofs.ClauseForms.{a_clause}
use Rattle.hw_reading.proofs.Choices.{both, made}
use Rattle.gumbo_parse.proofs.PortForms.{a_sign, a_name}

pub some_variable : (l : List Variable) × (w : Tokens) × SomeOf SpellsVariable l w
some_variable = made all_of (both (made variable_of (both a_name (both (a_sign mark.Colon) (both a_class (a_sign mark.Semicolon))))) no_members)

pub some_clause : (l : List Clause) × (w : Tokens) × SomeOf SpellsClause l w
some_clause = made all_of (both a_clause no_members)
