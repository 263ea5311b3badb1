-- A text of each production.
use Rattle.std.proofs.Common.{◌≡◌, refl, [], ◌++◌, None}
use Rattle.hw_text.specs.declared.place.Place.{Place}
use Rattle.gumbo_parse.specs.declared.expression.Expression.{Expression}
use Rattle.gumbo_parse.specs.declared.level.Level.{Level}
use Rattle.gumbo_parse.specs.declared.level.Level.TheVariants as level
use Rattle.gumbo_parse.specs.declared.level.Form.TheVariants as form
use Rattle.gumbo_parse.specs.Grammar.{Spells, chain, pair, plain, operand, no_operations, no_operation, number, number_at, SpellsStarted, started, start_of, SpellsGroup, whole}
use Rattle.gumbo_parse.specs.Levels.{next, form_of}
use Rattle.gumbo_parse.specs.Values.{Tokens}
use Rattle.gumbo_parse.proofs.BoundForms.{a_number}
use Rattle.hw_reading.proofs.Choices.{made}

abbrev Sample : Level → Type 0
Sample l = (e : Expression) × (w : Tokens) × Spells l e w

chain_sample : (l : Level) → form_of l ≡ form.Chain → Sample (next l) → Sample l
chain_sample l is s = (s.0, s.1 ++ [], chain l s.0 [] s.1 [] s.0 (s.1 ++ []) is refl refl s.2 (no_operations l [] [] refl refl))

pair_sample : (l : Level) → form_of l ≡ form.Pair → Sample (next l) → Sample l
pair_sample l is s = (s.0, s.1 ++ [], pair l s.0 None s.1 [] s.0 (s.1 ++ []) is refl refl s.2 (no_operation l None [] refl refl))

plain_sample : (l : Level) → form_of l ≡ form.Prefix → Sample (next l) → Sample l
plain_sample l is s = (s.0, s.1, plain l s.0 s.1 is s.2)

operand_sample : Sample level.Operand
operand_sample = let n = made number_at a_number in (n.0, n.1, operand level.Operand n.0 n.1 refl (number n.0 n.1 n.2))

sign_sample : Sample level.Sign
sign_sample = plain_sample level.Sign refl operand_sample

product_sample : Sample level.Product
product_sample = chain_sample level.Product refl sign_sample

sum_sample : Sample level.Sum
sum_sample = chain_sample level.Sum refl product_sample

comparison_sample : Sample level.Comparison
comparison_sample = pair_sample level.Comparison refl sum_sample

negation_sample : Sample level.Negation
negation_sample = plain_sample level.Negation refl comparison_sample

conjunction_sample : Sample level.Conjunction
conjunction_sample = chain_sample level.Conjunction refl negation_sample

disjunction_sample : Sample level.Disjunction
disjunction_sample = chain_sample level.Disjunction refl conjunction_sample

pub a_spelled : (l : Level) → (e : Expression) × (w : Tokens) × Spells l e w
a_spelled level.Implication = pair_sample level.Implication refl disjunction_sample
a_spelled level.Disjunction = disjunction_sample
a_spelled level.Conjunction = conjunction_sample
a_spelled level.Negation = negation_sample
a_spelled level.Comparison = comparison_sample
a_spelled level.Sum = sum_sample
a_spelled level.Product = product_sample
a_spelled level.Sign = sign_sample
a_spelled level.Operand = operand_sample

pub a_started : (p : Place × Expression) × (w : Tokens) × SpellsStarted p w
a_started = let s = a_spelled level.Implication in ((start_of s.1, s.0), s.1, started s.0 (start_of s.1, s.0) s.1 refl s.2)

pub a_group : (e : Expression) × (w : Tokens) × SpellsGroup e w
a_group = let s = a_spelled level.Implication in (s.0, s.1, whole s.0 s.1 s.2)
