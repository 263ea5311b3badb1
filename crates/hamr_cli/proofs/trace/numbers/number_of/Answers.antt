use Rattle.std.proofs.Common.{◌∙◌, sym}
use Rattle.std.proofs.lemmas.Bool.{false≢true}
use Rattle.hamr_cli.proofs.TraceNumbers.{plain-read, number_from-decimal, decimal-is_plain}
use Rattle.hamr_cli.proofs.trace.numbers.number_of.Goals as goal

pub returns-then-is_plain-clause-found : goal.returns-then-is_plain-clause-found
returns-then-is_plain-clause-found c = plain-read c.args.word.now _ (c.is_plain.ensures.0 c.if-is_plain.true) c.digits_of.ensures

pub returns-then-is_plain-clause-only : goal.returns-then-is_plain-clause-only
returns-then-is_plain-clause-only c = λ n h e. c.digits_of.ensures ∙ number_from-decimal n _ h e

pub returns-else-is_plain-clause-only : goal.returns-else-is_plain-clause-only
returns-else-is_plain-clause-only c =
    λ n h e. absurd (false≢true (sym c.if-is_plain.false ∙ c.is_plain.ensures.1 (decimal-is_plain n c.args.word.now h e)))
