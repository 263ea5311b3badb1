use Rattle.std.proofs.Common.{◌+◌, ◌∷◌, ◌++◌, length, inl, inr}
use Rattle.std.proofs.lemmas.Bool.{cases_lt}
use Rattle.c_parse.proofs.Flawless.{flaw-of-long}
use Rattle.c_parse.proofs.LongExpressions.{expression-ended, expression-last, too-long}
use Rattle.c_parse.proofs.flaw_laws.long_expressions.Goals as goal

pub returns-clause-found : goal.returns-clause-found
returns-clause-found c before ts after t x leading text many = too-long ts x text before after t leading many

pub returns-clause-ended : goal.returns-clause-ended
returns-clause-ended c ts after t x text is = expression-ended ts x text after t is

pub returns-clause-last : goal.returns-clause-last
returns-clause-last c ts x text = expression-last ts x text

pub returns-clause-sound : goal.returns-clause-sound
returns-clause-sound c before ts after t x leading text none = elim (cases_lt 500 (length ts)) [
  | inl many ↦ absurd (flaw-of-long (before ++ t ∷ (ts ++ after)) (length before + 501) (too-long ts x text before after t leading many) (none (length before + 501)))
  | inr few ↦ few
]
