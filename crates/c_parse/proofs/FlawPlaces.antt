-- A flaw is one of a token.
use Rattle.std.proofs.Common.{◌≡◌, ◌∙◌, ◌<◌, sym, ap, ℕ, length, Some, inl, inr}
use Rattle.std.specs.Prelude.{is_some}
use Rattle.std.proofs.lemmas.Bool.{false≢true, cases_lt}
use Rattle.c_tree.specs.declared.dialect.Dialect.{Dialect}
use Rattle.c_parse.specs.declared.flaw.Flaw.{Flaw}
use Rattle.c_parse.specs.Flaws.{flaw_at}
use Rattle.c_parse.specs.Values.{Tokens}
use Rattle.c_parse.proofs.Flawless.{no-flaw-past}

pub flaw-within : (dialect : Dialect) (ts : Tokens) (i : ℕ) (f : Flaw) → flaw_at dialect ts i ≡ Some f → i < length ts
flaw-within dialect ts i f is = elim (cases_lt i (length ts)) [
  | inl within ↦ within
  | inr past ↦ absurd (false≢true (ap is_some (sym (no-flaw-past dialect ts i past) ∙ is)))
]
