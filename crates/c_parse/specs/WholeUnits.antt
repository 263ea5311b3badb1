-- Which texts are units, in the full grammar or in that of users, and why others are refused: the rules of C (docs/formats/c.md).
use Rattle.std.specs.Prelude.{◌≡◌, ℕ, nat_lt, if◌then◌else◌, List, [], length, Option, Some, None}
use Rattle.std.specs.Option.{option_map}
use Rattle.hw_text.specs.declared.placed.Placed.{Placed}
use Rattle.hw_text.specs.declared.refusal.Refusal.{Refusal}
use Rattle.hw_text.specs.WholeTexts.{Rules}
use Rattle.c_tree.specs.declared.dialect.Dialect.{Dialect}
use Rattle.c_tree.specs.declared.dialect.Dialect.TheVariants.{User, Full}
use Rattle.c_tree.specs.declared.unit.Unit.{Unit as CUnit}
use Rattle.c_parse.specs.declared.token.Token.{Token}
use Rattle.c_parse.specs.Flaws.{flaw_at, flawed}
use Rattle.c_parse.specs.Refusals.{too_long, unexpected_at}
use Rattle.c_parse.specs.Tokens.{HasTokens}
use Rattle.c_parse.specs.UnitGrammar.{SpellsUnit}

-- a text of users has at most 1,048,576 bytes, and a generated one any number
abbrev pub told_before : Dialect → List ℕ → Option Refusal
told_before Full bytes = None
told_before User bytes = if nat_lt 1048576 (length bytes) then Some (too_long (length bytes)) else None

-- the rules of the full grammar, or of that of users: a text ends with its tokens where no bytes are left
abbrev pub unit_rules : Dialect → Rules (Placed Token) (List ℕ) CUnit
unit_rules dialect = record {
  before = told_before dialect;
  lexed = HasTokens;
  whole = λ left. left ≡ [];
  spelled = SpellsUnit dialect;
  flaw = λ ts i. option_map (flawed ts i) (flaw_at dialect ts i);
  unexpected = unexpected_at dialect;
}

abbrev pub full_rules : Rules (Placed Token) (List ℕ) CUnit
full_rules = unit_rules Full

abbrev pub user_rules : Rules (Placed Token) (List ℕ) CUnit
user_rules = unit_rules User
