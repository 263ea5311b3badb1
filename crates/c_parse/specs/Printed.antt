-- A text that is read as the unit that it was printed from (this project's own; docs/formats/c.md).
use Rattle.std.specs.Prelude.{◌≡◌, ◌≤◌, ℕ, List, [], ◌++◌, length, map, take}
use Rattle.hw_text.specs.declared.place.Place.{Place}
use Rattle.hw_text.specs.WholeTexts.{IsTextOf}
use Rattle.c_tree.specs.Items.{unit_text}
use Rattle.c_tree.specs.UnplacedUnits.{SameUnit}
use Rattle.c_tree.specs.declared.dialect.Dialect.{Dialect}
use Rattle.c_tree.specs.declared.unit.Unit.{Unit as CUnit}
use Rattle.c_parse.specs.Nesting.{brackets_open}
use Rattle.c_parse.specs.Outermost.{IsOutermost}
use Rattle.c_parse.specs.PrintedUnits.{unit_tokens}
use Rattle.c_parse.specs.Tokens.{HasTokens}
use Rattle.c_parse.specs.UnitGrammar.{SpellsUnit}
use Rattle.c_parse.specs.Values.{Tokens}
use Rattle.c_parse.specs.WholeUnits.{unit_rules}

-- the canonical tokens of the unit, which the text has up to its end, are in this grammar a text of a unit that is the same but for places
pub record IsPrintedText (dialect : Dialect) (u : CUnit) (bytes : List ℕ) : Type 0 where
  pub tokens : Tokens
  pub end : Place
  pub read : CUnit
  pub canonical : map (λ t. t.token) tokens ≡ unit_tokens u
  pub lexed : HasTokens bytes tokens end []
  pub spelled : SpellsUnit dialect end read tokens
  pub same : SameUnit u read

-- of the canonical text of a unit: it is no longer than a user's may be, no more brackets are open at once, and no outermost expression of
-- its tokens, wherever they stand, has more tokens
pub record IsWithinLimits (u : CUnit) : Type 0 where
  pub bytes : length (unit_text u) ≤ 1048576
  pub brackets : (k : ℕ) → brackets_open (take k (unit_tokens u)) ≤ 64
  pub expressions : (end : Place) (us es vs : Tokens) → map (λ t. t.token) (us ++ (es ++ vs)) ≡ unit_tokens u → IsOutermost end us es vs → length es ≤ 500

-- the text is one of a unit that is the same but for places
pub record IsReadBack (dialect : Dialect) (u : CUnit) : Type 0 where
  pub read : CUnit
  pub is_text : IsTextOf (unit_rules dialect) (unit_text u) read
  pub same : SameUnit u read
