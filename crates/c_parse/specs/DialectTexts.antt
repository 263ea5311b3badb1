-- Texts of a grammar in which no range is empty (docs/formats/c.md).
use Rattle.std.specs.Prelude.{ℕ}
use Rattle.hw_text.specs.declared.place.Place.{Place}
use Rattle.c_tree.specs.UnplacedUnits.{SameUnit}
use Rattle.c_tree.specs.declared.dialect.Dialect.{Dialect}
use Rattle.c_tree.specs.declared.unit.Unit.{Unit as CUnit}
use Rattle.c_parse.specs.Ranges.{IsEmptyRange}
use Rattle.c_parse.specs.UnitGrammar.{SpellsUnit}
use Rattle.c_parse.specs.Values.{Tokens}

abbrev pub HasNoEmptyRange : Tokens → Type 0
HasNoEmptyRange ts = (i : ℕ) (at : Place) → IsEmptyRange ts i at → ⊥

-- the grammar has such a text of the unit, but for places
pub record HasText (dialect : Dialect) (u : CUnit) : Type 0 where
  pub tokens : Tokens
  pub end : Place
  pub read : CUnit
  pub spelled : SpellsUnit dialect end read tokens
  pub clear : HasNoEmptyRange tokens
  pub same : SameUnit u read
