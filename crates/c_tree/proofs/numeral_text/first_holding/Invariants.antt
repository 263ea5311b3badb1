use Rattle.std.proofs.Common.{◌≡◌, drop}
use Rattle.c_tree.specs.Numerals.{first_holding}
use Rattle.c_tree.proofs.numeral_text.first_holding.Given as goal

abbrev pub invariant-loop-class : goal.invariant-loop-class
invariant-loop-class l = first_holding l.number (drop l.class-index l.types) ≡ first_holding l.number l.types
