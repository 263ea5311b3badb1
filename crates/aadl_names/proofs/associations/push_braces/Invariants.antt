use Rattle.std.proofs.Common.{◌≡◌, ◌++◌, drop}
use Rattle.aadl_names.specs.TableRows.{rows_in_braces}
use Rattle.aadl_names.proofs.associations.push_braces.Given as goal

abbrev pub invariant-loop-number : goal.invariant-loop-number
invariant-loop-number g l =
    l.rows ++ rows_in_braces g.T.Part.own_of (g.T.Part.element_of l.owner) l.number (drop l.number l.parts)
    ≡ l.fn.rows ++ rows_in_braces g.T.Part.own_of (g.T.Part.element_of l.owner) 0 l.parts
