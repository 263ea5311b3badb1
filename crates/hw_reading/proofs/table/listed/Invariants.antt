use Rattle.std.proofs.Common.{◌≡◌, drop}
use Rattle.hw_reading.specs.Shapes.{listed_in}
use Rattle.hw_reading.proofs.table.listed.Given as goal

abbrev pub invariant-loop-shape : goal.invariant-loop-shape
invariant-loop-shape g l = listed_in g.T.Shaped.same (drop l.shape-index l.rows) (g.T.Shaped.shape l.token) ≡ listed_in g.T.Shaped.same l.rows (g.T.Shaped.shape l.token)
