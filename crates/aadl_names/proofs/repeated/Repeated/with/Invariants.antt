use Rattle.std.proofs.Common.{◌≡◌, ◌++◌, map, drop}
use Rattle.aadl_names.specs.Offences.{earliest_from, repeats_from}
use Rattle.aadl_names.proofs.repeated.Repeated.with.Given as goal

abbrev pub invariant-loop-row : goal.invariant-loop-row
invariant-loop-row g l = record {
  seen : l.all.seen ++ map g.R.Keyed.key_of (drop l.row-index l.rows) ≡ l.fn.self.seen ++ map g.R.Keyed.key_of l.rows;
  first : earliest_from l.all.first (repeats_from g.R.Keyed.key_of g.R.Keyed.place_of l.all.seen (drop l.row-index l.rows))
      ≡ earliest_from l.fn.self.first (repeats_from g.R.Keyed.key_of g.R.Keyed.place_of l.fn.self.seen l.rows);
}
