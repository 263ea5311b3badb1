use Rattle.std.proofs.Common.{◌≡◌, ◌++◌, take, drop, map}
use Rattle.hamr_cli.specs.Names.{are_new}
use Rattle.hamr_cli.proofs.thin.name_set.NameSet.insert_all.Given as goal

abbrev pub invariant-loop-item : goal.invariant-loop-item
invariant-loop-item g l = record {
  same : are_new l.self (map g.T.Named.name_of (drop l.item-index l.items)) ≡ are_new l.fn.self (map g.T.Named.name_of l.items);
  names : l.self ≡ l.fn.self ++ map g.T.Named.name_of (take l.item-index l.items);
}
