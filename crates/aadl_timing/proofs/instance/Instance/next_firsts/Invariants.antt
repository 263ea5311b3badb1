use Rattle.std.proofs.Common.{◌≡◌, ℕ, ◌<◌, List, length, take}
use Rattle.std.specs.List.{slice_get}
use Rattle.aadl_timing.specs.Depths.{systems_among, first_of, AreFirsts}
use Rattle.aadl_timing.proofs.instance.Instance.next_firsts.Given as goal

abbrev pub invariant-loop-at : goal.invariant-loop-at
invariant-loop-at l = record {
  long : length l.firsts ≡ length l.self.tables.now.implementations;
  firsts : (inside : ℕ → List ℕ) → AreFirsts l.below inside → (n : ℕ) → n < length l.firsts →
      first_of l.firsts n ≡ slice_get (systems_among inside l.self.resolved.now l.levels n 0 (take l.at l.self.tables.now.subcomponents)) 0;
}
