use Rattle.std.proofs.Common.{◌≡◌, take}
use Rattle.rts_rules.proofs.queue.WaitingQueue.offers.Given as goal

abbrev pub invariant-loop-place : goal.invariant-loop-place
invariant-loop-place l = take l.place l.items ≡ take l.place l.self.items
